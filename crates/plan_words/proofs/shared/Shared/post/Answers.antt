use Rattle.plan_words.proofs.Words.{◌≤◌, ap, arith, refl, subst, sym, ◌∙◌, MayPost, hand_with_post}
use Rattle.plan_words.proofs.Words.{sees, TreeOf, best_word, cost_in}
use Rattle.plan_words.proofs.KeptPairs.{HasPairs-kept}
use Rattle.plan_words.proofs.Posting.{post_within}
use Rattle.plan_words.proofs.SeatSteps.{Keeps-looked}
use Rattle.plan_words.proofs.shared.Shared.post.Goals as goal

pub word-requires : goal.word-requires
word-requires c =
    let may = subst (λ p. MayPost p.view c.args.node) (sym c.pass.view_is) c.requires.may in
    omega (arith, c.pass.invariant.3.for_each, post_within c.pass.inside.seat.me.0 c.args.node c.pass.invariant.1.lawful may)

pub post_at-requires-clause-cost : goal.post_at-requires-clause-cost
post_at-requires-clause-cost c =
    let may = subst (λ p. MayPost p.view c.args.node) (sym c.pass.view_is) c.requires.may in
    let within = post_within c.pass.inside.seat.me.0 c.args.node c.pass.invariant.1.lawful may in
    c.pair_in-cost.ensures.cost ∙ ap cost_in (c.word.ensures ∙ c.pass.invariant.3.seen c.args.node within)

pub invariant_of-pass : goal.invariant_of-pass
invariant_of-pass c =
    let kept = c.post_at.ensures in
    let me = c.pass.inside.seat.me in
    let after = c.post_at.new.seat.me in
    let pairs = c.pass.inside.pairs in
    Keeps-looked me after _ _ _ _ _ _ _ _ pairs _ c.pass.invariant kept.goes_on (ap (λ v. v.crew) kept.view) kept.sits.slots
    (c.note_post-pass-inside.ensures ∙ ap (λ h. hand_with_post h c.args.node) c.pass.invariant.1.hand_is ∙ sym (ap (λ v. v.hand) kept.view)) refl
    (HasPairs-kept me.0 after.0 pairs kept.goes_on.later.run (λ n. ap (λ v. sees v (TreeOf n)) kept.view) c.pass.invariant.3)

pub returns-clause-posted : goal.returns-clause-posted
returns-clause-posted c =
    let may = subst (λ p. MayPost p.view c.args.node) (sym c.pass.view_is) c.requires.may in
    let within = post_within c.pass.inside.seat.me.0 c.args.node c.pass.invariant.1.lawful may in
    let cost = c.pair_in-cost.ensures.cost ∙ ap cost_in (c.word.ensures ∙ c.pass.invariant.3.seen c.args.node within
    ∙ ap (λ p. sees p.view (TreeOf c.args.node)) c.pass.view_is) in
    subst (λ x. c.post_at.new.seat.me.0.best ≤ best_word x c.args.node) cost c.post_at.ensures.posted
