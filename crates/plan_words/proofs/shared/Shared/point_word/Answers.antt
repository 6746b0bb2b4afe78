use Rattle.plan_words.proofs.Words.{◌+◌, ap, refl, subst, sym, ◌∙◌, HasWholeShare, SeesNode, last_look, loaded, sees, WritesWord, PointOf, TreeOf}
use Rattle.plan_words.proofs.KeptPairs.{HasPairs-kept}
use Rattle.plan_words.proofs.Owning.{SitsAt-pass, goes_on_told, with_view_told}
use Rattle.plan_words.proofs.SeatSteps.{Keeps-looked}
use Rattle.plan_words.proofs.shared.Shared.point_word.Goals as goal

pub point_at-requires-clause-sits : goal.point_at-requires-clause-sits
point_at-requires-clause-sits c = SitsAt-pass _ _ _ _ _ c.pass.view_is refl refl c.pass.invariant.0 c.requires.belongs

pub point_at-requires-clause-seen_node : goal.point_at-requires-clause-seen_node
point_at-requires-clause-seen_node c = subst (λ p. SeesNode p.view c.args.node) (sym c.pass.view_is) c.requires.seen_node

pub invariant_of-pass : goal.invariant_of-pass
invariant_of-pass c =
    let kept = c.point_at.ensures in
    let me = c.pass.inside.seat.me in
    let after = c.point_at.new.seat.me in
    Keeps-looked me after _ _ _ _ _ _ _ _ c.pass.inside.pairs _ c.pass.invariant kept.looks.goes_on kept.looks.kept.crew kept.sits.slots
    (c.pass.invariant.1.hand_is ∙ sym (ap (λ v. v.hand) kept.view)) refl
    (HasPairs-kept me.0 after.0 c.pass.inside.pairs kept.looks.goes_on.later.run (λ n. kept.seen.others (TreeOf n) (λ e. cc)) c.pass.invariant.3)

pub returns-clause-view : goal.returns-clause-view
returns-clause-view c =
    let then = c.point_at.new.seat.me.0 in
    with_view_told _ _ _ then (λ v. loaded v (PointOf c.args.node) (sees then (PointOf c.args.node))) c.pass.view_is
    (c.point_at.ensures.sits.table_is ∙ sym c.requires.belongs.table ∙ sym (ap (λ p. p.table) c.pass.view_is)) c.point_at.ensures.view

pub returns-clause-goes_on : goal.returns-clause-goes_on
returns-clause-goes_on c = goes_on_told _ _ _ _ c.pass.view_is refl c.point_at.ensures.looks.goes_on

pub returns-clause-seen : goal.returns-clause-seen
returns-clause-seen c =
    let then = c.point_at.new.seat.me.0 in
    subst (λ p. WritesWord (PointOf c.args.node) (sees then (PointOf c.args.node)) (sees p.view) (sees then)) c.pass.view_is c.point_at.ensures.seen

pub returns-clause-looked : goal.returns-clause-looked
returns-clause-looked c =
    let then = c.point_at.new.seat.me.0 in
    subst (λ p. WritesWord (PointOf c.args.node) (p.view.steps + 1) (last_look p.view) (last_look then)) c.pass.view_is c.point_at.ensures.looked

pub returns-clause-whole : goal.returns-clause-whole
returns-clause-whole c all =
    c.point_at.ensures.whole (subst (λ p. HasWholeShare p.view) (sym c.pass.view_is) all) ∙ ap (λ p. sees p.view (PointOf c.args.node)) c.pass.view_is
