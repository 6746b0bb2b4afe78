use Rattle.plan_words.proofs.Words.{◌≡◌, ◌<◌, ◌≤◌, ap, arith, length, refl, subst, sym, ◌∙◌, ◌==◌, cond, is_some, FindsLess, HasWholeShare, HasLooked}
use Rattle.plan_words.proofs.Words.{last_note, loaded, lowered, MayLower, sees, share, WritesWord, TreeOf}
use Rattle.plan_words.proofs.KeptPairs.{HasPairs-wrote, fits_word, keeps_parent}
use Rattle.plan_words.proofs.Owning.{SitsAt-pass, goes_on_told, with_view_told}
use Rattle.plan_words.proofs.SeatSteps.{Keeps-looked}
use Rattle.plan_words.proofs.shared.Shared.exchange_tree.Goals as goal
use Rattle.plan_words.proofs.shared.Shared.exchange_tree.Goals.{After-word-seen}

pub word-seen-requires : goal.word-seen-requires
word-seen-requires c =
    let lawful = c.pass.invariant.1.lawful in
    let may = subst (λ p. MayLower p.view c.args.node c.args.parent c.args.cost) (sym c.pass.view_is) c.requires.may in
    let node = lawful.tree.rooted.points c.args.node (ap is_some may.seen.stands) in
    omega (arith, c.pass.invariant.3.for_each, lawful.within c.args.node node)

may_inside : (c : After-word-seen) → MayLower c.pass.inside.seat.me.0 c.args.node c.args.parent c.args.cost
may_inside c = subst (λ p. MayLower p.view c.args.node c.args.parent c.args.cost) (sym c.pass.view_is) c.requires.may

within : (c : After-word-seen) → c.args.node ≤ length c.pass.inside.seat.me.0.run.marks
within c =
    let lawful = c.pass.invariant.1.lawful in
    lawful.within c.args.node (lawful.tree.rooted.points c.args.node (ap is_some (may_inside c).seen.stands))

-- the list has the word as it was seen last
seen_inside : (c : After-word-seen) → c.word-seen.result ≡ sees c.pass.inside.seat.me.0 (TreeOf c.args.node)
seen_inside c = c.word-seen.ensures ∙ c.pass.invariant.3.seen c.args.node (within c)

seen_there : (c : After-word-seen) → c.word-seen.result ≡ sees c.args.pass.now.view (TreeOf c.args.node)
seen_there c = seen_inside c ∙ ap (λ p. sees p.view (TreeOf c.args.node)) c.pass.view_is

pub lower_at-found-requires-clause-sits : goal.lower_at-found-requires-clause-sits
lower_at-found-requires-clause-sits c = SitsAt-pass _ _ _ _ _ c.pass.view_is refl refl c.pass.invariant.0 c.requires.belongs

pub lower_at-found-requires-clause-part : goal.lower_at-found-requires-clause-part
lower_at-found-requires-clause-part c = subst (λ p. 0 < share p.view) (sym c.pass.view_is) c.requires.part

pub lower_at-found-requires-clause-may : goal.lower_at-found-requires-clause-may
lower_at-found-requires-clause-may c = may_inside (goal.at.lower_at-found-requires-clause-may c).After-word-seen

pub lower_at-found-requires-clause-seen : goal.lower_at-found-requires-clause-seen
lower_at-found-requires-clause-seen c = seen_inside (goal.at.lower_at-found-requires-clause-seen c).After-word-seen

pub pack_tree-requires : goal.pack_tree-requires
pack_tree-requires c =
    let may = may_inside (goal.at.pack_tree-requires c).After-word-seen in
    let fits = fits_word c.pass.inside.seat.me.0 may.at c.args.parent c.args.cost c.pass.invariant.1.lawful may.below in
    record { parent = omega (arith, fits.0); cost = omega (arith, fits.1) }

pub set-requires-clause-node : goal.set-requires-clause-node
set-requires-clause-node c =
    omega (arith, c.pass.invariant.3.for_each, within (goal.at.set-requires-clause-node c).After-word-seen)

pub set-requires-clause-parent : goal.set-requires-clause-parent
set-requires-clause-parent c =
    let at = (goal.at.set-requires-clause-parent c).After-word-seen in
    let kept = c.lower_at-found.ensures in
    let found = c.lower_at-found.result in
    let me = c.pass.inside.seat.me in
    let pairs = c.pass.inside.pairs in
    let wrote = subst (λ w. WritesWord (TreeOf c.args.node) w (sees me.0) (sees c.lower_at-found.new.seat.me.0))
    (sym (c.after_exchange-word.ensures ∙ ap (λ w. cond (found == c.word-seen.result) w found) c.pack_tree.ensures)) kept.wrote in
    keeps_parent c.lower_at-found.new.seat.me _ _ _ _ _ _ pairs c.args.node _
    (Keeps-looked me c.lower_at-found.new.seat.me _ _ _ _ _ _ _ _ pairs _ c.pass.invariant kept.looks.goes_on kept.looks.kept.crew kept.sits.slots
    (c.pass.invariant.1.hand_is ∙ sym kept.hand) refl
    (HasPairs-wrote me.0 c.lower_at-found.new.seat.me.0 pairs c.args.node _ kept.looks.goes_on.later.run (within at) wrote c.pass.invariant.3))
    (omega (arith, c.pass.invariant.3.for_each, within at))

pub invariant_of-pass : goal.invariant_of-pass
invariant_of-pass c =
    let at = (goal.at.invariant_of-pass c).After-word-seen in
    let kept = c.lower_at-found.ensures in
    let found = c.lower_at-found.result in
    let me = c.pass.inside.seat.me in
    let pairs = c.pass.inside.pairs in
    let wrote = subst (λ w. WritesWord (TreeOf c.args.node) w (sees me.0) (sees c.lower_at-found.new.seat.me.0))
    (sym (c.after_exchange-word.ensures ∙ ap (λ w. cond (found == c.word-seen.result) w found) c.pack_tree.ensures)) kept.wrote in
    rw c.set.ensures
    (Keeps-looked me c.lower_at-found.new.seat.me _ _ _ _ _ _ _ _ pairs _ c.pass.invariant kept.looks.goes_on kept.looks.kept.crew kept.sits.slots
    (c.pass.invariant.1.hand_is ∙ sym kept.hand) refl
    (HasPairs-wrote me.0 c.lower_at-found.new.seat.me.0 pairs c.args.node _ kept.looks.goes_on.later.run (within at) wrote c.pass.invariant.3))

pub returns-clause-view : goal.returns-clause-view
returns-clause-view c =
    let at = (goal.at.returns-clause-view c).After-word-seen in
    let then = c.lower_at-found.new.seat.me.0 in
    let found = c.lower_at-found.result in
    with_view_told _ _ _ then
    (λ v. cond (found == sees v (TreeOf c.args.node)) (lowered v c.args.node c.args.parent c.args.cost (last_note then)) (loaded v (TreeOf c.args.node) found))
    c.pass.view_is (c.lower_at-found.ensures.sits.table_is ∙ sym c.requires.belongs.table ∙ sym (ap (λ p. p.table) c.pass.view_is))
    (subst (λ s. then ≡ cond (found == s) (lowered c.pass.inside.seat.me.0 c.args.node c.args.parent c.args.cost (last_note then))
    (loaded c.pass.inside.seat.me.0 (TreeOf c.args.node) found)) (seen_inside at) c.lower_at-found.ensures.view)

pub returns-clause-goes_on : goal.returns-clause-goes_on
returns-clause-goes_on c = goes_on_told _ _ _ _ c.pass.view_is refl c.lower_at-found.ensures.looks.goes_on

pub returns-clause-shown : goal.returns-clause-shown
returns-clause-shown c = subst (λ p. HasLooked p.view c.lower_at-found.new.seat.me.0) c.pass.view_is c.lower_at-found.ensures.looks.looked

pub returns-clause-found : goal.returns-clause-found
returns-clause-found c off =
    let seen = seen_there (goal.at.returns-clause-found c).After-word-seen in
    subst (λ w. FindsLess w c.lower_at-found.result) seen (c.lower_at-found.ensures.found (λ same. off (same ∙ seen)))

pub returns-clause-whole : goal.returns-clause-whole
returns-clause-whole c all =
    c.lower_at-found.ensures.whole (subst (λ p. HasWholeShare p.view) (sym c.pass.view_is) all)
    ∙ seen_there (goal.at.returns-clause-whole c).After-word-seen
