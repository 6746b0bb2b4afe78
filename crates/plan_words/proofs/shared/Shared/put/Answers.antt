use Rattle.plan_words.proofs.Words.{◌+◌, ◌≡◌, ◌≤◌, Some, ap, arith, cond, refl, subst, sym, ◌∙◌, ne_eqb, ◌==◌, IfSome, GoesOn, Tells, has_first, last_note}
use Rattle.plan_words.proofs.Words.{linked_at, place_in, saw_at, SeesNode, LeadsTo, ChildOf, place_of, Linked, Treed}
use Rattle.std.proofs.lemmas.Bool.{eq-eqb}
use Rattle.plan_words.proofs.HandSteps.{at_hand, leads_seen, tried_fits}
use Rattle.plan_words.proofs.KeptPairs.{HasPairs-linked, HasPairs-saw, keeps_parent, keeps_view}
use Rattle.plan_words.proofs.LookedNodes.{place_here, seen_low}
use Rattle.plan_words.proofs.Allowing.{may_link}
use Rattle.plan_words.proofs.Owning.{found_whole, in_table, same_run, same_table, tells_on}
use Rattle.plan_words.proofs.ToldHands.{none_held}
use Rattle.plan_words.proofs.shared.Shared.put.Goals as goal
use Rattle.plan_words.proofs.shared.Shared.put.Goals.{After-compare_exchange-found, else-found-eq0, then-found-eq0}

pub unreachable-requires : goal.unreachable-requires
unreachable-requires c = none_held _ _ _ c.pass.view_is c.pass.invariant.1.hand_is c.in_default.is c.requires.hand

pub child-place-requires : goal.child-place-requires
child-place-requires c =
    let own = same_run _ _ _ _ c.pass.view_is c.self.view_is c.requires.belongs in
    let view = c.pass.inside.seat.me.0 in
    let hand = c.in-Some.hand in
    let tied = c.pass.invariant.1 in
    let leads = at_hand (λ h. LeadsTo view h.point c.args.node c.args.right) _ hand (sym tied.hand_is ∙ c.in-Some.is)
    (subst (λ p. IfSome p.view.hand (λ h. LeadsTo p.view h.point c.args.node c.args.right)) (sym c.pass.view_is) c.requires.leads) in
    let seen = leads_seen view hand c.args.node c.args.right tied.lawful leads in
    subst (λ s. c.args.node ≤ s.marks) (sym c.self.invariant.places_are) (seen_low _ _ c.args.node tied.lawful own seen)

pub compare_exchange-found-requires : goal.compare_exchange-found-requires
compare_exchange-found-requires c =
    let same = same_table _ _ _ _ c.pass.view_is c.self.view_is c.requires.belongs in
    let own = same_run _ _ _ _ c.pass.view_is c.self.view_is c.requires.belongs in
    let view = c.pass.inside.seat.me.0 in
    let hand = c.in-Some.hand in
    let tied = c.pass.invariant.1 in
    let held = sym tied.hand_is ∙ c.in-Some.is in
    let stage = at_hand (λ h. h.stage ≡ Treed) _ hand held
    (subst (λ p. IfSome p.view.hand (λ h. h.stage ≡ Treed)) (sym c.pass.view_is) c.requires.treed) in
    let leads = at_hand (λ h. LeadsTo view h.point c.args.node c.args.right) _ hand held
    (subst (λ p. IfSome p.view.hand (λ h. LeadsTo p.view h.point c.args.node c.args.right)) (sym c.pass.view_is) c.requires.leads) in
    let seen = leads_seen view hand c.args.node c.args.right tied.lawful leads in
    let low = seen_low _ _ c.args.node tied.lawful own seen in
    let place = c.child-place.ensures ∙ ap (λ s. place_of s (ChildOf c.args.node c.args.right)) c.self.invariant.places_are in (
      same,
      in_table _ _ _ _ c.self.invariant (ChildOf c.args.node c.args.right) _ low place,
      may_link _ _ _ _ c.self.invariant _ _ _ _ _ hand c.args.node c.args.right low place own held stage leads seen c.from.ensures,
    )

held : (c : After-compare_exchange-found) → c.pass.inside.seat.me.0.hand ≡ Some c.in-Some.hand
held c = sym c.pass.invariant.1.hand_is ∙ c.in-Some.is

seen : (c : After-compare_exchange-found) → SeesNode c.pass.inside.seat.me.0 c.args.node
seen c =
    let view = c.pass.inside.seat.me.0 in
    leads_seen view c.in-Some.hand c.args.node c.args.right c.pass.invariant.1.lawful
    (at_hand (λ h. LeadsTo view h.point c.args.node c.args.right) _ c.in-Some.hand (held c)
    (subst (λ p. IfSome p.view.hand (λ h. LeadsTo p.view h.point c.args.node c.args.right)) (sym c.pass.view_is) c.requires.leads))

place : (c : After-compare_exchange-found) → c.child-place.result ≡ place_in c.pass.inside.seat.me.0 (ChildOf c.args.node c.args.right)
place c =
    place_here c.self.inside.places _ c.pass.inside.seat.me.0 (ChildOf c.args.node c.args.right) _ c.self.invariant.places_are
    (same_run _ _ _ _ c.pass.view_is c.self.view_is c.requires.belongs) c.child-place.ensures

pub overflow_cast-result : goal.overflow_cast-result
overflow_cast-result c =
    let at = (goal.at.overflow_cast-result c).After-compare_exchange-found in
    let told = c.compare_exchange-found.ensures.2.told c.in-Some.hand (held at) in
    omega (
      arith,
      tried_fits c.pass.inside.seat.me.0 c.in-Some.hand _ _ _ (held at) c.args.node c.args.right c.pass.invariant.1.lawful (seen at) (place at)
          told.goes_on.lawful,
    )

pub pack_tree-requires : goal.pack_tree-requires
pack_tree-requires c =
    let held = sym c.pass.invariant.1.hand_is ∙ c.in-Some.is in
    let stage = at_hand (λ h. h.stage ≡ Treed) _ c.in-Some.hand held
    (subst (λ p. IfSome p.view.hand (λ h. h.stage ≡ Treed)) (sym c.pass.view_is) c.requires.treed) in
    let fits = c.pass.invariant.1.lawful.pair_fits c.in-Some.hand held (ap has_first stage) in
    record { parent = omega (arith, fits.0); cost = omega (arith, fits.1) }

pub set-requires-clause-parent : goal.set-requires-clause-parent
set-requires-clause-parent c =
    let at = (goal.at.set-requires-clause-parent c).After-compare_exchange-found in
    let me = c.pass.inside.seat.me in
    let after = c.compare_exchange-found.new.seat.me in
    let hand = c.in-Some.hand in
    let tied = c.pass.invariant.1 in
    let found = c.compare_exchange-found.result in
    let none = eq-eqb found 0 c.if-found-eq0.true in
    let told = subst (λ b. Tells me (cond b (linked_at me.0 hand c.child-place.result (last_note after.0))
    (saw_at me.0 c.child-place.result found found)) after) none
    (c.compare_exchange-found.ensures.2.told hand (held at)) in
    let kept =
    keeps_view me after (linked_at me.0 hand c.child-place.result (last_note after.0)) _ _ _ _ _ _ _ _ c.pass.inside.pairs _ told c.pass.invariant refl
    tied.member_is
    (ap Some (c.after_link.ensures ∙ ap (λ b. cond b (record hand { stage = Linked }) hand) none))
    (HasPairs-linked me.0 hand c.args.node c.args.right _ _ c.pass.inside.pairs c.pack_tree.result tied.lawful (held at)
    (tied.lawful.within c.args.node (seen at)) (place at) c.pack_tree.ensures) in
    keeps_parent after _ _ _ _ _ _ c.pass.inside.pairs (hand.mark + 1) _ kept (omega (arith, c.pass.invariant.3.for_each, tied.lawful.mark hand (held at)))

pub invariant_of-pass : goal.invariant_of-pass
invariant_of-pass c =
    let at = (goal.at.invariant_of-pass c).After-compare_exchange-found in
    let me = c.pass.inside.seat.me in
    let after = c.compare_exchange-found.new.seat.me in
    let hand = c.in-Some.hand in
    let tied = c.pass.invariant.1 in
    let found = c.compare_exchange-found.result in
    let none = eq-eqb found 0 c.if-found-eq0.true in
    let told = subst (λ b. Tells me (cond b (linked_at me.0 hand c.child-place.result (last_note after.0))
    (saw_at me.0 c.child-place.result found found)) after) none
    (c.compare_exchange-found.ensures.2.told hand (held at)) in
    rw c.set.ensures
    (keeps_view me after (linked_at me.0 hand c.child-place.result (last_note after.0)) _ _ _ _ _ _ _ _ c.pass.inside.pairs _ told c.pass.invariant
    refl tied.member_is
    (ap Some (c.after_link.ensures ∙ ap (λ b. cond b (record hand { stage = Linked }) hand) none))
    (HasPairs-linked me.0 hand c.args.node c.args.right _ _ c.pass.inside.pairs c.pack_tree.result tied.lawful (held at)
    (tied.lawful.within c.args.node (seen at)) (place at) c.pack_tree.ensures))

pub invariant_of-pass-else-found-eq0 : goal.invariant_of-pass-else-found-eq0
invariant_of-pass-else-found-eq0 c =
    let at = (goal.at.invariant_of-pass-else-found-eq0 c).After-compare_exchange-found in
    let me = c.pass.inside.seat.me in
    let after = c.compare_exchange-found.new.seat.me in
    let hand = c.in-Some.hand in
    let tied = c.pass.invariant.1 in
    let found = c.compare_exchange-found.result in
    let some_child = ne_eqb found 0 c.if-found-eq0.false in
    let told = subst (λ b. Tells me (cond b (linked_at me.0 hand c.child-place.result (last_note after.0))
    (saw_at me.0 c.child-place.result found found)) after) some_child
    (c.compare_exchange-found.ensures.2.told hand (held at)) in
    keeps_view me after (saw_at me.0 c.child-place.result found found) _ _ _ _ _ _ _ _ c.pass.inside.pairs _ told c.pass.invariant refl tied.member_is
    (ap Some (c.after_link.ensures ∙ ap (λ b. cond b (record hand { stage = Linked }) hand) some_child) ∙ sym (held at))
    (HasPairs-saw me.0 (saw_at me.0 c.child-place.result found found) c.pass.inside.pairs (ChildOf c.args.node c.args.right) _ _ _ tied.lawful
    (tied.lawful.within c.args.node (seen at)) (place at) refl (λ m e. cc))

pub returns-clause-goes_on : goal.returns-clause-goes_on
returns-clause-goes_on c =
    let me = c.pass.inside.seat.me in
    let hand = c.in-Some.hand in
    let place = c.child-place.result in
    let found = c.compare_exchange-found.result in
    let told = c.compare_exchange-found.ensures.2.told hand (sym c.pass.invariant.1.hand_is ∙ c.in-Some.is) in
    let on = tells_on _ me c.compare_exchange-found.new.seat.me
    (cond (found == 0) (linked_at me.0 hand place (last_note c.compare_exchange-found.new.seat.me.0)) (saw_at me.0 place found found))
    (ap (λ p. p.view) c.pass.view_is) told in
    elim c.if-found-eq0.branch [
      | then-found-eq0 w ↦ subst (λ p. GoesOn c.args.pass.now.view p.view) (sym w.pass-is) on
      | else-found-eq0 w ↦ subst (λ p. GoesOn c.args.pass.now.view p.view) (sym w.pass-is) on
    ]

pub returns-clause-whole : goal.returns-clause-whole
returns-clause-whole c all =
    let at = (goal.at.returns-clause-whole c).After-compare_exchange-found in
    found_whole _ _ (ChildOf c.args.node c.args.right) _ _ (ap (λ p. p.view) c.pass.view_is) c.compare_exchange-found.ensures.2.whole (λ e. cc)
    (seen at) (place at) all
