use Rattle.plan_words.proofs.Words.{◌≡◌, ◌<◌, ◌+◌, suc, ap, arith, length, refl, subst, sym, ◌∙◌, IfSome, Tells, cost_in-tree_word, parent_in-tree_word}
use Rattle.plan_words.proofs.Words.{sizes_in, FirstOf, place_of, cost_in, parent_in, half, MayHang, Pointed}
use Rattle.plan_words.proofs.HandSteps.{at_hand}
use Rattle.plan_words.proofs.KeptPairs.{fits_word, if_hand, keeps_hand}
use Rattle.plan_words.proofs.Allowing.{may_first}
use Rattle.plan_words.proofs.Owning.{goes_on_told, in_table, same_run, same_table, with_view_told}
use Rattle.plan_words.proofs.ToldHands.{none_held}
use Rattle.plan_words.proofs.shared.Shared.store_first.Goals as goal

pub unreachable-requires : goal.unreachable-requires
unreachable-requires c = none_held _ _ _ c.pass.view_is c.pass.invariant.1.hand_is c.in_default.is c.requires.hand

pub overflow_cast-hand : goal.overflow_cast-hand
overflow_cast-hand c =
    let lawful = c.pass.invariant.1.lawful in
    omega (arith, lawful.mark c.in-Some.hand (sym c.pass.invariant.1.hand_is ∙ c.in-Some.is), lawful.run.marks)

pub pack_tree-requires : goal.pack_tree-requires
pack_tree-requires c =
    let view = c.pass.inside.seat.me.0 in
    let may = at_hand (λ h. MayHang view h c.args.parent c.args.cost) _ c.in-Some.hand (sym c.pass.invariant.1.hand_is ∙ c.in-Some.is)
    (subst (λ p. IfSome p.view.hand (λ h. MayHang p.view h c.args.parent c.args.cost)) (sym c.pass.view_is) c.requires.may) in
    let fits = fits_word view c.in-Some.hand.point c.args.parent c.args.cost c.pass.invariant.1.lawful may.below in
    record { parent = omega (arith, fits.0); cost = omega (arith, fits.1) }

pub store-requires : goal.store-requires
store-requires c =
    let same = same_table _ _ _ _ c.pass.view_is c.self.view_is c.requires.belongs in
    let own = same_run _ _ _ _ c.pass.view_is c.self.view_is c.requires.belongs in
    let view = c.pass.inside.seat.me.0 in
    let hand = c.in-Some.hand in
    let tied = c.pass.invariant.1 in
    let held = sym tied.hand_is ∙ c.in-Some.is in
    let stage = at_hand (λ h. h.stage ≡ Pointed) _ hand held
    (subst (λ p. IfSome p.view.hand (λ h. h.stage ≡ Pointed)) (sym c.pass.view_is) c.requires.pointed) in
    let may = at_hand (λ h. MayHang view h c.args.parent c.args.cost) _ hand held
    (subst (λ p. IfSome p.view.hand (λ h. MayHang p.view h c.args.parent c.args.cost)) (sym c.pass.view_is) c.requires.may) in
    let fits = fits_word view hand.point c.args.parent c.args.cost tied.lawful may.below in
    let next : hand.mark + 1 ≡ suc hand.mark = omega arith in
    let place = c.first-place.ensures ∙ ap (λ n. place_of (sizes_in c.self.inside.places) (FirstOf n)) next
    ∙ ap (λ s. place_of s (FirstOf (suc hand.mark))) c.self.invariant.places_are in
    let low = subst (λ r. hand.mark < length r.marks) own (tied.lawful.mark hand held) in (
      same,
      in_table _ _ _ _ c.self.invariant (FirstOf (suc hand.mark)) _ (omega (arith, low)) place,
      may_first _ _ _ _ c.self.invariant _ _ _ _ _ hand c.args.parent c.args.cost place own held stage may c.pack_tree.ensures
          (sym (ap parent_in c.pack_tree.ensures ∙ parent_in-tree_word c.args.parent c.args.cost fits.0))
          (sym (ap cost_in c.pack_tree.ensures ∙ cost_in-tree_word c.args.parent c.args.cost fits.0 fits.1)),
    )

-- the step tells of the parent and the cost that were packed
told_half : (c : goal.After-pass-2-1) → Tells c.pass.inside.seat.me (half c.pass.inside.seat.me.0 c.in-Some.hand c.args.parent c.args.cost) c.store.new.seat.me
told_half c =
    let me = c.pass.inside.seat.me in
    let hand = c.in-Some.hand in
    let held = sym c.pass.invariant.1.hand_is ∙ c.in-Some.is in
    let may = at_hand (λ h. MayHang me.0 h c.args.parent c.args.cost) _ hand held
    (subst (λ p. IfSome p.view.hand (λ h. MayHang p.view h c.args.parent c.args.cost)) (sym c.pass.view_is) c.requires.may) in
    let fits = fits_word me.0 hand.point c.args.parent c.args.cost c.pass.invariant.1.lawful may.below in
    subst (λ p. Tells me (half me.0 hand p c.args.cost) c.store.new.seat.me)
    (ap parent_in c.pack_tree.ensures ∙ parent_in-tree_word c.args.parent c.args.cost fits.0)
    (subst (λ n. Tells me (half me.0 hand (parent_in c.pack_tree.result) n) c.store.new.seat.me)
    (ap cost_in c.pack_tree.ensures ∙ cost_in-tree_word c.args.parent c.args.cost fits.0 fits.1) (c.store.ensures.2 hand held))

pub invariant_of-pass : goal.invariant_of-pass
invariant_of-pass c =
    let me = c.pass.inside.seat.me in
    keeps_hand me c.store.new.seat.me (half me.0 c.in-Some.hand c.args.parent c.args.cost) _ _ _ _ _ _ _ _ (told_half c) c.pass.invariant refl refl refl
    (λ n. refl)

pub returns-clause-view : goal.returns-clause-view
returns-clause-view c =
    let held = sym c.pass.invariant.1.hand_is ∙ c.in-Some.is in
    if_hand _ _ c.in-Some.hand (ap (λ p. p.view.hand) (sym c.pass.view_is) ∙ held)
    (with_view_told _ _ _ c.store.new.seat.me.0 (λ v. half v c.in-Some.hand c.args.parent c.args.cost) c.pass.view_is c.store.ensures.0 (told_half c).view_is)

pub returns-clause-goes_on : goal.returns-clause-goes_on
returns-clause-goes_on c = goes_on_told _ _ _ _ c.pass.view_is (told_half c).view_is (told_half c).goes_on
