use Rattle.plan_words.proofs.Words.{◌≡◌, ◌<◌, ◌+◌, Some, suc, ap, arith, length, refl, subst, sym, ◌∙◌, IfSome, sizes_in, TreeOf, place_of, has_first, treed}
use Rattle.plan_words.proofs.Words.{Half}
use Rattle.plan_words.proofs.HandSteps.{at_hand}
use Rattle.plan_words.proofs.KeptPairs.{keeps_hand}
use Rattle.plan_words.proofs.Allowing.{may_tree}
use Rattle.plan_words.proofs.Owning.{in_table, same_run, same_table}
use Rattle.plan_words.proofs.ToldHands.{none_held}
use Rattle.plan_words.proofs.shared.Shared.store_tree.Goals as goal

pub unreachable-requires : goal.unreachable-requires
unreachable-requires c = none_held _ _ _ c.pass.view_is c.pass.invariant.1.hand_is c.in_default.is c.requires.hand

pub overflow_cast-hand : goal.overflow_cast-hand
overflow_cast-hand c =
    let lawful = c.pass.invariant.1.lawful in
    omega (arith, lawful.mark c.in-Some.hand (sym c.pass.invariant.1.hand_is ∙ c.in-Some.is), lawful.run.marks)

pub pack_tree-requires : goal.pack_tree-requires
pack_tree-requires c =
    let held = sym c.pass.invariant.1.hand_is ∙ c.in-Some.is in
    let stage = at_hand (λ h. h.stage ≡ Half) _ c.in-Some.hand held
    (subst (λ p. IfSome p.view.hand (λ h. h.stage ≡ Half)) (sym c.pass.view_is) c.requires.half) in
    let fits = c.pass.invariant.1.lawful.pair_fits c.in-Some.hand held (ap has_first stage) in
    record { parent = omega (arith, fits.0); cost = omega (arith, fits.1) }

pub store-requires : goal.store-requires
store-requires c =
    let same = same_table _ _ _ _ c.pass.view_is c.self.view_is c.requires.belongs in
    let own = same_run _ _ _ _ c.pass.view_is c.self.view_is c.requires.belongs in
    let hand = c.in-Some.hand in
    let tied = c.pass.invariant.1 in
    let held = sym tied.hand_is ∙ c.in-Some.is in
    let stage = at_hand (λ h. h.stage ≡ Half) _ hand held
    (subst (λ p. IfSome p.view.hand (λ h. h.stage ≡ Half)) (sym c.pass.view_is) c.requires.half) in
    let next : hand.mark + 1 ≡ suc hand.mark = omega arith in
    let place = c.tree-place.ensures ∙ ap (λ n. place_of (sizes_in c.self.inside.places) (TreeOf n)) next
    ∙ ap (λ s. place_of s (TreeOf (suc hand.mark))) c.self.invariant.places_are in
    let low = subst (λ r. hand.mark < length r.marks) own (tied.lawful.mark hand held) in (
      same,
      in_table _ _ _ _ c.self.invariant (TreeOf (suc hand.mark)) _ (omega (arith, low)) place,
      may_tree _ _ _ _ c.self.invariant _ _ _ _ _ hand place own held stage c.pack_tree.ensures,
    )

pub invariant_of-pass : goal.invariant_of-pass
invariant_of-pass c =
    let hand = c.in-Some.hand in
    let held = sym c.pass.invariant.1.hand_is ∙ c.in-Some.is in
    let me = c.pass.inside.seat.me in
    keeps_hand me c.store.new.seat.me (treed me.0 hand) _ _ c.at_stage.result _ _ _ _ _ (c.store.ensures.2 hand held) c.pass.invariant refl refl
    (ap Some (sym c.at_stage.ensures)) (λ n. refl)
