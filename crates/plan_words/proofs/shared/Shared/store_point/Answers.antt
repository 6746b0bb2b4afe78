use Rattle.plan_words.proofs.Words.{◌≡◌, ◌<◌, ◌+◌, suc, ap, arith, length, refl, subst, sym, ◌∙◌, IfSome, Tells, IsBounded-steered, IsUnskipped, pointed}
use Rattle.plan_words.proofs.Words.{IsSteered, sizes_in, PointOf, place_of, point_word, Claimed}
use Rattle.std.proofs.lemmas.Grind.{common_steps}
use Rattle.plan_words.proofs.HandSteps.{at_hand}
use Rattle.plan_words.proofs.KeptPairs.{keeps_hand}
use Rattle.plan_words.proofs.Allowing.{may_point}
use Rattle.plan_words.proofs.Owning.{goes_on_told, in_table, same_run, same_table}
use Rattle.plan_words.proofs.ToldHands.{none_held}
use Rattle.plan_words.proofs.shared.Shared.store_point.Goals as goal

pub unreachable-requires : goal.unreachable-requires
unreachable-requires g c = none_held _ _ _ c.pass.view_is c.pass.invariant.1.hand_is c.in_default.is c.requires.hand

pub overflow_cast-hand : goal.overflow_cast-hand
overflow_cast-hand g c =
    let lawful = c.pass.invariant.1.lawful in
    omega (arith, lawful.mark c.in-Some.hand (sym c.pass.invariant.1.hand_is ∙ c.in-Some.is), lawful.run.marks)

pub pack_point-requires : goal.pack_point-requires
pack_point-requires g c =
    let view = c.pass.inside.seat.me.0 in
    let tied = c.pass.invariant.1 in
    let held = sym tied.hand_is ∙ c.in-Some.is in
    let steered = at_hand (λ hand. IsSteered view hand.mark c.args.nearest c.args.p) _ c.in-Some.hand held
    (subst (λ p. IfSome p.view.hand (λ hand. IsSteered p.view hand.mark c.args.nearest c.args.p)) (sym c.pass.view_is) c.requires.steered) in
    IsBounded-steered view c.in-Some.hand.mark c.args.nearest c.args.p (tied.lawful.run.points c.in-Some.hand.mark) steered

pub store-requires : goal.store-requires
store-requires g c =
    let same = same_table _ _ _ _ c.pass.view_is c.self.view_is c.requires.belongs in
    let own = same_run _ _ _ _ c.pass.view_is c.self.view_is c.requires.belongs in
    let view = c.pass.inside.seat.me.0 in
    let hand = c.in-Some.hand in
    let tied = c.pass.invariant.1 in
    let held = sym tied.hand_is ∙ c.in-Some.is in
    let claimed = at_hand (λ h. h.stage ≡ Claimed) _ hand held
    (subst (λ p. IfSome p.view.hand (λ h. h.stage ≡ Claimed)) (sym c.pass.view_is) c.requires.claimed) in
    let steered = at_hand (λ h. IsSteered view h.mark c.args.nearest c.args.p) _ hand held
    (subst (λ p. IfSome p.view.hand (λ h. IsSteered p.view h.mark c.args.nearest c.args.p)) (sym c.pass.view_is) c.requires.steered) in
    let told = subst (λ m. IsSteered view hand.mark m g.S.SteeredFrom.point) (sym c.requires.told_nearest)
    (subst (λ p. IsSteered view hand.mark c.args.nearest p) (sym c.requires.told_point) steered) in
    let unskipped = at_hand (λ h. IsUnskipped view h) _ hand held
    (subst (λ p. IfSome p.view.hand (λ h. IsUnskipped p.view h)) (sym c.pass.view_is) c.requires.unskipped) in
    let next : hand.mark + 1 ≡ suc hand.mark = omega arith in
    let place = c.point-place.ensures ∙ ap (λ n. place_of (sizes_in c.self.inside.places) (PointOf n)) next
    ∙ ap (λ s. place_of s (PointOf (suc hand.mark))) c.self.invariant.places_are in
    let low = subst (λ r. hand.mark < length r.marks) own (tied.lawful.mark hand held) in (
      same,
      in_table _ _ _ _ c.self.invariant (PointOf (suc hand.mark)) _ (omega (arith, low)) place,
      may_point _ _ _ _ c.self.invariant _ _ _ _ _ hand g.S.SteeredFrom.nearest g.S.SteeredFrom.point place own held claimed told
          unskipped (c.pack_point.ensures ∙ ap point_word (sym c.requires.told_point)),
    )

pub invariant_of-pass : goal.invariant_of-pass
invariant_of-pass g c =
    let me = c.pass.inside.seat.me in
    let after = c.store.new.seat.me in
    let hand = c.in-Some.hand in
    let held = sym c.pass.invariant.1.hand_is ∙ c.in-Some.is in
    let told = subst (λ m. Tells me (pointed me.0 hand m c.args.p) after) c.requires.told_nearest
    (subst (λ p. Tells me (pointed me.0 hand g.S.SteeredFrom.nearest p) after) c.requires.told_point (c.store.ensures.2 hand held)) in
    keeps_hand me after (pointed me.0 hand c.args.nearest c.args.p) _ _ _ _ _ _ _ _ told c.pass.invariant refl refl refl (λ n. refl)

pub returns-clause-goes_on : goal.returns-clause-goes_on
returns-clause-goes_on g c =
    let held = sym c.pass.invariant.1.hand_is ∙ c.in-Some.is in
    let told = c.store.ensures.2 c.in-Some.hand held in
    goes_on_told _ _ _ _ c.pass.view_is told.view_is told.goes_on

pub point-place-requires : goal.point-place-requires
point-place-requires g c = grind (arith, common_steps)

pub returns-clause-view : goal.returns-clause-view
returns-clause-view g c = grind (arith, common_steps)
