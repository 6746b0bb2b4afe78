use Rattle.kd_shared.proofs.Words.{ℕ, not, Option, Some, None, inl, inr, refl, sym, ◌∙◌, subst, arith, leb-false, Point, Sight, IsLaterMoment-refl, Spot}
use Rattle.kd_shared.proofs.Words.{sight_in, KeepsSight-lawful, far_side, line_square, LoadsFar, LoadsSpot}
use Rattle.kd_shared.proofs.nearest_search.far_spot.Goals as goal

pub returns-then-not-reaches-clause-loads : goal.returns-then-not-reaches-clause-loads
returns-then-not-reaches-clause-loads c =
    let too_far = leb-false (line_square c.args.above c.args.p) c.args.bound (sym c.reaches.ensures ∙ c.if-not-reaches.true) in
    record {
      later = IsLaterMoment-refl (sight_in c.args.pass.now.view);
      keeps = KeepsSight-lawful c.args.pass.now.view c.requires.belongs.lawful;
      finds = (inr (omega (arith, too_far)), (λ n. refl));
    }

LoadsFar-spot : (before after : Sight) (target : Point) (bound : ℕ) (spot : Spot) (child : Option Spot)
    → LoadsSpot before after spot (far_side spot target) child → LoadsFar before after target bound spot child
LoadsFar-spot before after target bound spot None h = record { later = h.later; keeps = h.keeps; finds = (inl h.finds.0, h.finds.1) }
LoadsFar-spot before after target bound spot (Some child) h = record { later = h.later; keeps = h.keeps; finds = h.finds }

pub returns-clause-loads : goal.returns-clause-loads
returns-clause-loads c =
    LoadsFar-spot (sight_in c.args.pass.now.view) (sight_in c.child_spot.new.pass.view) c.args.p c.args.bound c.args.above c.child_spot.result
    (subst (λ side. LoadsSpot (sight_in c.args.pass.now.view) (sight_in c.child_spot.new.pass.view) c.args.above (not side) c.child_spot.result)
    c.goes_right_of-right.ensures c.child_spot.ensures.loads)
