use Rattle.plan_model.proofs.Words.{◌≡◌, take, above_zero, below_zero, reach}
use Rattle.plan_model.proofs.spans.Reach.of.Given as goal

abbrev pub invariant-loop-corner : goal.invariant-loop-corner
invariant-loop-corner l =
    record {
      left : l.far.left ≡ reach (λ v. below_zero v.x) (take l.corner-index l.corners);
      right : l.far.right ≡ reach (λ v. above_zero v.x) (take l.corner-index l.corners);
      down : l.far.down ≡ reach (λ v. below_zero v.y) (take l.corner-index l.corners);
      up : l.far.up ≡ reach (λ v. above_zero v.y) (take l.corner-index l.corners);
    }
