use Rattle.convex_sets.proofs.BoxLaws.{IsLeast, IsGreatest}
use Rattle.convex_sets.proofs.bounding_boxes.BoundingBox.of.Given as goal

abbrev pub invariant-loop-corner : goal.invariant-loop-corner
invariant-loop-corner l =
    record {
      left : IsLeast (λ v. v.x) l.corners l.corner-index l.low.x;
      bottom : IsLeast (λ v. v.y) l.corners l.corner-index l.low.y;
      right : IsGreatest (λ v. v.x) l.corners l.corner-index l.high.x;
      top : IsGreatest (λ v. v.y) l.corners l.corner-index l.high.y;
    }
