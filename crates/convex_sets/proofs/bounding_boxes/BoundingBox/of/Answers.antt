use Rattle.convex_sets.proofs.Words.{arith, ints, clamps}
use Rattle.convex_sets.proofs.BoxLaws.{IsLeast-more, IsGreatest-more}
use Rattle.convex_sets.proofs.bounding_boxes.BoundingBox.of.Goals as goal

pub loop-corner-preserved : goal.loop-corner-preserved
loop-corner-preserved c =
    let corners = c.args.corners.now in
    let i = c.loop-corner.corner-index in
    let h = c.loop-corner.invariant in
    let a = c.min.ensures.value in
    let b = c.min-in-loop-corner.ensures.value in
    let d = c.max.ensures.value in
    let e = c.max-in-loop-corner.ensures.value in
    record {
      left = IsLeast-more (λ v. v.x) corners i c.loop-corner.low.x _ (omega arith) h.left (omega (arith, ints, clamps));
      bottom = IsLeast-more (λ v. v.y) corners i c.loop-corner.low.y _ (omega arith) h.bottom (omega (arith, ints, clamps));
      right = IsGreatest-more (λ v. v.x) corners i c.loop-corner.high.x _ (omega arith) h.right (omega (arith, ints, clamps));
      top = IsGreatest-more (λ v. v.y) corners i c.loop-corner.high.y _ (omega arith) h.top (omega (arith, ints, clamps));
    }
