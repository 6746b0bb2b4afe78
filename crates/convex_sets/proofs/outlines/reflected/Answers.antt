use Rattle.convex_sets.proofs.Words.{arith, ints, common_steps, corner_at, reflection}
use Rattle.convex_sets.proofs.Corners.{bounded_corner, bounded_at}
use Rattle.convex_sets.proofs.MergedPaths.{pushed_is}
use Rattle.convex_sets.proofs.outlines.reflected.Goals as goal

pub loop-corner-preserved : goal.loop-corner-preserved
loop-corner-preserved c =
    let corners = c.args.corners.now in
    let i = c.loop-corner.corner-index in
    let v = corner_at corners i in
    let f = bounded_corner v (bounded_at corners i c.requires (omega arith)) in
    let e = pushed_is c.loop-corner.reflected.items c.push.new.self.items _ (reflection v) c.in_ok-push.ensures.items (omega (arith, ints))
    (omega (arith, ints)) in
    grind (arith, common_steps, e)
