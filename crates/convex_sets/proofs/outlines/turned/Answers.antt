use Rattle.convex_sets.proofs.Words.{ap, corner_at}
use Rattle.convex_sets.proofs.Turned.{IsTurned-push}
use Rattle.convex_sets.proofs.outlines.turned.Goals as goal

pub loop-k-preserved : goal.loop-k-preserved
loop-k-preserved c =
    IsTurned-push c.args.corners.now c.loop-k.outline.items c.push.new.self.items c.args.first c.loop-k.k _ c.loop-k.invariant
    c.in_ok-push.ensures.items (ap (corner_at c.args.corners.now) c.places_after.ensures.value)
