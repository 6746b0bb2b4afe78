use Rattle.convex_sets.proofs.ConvexPolygons.{IsConvex-from_test}
use Rattle.swept_check.proofs.BoxRejects.{meets-crossed}
use Rattle.swept_check.proofs.zone_crossings.is_crossed.Goals as goal

pub returns-else-meets : goal.returns-else-meets
returns-else-meets c = (
  λ t. cc,
  λ x. absurd (
      let met = meets-crossed c.args.zone.now c.args.a c.args.b c.bounding_box.result
      (IsConvex-from_test c.args.zone.now c.corners-corners.ensures.convex) c.bounding_box.ensures x in
      let segment = c.requires.segment in
      let apart = c.if-meets.ensures in
      cc),
)
