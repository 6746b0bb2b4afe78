use Rattle.std.proofs.Common.{arith, cond, sym, ◌∙◌}
use Rattle.std.proofs.lemmas.List.Sums.{sum_by_more}
use Rattle.convex_sets.specs.Boxes.{boxes_meet, segment_box}
use Rattle.obstacle_boxes.proofs.ZoneTrees.{no_box}
use Rattle.scene_tests.proofs.box_checks.tests.near_boxes.Goals as goal
use Rattle.scene_tests.proofs.box_checks.tests.near_boxes.Goals.{then-meets, else-meets}

pub loop-bounds-preserved : goal.loop-bounds-preserved
loop-bounds-preserved c =
    let all = c.args.all.now in
    let s = segment_box c.args.a c.args.b in
    let more = sum_by_more (λ bounds. cond (boxes_meet s bounds) 1 0) all c.loop-bounds.bounds-index no_box c.loop-bounds-test.true in
    let old = c.loop-bounds.invariant.counted in
    let few = c.loop-bounds.invariant.few in
    elim c.if-meets.branch [
      | then-meets w ↦ (
          let near = rw c.of_segment-segment.ensures at (sym c.meets.ensures) ∙ w.if-meets.true in
          let one = rw near at more in
          record { counted = omega (arith, w.count-is, old, one); few = omega (arith, w.count-is, few) })
      | else-meets w ↦ (
          let near = rw c.of_segment-segment.ensures at (sym c.meets.ensures) ∙ w.if-meets.false in
          let one = rw near at more in
          record { counted = omega (arith, w.count-is, old, one); few = omega (arith, w.count-is, few) })
    ]
