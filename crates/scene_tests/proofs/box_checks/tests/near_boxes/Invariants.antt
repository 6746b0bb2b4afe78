use Rattle.std.proofs.Common.{◌≡◌, ◌≤◌, take}
use Rattle.obstacle_boxes.specs.Trees.{near_count}
use Rattle.scene_tests.proofs.box_checks.tests.near_boxes.Given as goal

abbrev pub invariant-loop-bounds : goal.invariant-loop-bounds
invariant-loop-bounds l = record { counted : l.count ≡ near_count (take l.bounds-index l.all) l.fn.a l.fn.b; few : l.count ≤ l.bounds-index }
