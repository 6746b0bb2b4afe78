use Rattle.obstacle_boxes.specs.Trees.{AreLeavesOf}
use Rattle.obstacle_boxes.proofs.leaves.leaves_of.Given as goal

abbrev pub invariant-loop-i : goal.invariant-loop-i
invariant-loop-i l = AreLeavesOf l.zones l.i l.leaves.items
