use Rattle.obstacle_boxes.proofs.Words.{take, HoldsAll}
use Rattle.obstacle_boxes.proofs.leaves.box_round.Given as goal

abbrev pub invariant-loop-leaf : goal.invariant-loop-leaf
invariant-loop-leaf l = HoldsAll l.bounds (take l.leaf-index l.leaves)
