use Rattle.obstacle_boxes.proofs.Words.{take, Adds}
use Rattle.obstacle_boxes.proofs.box_nodes.push_leaves.Given as goal

abbrev pub invariant-loop-leaf : goal.invariant-loop-leaf
invariant-loop-leaf l = Adds (take l.leaf-index l.leaves) l.initial.nodes.items l.nodes.items
