use Rattle.std.proofs.Common.{length}
use Rattle.obstacle_boxes.proofs.box_nodes.+push_tree.Given as goal

abbrev pub decreases-push_tree : goal.decreases-push_tree
decreases-push_tree l = length l.leaves.now
