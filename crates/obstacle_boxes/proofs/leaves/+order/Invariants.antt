use Rattle.std.proofs.Common.{length}
use Rattle.obstacle_boxes.proofs.leaves.+order.Given as goal

abbrev pub decreases-order : goal.decreases-order
decreases-order l = length l.leaves.now
