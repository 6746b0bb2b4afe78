use Rattle.obstacle_boxes.proofs.Words.{take, get_or, arith, take_more}
use Rattle.obstacle_boxes.proofs.NodeLists.{Adds-leaf}
use Rattle.obstacle_boxes.proofs.ZoneTrees.{no_leaf}
use Rattle.obstacle_boxes.proofs.box_nodes.push_leaves.Goals as goal

pub loop-leaf-preserved : goal.loop-leaf-preserved
loop-leaf-preserved c =
    let leaves = c.args.leaves.now in
    let i = c.loop-leaf.leaf-index in
    rw (take_more leaves i no_leaf (omega arith))
    (Adds-leaf (take i leaves) (get_or leaves i no_leaf) c.args.nodes.now.items c.loop-leaf.nodes.items c.push.new.self.items c.loop-leaf.invariant
    c.in_ok-push.ensures.items)
