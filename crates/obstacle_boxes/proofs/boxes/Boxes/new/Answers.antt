use Rattle.std.specs.Prelude.{IsPermutation}
use Rattle.obstacle_boxes.proofs.LeafLists.{reordered}
use Rattle.obstacle_boxes.proofs.NodeLists.{leaves-added, tree-added}
use Rattle.obstacle_boxes.proofs.boxes.Boxes.new.Goals as goal

pub invariant_of-result : goal.invariant_of-result
invariant_of-result c =
    let leaves = c.in_ok-leaves.leaves in
    let permutation : IsPermutation leaves.items c.order.new.leaves = rw c.as_mut_slice.ensures.value at c.order.ensures in
    let is = reordered leaves.items c.order.new.leaves leaves.len leaves.ok.0 permutation in
    record {
      zones = c.zones.result.now;
      are_zones = c.zones.ensures;
      leaves = leaves.items;
      are_leaves = c.in_ok-leaves.ensures;
      permutation = rw (leaves-added _ _ _ c.new-nodes.ensures.items c.in_ok-push_tree.ensures, c.as_slice.ensures.value, is) permutation;
      tree = tree-added _ _ _ c.new-nodes.ensures.items c.in_ok-push_tree.ensures;
    }
