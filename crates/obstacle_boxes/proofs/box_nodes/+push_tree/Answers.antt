use Rattle.std.proofs.Common.{◌≡◌, length, ◌∙◌}
use Rattle.obstacle_boxes.proofs.NodeLists.{Adds-halves}
use Rattle.obstacle_boxes.proofs.box_nodes.+push_tree.Goals as goal

pub returns : goal.returns
returns t c =
    let before = c.args.nodes.now.items in
    let first : c.len-first.result ≡ length before = c.len-first.ensures ∙ c.args.nodes.now.ok.0 in
    let middle : c.len-middle.result ≡ length c.push_tree.new.nodes.items = c.len-middle.ensures ∙ c.push_tree.new.nodes.ok.0 in
    rw c.split_at.ensures.by_index.0
    (Adds-halves _ _ c.box_round.result c.box_round-2.result before c.push_tree.new.nodes.items c.push_tree-2.new.nodes.items c.push.new.self.items
    c.in_ok-push_tree.ensures c.in_ok-push_tree-2.ensures c.box_round.ensures c.box_round-2.ensures (rw (first, middle) at c.in_ok-push.ensures.items))
