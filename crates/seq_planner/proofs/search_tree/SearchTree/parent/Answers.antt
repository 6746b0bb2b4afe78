use Rattle.std.proofs.Common.{sym, ◌∙◌}
use Rattle.seq_planner.proofs.ReadCosts.{through-read}
use Rattle.seq_planner.proofs.search_tree.SearchTree.parent.Goals as goal

pub returns-clause-cost : goal.returns-clause-cost
returns-clause-cost c =
    let tree = c.args.self.now in
    c.through.ensures.cost
    ∙ sym (through-read tree.nodes tree.costs.items tree.placed c.args.number c.index-kept_cost.result.now c.point.result c.args.point c.requires.sound
    c.requires.present c.index-kept_cost.ensures c.point.ensures)
