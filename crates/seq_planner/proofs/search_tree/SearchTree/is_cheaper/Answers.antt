use Rattle.seq_planner.proofs.ReadCosts.{sum-read}
use Rattle.seq_planner.proofs.RewiredNodes.{AreRead, IsCheaperThrough-read, cost-cheaper_through, Clear-cheaper_through}
use Rattle.seq_planner.proofs.search_tree.SearchTree.is_cheaper.Given.{Over}
use Rattle.seq_planner.proofs.search_tree.SearchTree.is_cheaper.Goals as goal
use Rattle.seq_planner.proofs.search_tree.SearchTree.is_cheaper.Goals.{After-costs_less_through}

are_read :
    (g : Over) (c : After-costs_less_through g)
    → AreRead c.args.self.now.nodes c.args.new_node c.args.near_node c.index-new_cost.result.now c.index-kept_cost.result.now c.point-from.result
    c.point-to.result
are_read g c =
    let tree = c.args.self.now in
    record {
      through_is =
          sum-read tree.nodes tree.costs.items tree.placed c.args.new_node c.index-new_cost.result.now c.requires.sound c.requires.present
          c.index-new_cost.ensures;
      kept_is =
          sum-read tree.nodes tree.costs.items tree.placed c.args.near_node c.index-kept_cost.result.now c.requires.sound c.requires.near
          c.index-kept_cost.ensures;
      from_is = c.point-from.ensures;
      to_is = c.point-to.ensures;
    }

pub returns-then-costs_less_through : goal.returns-then-costs_less_through
returns-then-costs_less_through g c =
    let to = goal.at.returns-then-costs_less_through g c in
    let space = g.C.Clearing.space c.args.hall.now in
    let nodes = c.args.self.now.nodes in
    let through = c.index-new_cost.result.now in
    let kept = c.index-kept_cost.result.now in
    let read = are_read g to.After-costs_less_through in (
      λ clear. IsCheaperThrough-read space nodes c.args.new_node c.args.near_node through kept c.point-from.result c.point-to.result read
          (c.costs_less_through.ensures.0 c.if-costs_less_through.true) (c.clear.ensures.0 clear),
      λ h. c.clear.ensures.1
          (Clear-cheaper_through space nodes c.args.new_node c.args.near_node through kept c.point-from.result c.point-to.result read h),
    )

pub returns-else-costs_less_through : goal.returns-else-costs_less_through
returns-else-costs_less_through g c =
    let to = goal.at.returns-else-costs_less_through g c in
    let space = g.C.Clearing.space c.args.hall.now in
    let read = are_read g to.After-costs_less_through in (
      λ yes. (let no = c.if-costs_less_through.false in absurd (cc)),
      λ h. c.costs_less_through.ensures.1 (cost-cheaper_through space c.args.self.now.nodes c.args.new_node c.args.near_node c.index-new_cost.result.now
          c.index-kept_cost.result.now c.point-from.result c.point-to.result read h),
    )
