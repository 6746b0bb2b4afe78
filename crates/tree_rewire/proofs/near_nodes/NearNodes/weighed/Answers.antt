use Rattle.tree_rewire.proofs.Words.{◌≡◌, Some, ap, subst, sym, ◌∙◌, slice_get, cost_of, IsWeighed, AreKnown, nodes_on, SeesKnot}
use Rattle.tree_rewire.proofs.ChosenParents.{All-read}
use Rattle.tree_rewire.proofs.CostSteps.{PassSees-point}
use Rattle.tree_rewire.proofs.FoundLists.{All-at, number_read}
use Rattle.tree_rewire.proofs.SeenCosts.{point_later}
use Rattle.tree_rewire.proofs.near_nodes.NearNodes.weighed.Goals as goal

pub returns-in-Listed : goal.returns-in-Listed
returns-in-Listed c =
    let pass = c.args.pass.now in
    let n = c.near_node-node.result in
    let load = c.point-from.ensures in
    let known = subst (λ m. AreKnown m pass.view c.args.p pass.lists) c.in-Listed.is c.requires.known in
    let stands = (All-read (SeesKnot pass.view) pass.lists.near c.args.index n c.near_node-node.ensures known).stands in
    record {
      steps = PassSees-point c.args.shared.now pass c.point-from.new.pass n _ _ c.requires.belongs stands load.view load.goes_on load.seen load.looked;
      node = subst (λ m. slice_get (nodes_on m pass.lists) c.args.index ≡ Some n) (sym c.in-Listed.is) c.near_node-node.ensures;
      edge = c.cost.ensures.value
          ∙ ap (λ q. cost_of q c.args.p) (point_later pass.view c.point-from.new.pass.view load.goes_on n c.point-from.result stands load.found);
    }

pub returns-in-Searched-clause-node : goal.returns-in-Searched-clause-node
returns-in-Searched-clause-node c =
    let lists = c.args.pass.now.lists in
    let x = c.found-found.result in
    subst (λ m. slice_get (nodes_on m lists) c.args.index ≡ Some x.node) (sym c.in-Searched.is)
    (number_read lists.search.found c.args.index x c.found-found.ensures)

pub returns-in-Searched-clause-edge : goal.returns-in-Searched-clause-edge
returns-in-Searched-clause-edge c =
    let pass = c.args.pass.now in
    let x = c.found-found.result in
    let known = subst (λ m. AreKnown m pass.view c.args.p pass.lists) c.in-Searched.is c.requires.known in
    (All-at (IsWeighed pass.view c.args.p) pass.lists.search.found c.args.index x c.found-found.ensures known).edge
