use Rattle.tree_rewire.proofs.Words.{arith, subst, StandsAt-present, point_of, IsBounded-seen, squared_distance-low, tree_seen, AreMeasured}
use Rattle.tree_rewire.proofs.near_nodes.NearNodes.weigh.Goals as goal

pub set_edges-requires : goal.set_edges-requires
set_edges-requires c =
    let view = c.args.pass.now.view in
    let p = c.requires.measured.0 in
    let measured = subst (λ m. AreMeasured m view p c.args.pass.now.lists) c.in-Searched.is c.requires.measured.2 in
    λ k d below.
    let own = measured k d below in
    let from = point_of (tree_seen view).points _ in
    let bounded = IsBounded-seen view _ from (StandsAt-present (tree_seen view).points _ own.present) in
    omega (arith, own.distance, squared_distance-low from p bounded c.requires.measured.1)
