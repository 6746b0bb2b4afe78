use Rattle.edge_cost.proofs.Words.{◌-◌, ◌*◌, ◌≤◌, arith, nat_tests, squared_distance}
use Rattle.edge_cost.proofs.ReachedRoots.{within_if_reached, reached_if_within}
use Rattle.edge_cost.proofs.cost_bounds.costs_at_most_through.Goals as goal

pub returns : goal.returns
returns c =
    let n = 65536 * squared_distance c.args.from c.args.to in
    let left = c.args.bound - c.args.cost_to_come in
    let most = c.min-most.result in (
      λ reaches. (let h : n ≤ most * most = grind (arith, nat_tests) in omega (arith, within_if_reached n left most (omega arith) h)),
      λ within. (let h = reached_if_within n left 536870912 (omega arith) (omega (arith, within)) in grind (arith, nat_tests)),
    )
