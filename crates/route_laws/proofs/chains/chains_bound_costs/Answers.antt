use Rattle.route_laws.proofs.ChainCosts.{best_node-chain, cost-chain, sum_in-chain}
use Rattle.route_laws.proofs.chains.chains_bound_costs.Goals as goal

pub returns : goal.returns
returns c = record { kept = cost-chain; sum = sum_in-chain; path = best_node-chain }
