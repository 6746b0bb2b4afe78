use Rattle.route_laws.proofs.CheapestPaths.{best_within_route}
use Rattle.route_laws.proofs.followed_routes.followed_routes_bound_costs.Goals as goal

pub returns : goal.returns
returns c = best_within_route
