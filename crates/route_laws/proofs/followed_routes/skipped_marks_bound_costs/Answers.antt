use Rattle.route_laws.proofs.CheapestPaths.{best_within_bound}
use Rattle.route_laws.proofs.followed_routes.skipped_marks_bound_costs.Goals as goal

pub returns : goal.returns
returns c = best_within_bound
