use Rattle.route_laws.proofs.FollowedRoutes.{IsReached-open_route, IsReached-none_skipped}
use Rattle.route_laws.proofs.followed_routes.routes_are_followed.Goals as goal

pub returns : goal.returns
returns c = record {
  followed = λ setup marks state numbers clear of_run. IsReached-open_route setup marks state clear of_run numbers;
  none_skipped = λ setup marks state numbers clear of_run. IsReached-none_skipped setup marks state clear of_run numbers;
}
