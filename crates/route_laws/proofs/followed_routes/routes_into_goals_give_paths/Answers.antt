use Rattle.route_laws.proofs.FollowedPaths.{HasGoalNode-route, ShowsPath-route}
use Rattle.route_laws.proofs.followed_routes.routes_into_goals_give_paths.Goals as goal

pub returns : goal.returns
returns c = record { goal = HasGoalNode-route; report = ShowsPath-route }
