use Rattle.plan_model.proofs.WayLinks.{FollowWays-start}
use Rattle.plan_model.proofs.laws.ways.ways_begin_at_node_0.Goals as goal

pub returns : goal.returns
returns c = FollowWays-start
