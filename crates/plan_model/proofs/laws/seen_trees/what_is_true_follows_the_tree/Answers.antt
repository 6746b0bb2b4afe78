use Rattle.plan_model.proofs.TrueSights.{IsPresent-true, AreDistinct-true, cost-true, IsOnWay-true, IsOnSeenWay-true, FollowSeenWays-true}
use Rattle.plan_model.proofs.laws.seen_trees.what_is_true_follows_the_tree.Goals as goal

pub returns-clause-nodes : goal.returns-clause-nodes
returns-clause-nodes c = IsPresent-true

pub returns-clause-distinct : goal.returns-clause-distinct
returns-clause-distinct c = AreDistinct-true

pub returns-clause-costs : goal.returns-clause-costs
returns-clause-costs c = cost-true

pub returns-clause-ways : goal.returns-clause-ways
returns-clause-ways c = IsOnWay-true

pub returns-clause-seen_ways : goal.returns-clause-seen_ways
returns-clause-seen_ways c = IsOnSeenWay-true

pub returns-clause-follow : goal.returns-clause-follow
returns-clause-follow c = FollowSeenWays-true
