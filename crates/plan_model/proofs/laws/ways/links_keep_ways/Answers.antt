use Rattle.plan_model.proofs.WayLinks.{IsOnWay-fills, EndsBelow-fills, FillsPlaces-links, IsOnWay-linked, FollowWays-links}
use Rattle.plan_model.proofs.laws.ways.links_keep_ways.Goals as goal

pub returns-clause-ways : goal.returns-clause-ways
returns-clause-ways c = FollowWays-links

pub returns-clause-linked : goal.returns-clause-linked
returns-clause-linked c = IsOnWay-linked

pub returns-clause-fills : goal.returns-clause-fills
returns-clause-fills c = λ child after points later q n m side links adds. FillsPlaces-links child after points later q n side m links adds

pub returns-clause-kept : goal.returns-clause-kept
returns-clause-kept c = IsOnWay-fills

pub returns-clause-ends : goal.returns-clause-ends
returns-clause-ends c = EndsBelow-fills
