use Rattle.plan_model.proofs.WayLaws.{IsOnWay-unique, IsOnWay-depth, EndsBelow-unique, AreDistinct-ways}
use Rattle.plan_model.proofs.laws.ways.ways_are_unique.Goals as goal

pub returns-clause-node : goal.returns-clause-node
returns-clause-node c = IsOnWay-unique

pub returns-clause-end : goal.returns-clause-end
returns-clause-end c = EndsBelow-unique

pub returns-clause-depth : goal.returns-clause-depth
returns-clause-depth c = IsOnWay-depth

pub returns-clause-distinct : goal.returns-clause-distinct
returns-clause-distinct c = AreDistinct-ways
