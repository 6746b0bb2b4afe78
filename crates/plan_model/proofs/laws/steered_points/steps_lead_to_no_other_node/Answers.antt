use Rattle.plan_model.specs.Trees.NodeLists.{point_of}
use Rattle.plan_model.proofs.SteeringLaws.{steered-moves}
use Rattle.plan_model.proofs.SteeredNodes.{steered-is_nearest}
use Rattle.plan_model.proofs.laws.steered_points.steps_lead_to_no_other_node.Goals as goal

pub returns-clause-stays : goal.returns-clause-stays
returns-clause-stays c = steered-is_nearest

pub returns-clause-arrived : goal.returns-clause-arrived
returns-clause-arrived c = λ points q step m n more nearest own.
    steered-moves (point_of points m) q step more (steered-is_nearest points q step m n nearest own)
