use Rattle.plan_model.proofs.SteeringLaws.{advanced-forwards, advanced-backwards}
use Rattle.plan_model.proofs.laws.steered_points.steering_rounds_to_start.Goals as goal

pub returns-clause-forwards : goal.returns-clause-forwards
returns-clause-forwards c = advanced-forwards

pub returns-clause-backwards : goal.returns-clause-backwards
returns-clause-backwards c = advanced-backwards
