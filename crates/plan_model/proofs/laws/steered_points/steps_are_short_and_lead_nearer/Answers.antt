use Rattle.plan_model.proofs.SteeringLaws.{IsStep-steered, steered-near, near-from_steered, steered-moves, steered-nearer}
use Rattle.plan_model.proofs.laws.steered_points.steps_are_short_and_lead_nearer.Goals as goal

pub returns-clause-steps : goal.returns-clause-steps
returns-clause-steps c = IsStep-steered

pub returns-clause-reached : goal.returns-clause-reached
returns-clause-reached c = λ a b step. (near-from_steered a b step, steered-near a b step)

pub returns-clause-nearer : goal.returns-clause-nearer
returns-clause-nearer c = steered-nearer

pub returns-clause-moves : goal.returns-clause-moves
returns-clause-moves c = steered-moves
