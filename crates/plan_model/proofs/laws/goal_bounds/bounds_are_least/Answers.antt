use Rattle.plan_model.proofs.GoalBoundLaws.{bound_of-least, bound_of-reached}
use Rattle.plan_model.proofs.laws.goal_bounds.bounds_are_least.Goals as goal

pub returns-clause-least : goal.returns-clause-least
returns-clause-least c = bound_of-least

pub returns-clause-reached : goal.returns-clause-reached
returns-clause-reached c = bound_of-reached
