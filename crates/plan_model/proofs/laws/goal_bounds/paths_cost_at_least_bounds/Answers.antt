use Rattle.plan_model.proofs.GoalBoundLaws.{bound_of-path}
use Rattle.plan_model.proofs.laws.goal_bounds.paths_cost_at_least_bounds.Goals as goal

pub returns : goal.returns
returns c = bound_of-path
