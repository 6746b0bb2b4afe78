use Rattle.plan_model.proofs.GoalNodes.{IsGoalNode-grows}
use Rattle.plan_model.proofs.SettledRuns.{best_sum-grows, sum_in-grows}
use Rattle.plan_model.proofs.laws.settled_runs.sums_of_settled_runs_fall.Goals as goal

pub returns-clause-sums : goal.returns-clause-sums
returns-clause-sums c = sum_in-grows

pub returns-clause-goals : goal.returns-clause-goals
returns-clause-goals c = IsGoalNode-grows

pub returns-clause-best : goal.returns-clause-best
returns-clause-best c = best_sum-grows
