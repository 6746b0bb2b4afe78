use Rattle.plan_model_tests.proofs.ComputedCosts.{sum-is}
use Rattle.plan_model_tests.proofs.ComputedRuns.{runs}
use Rattle.plan_model_tests.proofs.vectors.rewired_in_turn.Goals as goal

pub returns : goal.returns
returns c = search (runs, sum-is)
