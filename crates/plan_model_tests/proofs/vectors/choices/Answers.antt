use Rattle.plan_model_tests.proofs.Words.{arith}
use Rattle.plan_model_tests.proofs.ComputedCosts.{path_cost-is}
use Rattle.plan_model_tests.proofs.vectors.choices.Goals as goal

pub returns : goal.returns
returns c = search (arith, path_cost-is)
