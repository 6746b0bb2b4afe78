use Rattle.plan_model_tests.proofs.ComputedCosts.{sum-is}
use Rattle.plan_model_tests.proofs.vectors.trees.Goals as goal

pub returns : goal.returns
returns c = search sum-is
