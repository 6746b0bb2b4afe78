use Rattle.plan_model_tests.proofs.ComputedCosts.{cost-is}
use Rattle.plan_model_tests.proofs.vectors.costs.Goals as goal

pub returns : goal.returns
returns c = search cost-is
