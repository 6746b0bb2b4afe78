use Rattle.plan_model_tests.proofs.ComputedCosts.{steered-is}
use Rattle.plan_model_tests.proofs.vectors.steps.Goals as goal

pub returns : goal.returns
returns c = search steered-is
