use Rattle.plan_model_tests.proofs.ComputedCosts.{bound-is}
use Rattle.plan_model_tests.proofs.vectors.bounds.Goals as goal

pub returns : goal.returns
returns c = record {
  to_a_point = bound-is _ _ _;
  to_a_side = bound-is _ _ _;
  to_a_corner = bound-is _ _ _;
  inside = bound-is _ _ _;
  to_the_second = bound-is _ _ _;
}
