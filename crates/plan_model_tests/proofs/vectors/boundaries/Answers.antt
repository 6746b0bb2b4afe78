use Rattle.plan_model_tests.proofs.Words.{arith, subst, IsRootCeiling, root_ceiling-from_squares, root_ceiling-is}
use Rattle.plan_model_tests.proofs.vectors.boundaries.Goals as goal

pub returns : goal.returns
returns c = record {
  bounded = record { right = omega arith; top = omega arith };
  too_far_right = λ h. omega (arith, h.right);
  too_far_up = λ h. omega (arith, h.top);
  root_of_16 = subst (IsRootCeiling 16) (root_ceiling-from_squares 16 4 (omega arith) (omega arith)) (root_ceiling-is 16);
  root_of_17 = subst (IsRootCeiling 17) (root_ceiling-from_squares 17 5 (omega arith) (omega arith)) (root_ceiling-is 17);
  square_below = λ h. omega (arith, h.reaches);
  not_least = λ h. omega (arith, h.least 4 (omega arith));
  cost_of_diagonal = subst (IsRootCeiling 131072) (root_ceiling-from_squares 131072 363 (omega arith) (omega arith)) (root_ceiling-is 131072);
  less_than_cost = λ h. omega (arith, h.reaches);
  more_than_cost = λ h. omega (arith, h.least 363 (omega arith));
  step = record { short = omega arith; within = record { left = omega arith; right = omega arith; bottom = omega arith; top = omega arith } };
  step_along_the_box = record { short = omega arith; within = record { left = omega arith; right = omega arith; bottom = omega arith; top = omega arith } };
  step_too_long = λ h. omega (arith, h.short);
  left_of_the_box = λ h. omega (arith, h.within.left);
  right_of_the_box = λ h. omega (arith, h.within.right);
  below_the_box = λ h. omega (arith, h.within.bottom);
  above_the_box = λ h. omega (arith, h.within.top);
  corner_of_room = record { horizontal = omega arith; vertical = omega arith };
  right_of_room = λ h. omega (arith, h.horizontal);
  above_room = λ h. omega (arith, h.vertical);
}
