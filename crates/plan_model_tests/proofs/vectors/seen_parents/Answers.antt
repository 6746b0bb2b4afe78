use Rattle.plan_model_tests.proofs.Words.{ℕ, arith, refl, ap}
use Rattle.plan_model_tests.proofs.ComputedCosts.{cost_2500}
use Rattle.plan_model_tests.proofs.vectors.seen_parents.Goals as goal

pub returns : goal.returns
returns c = record {
  absent_node = λ h. let e = h.present 3 (0, 0) refl in cc;
  below_its_edge = λ h. omega (arith, (h.hangs 0 (0, 12799) refl).above, cost_2500);
  above_first_cost = λ h. omega (arith, h.first 1 (0, 12804) refl);
  start_below_a_node = λ h. omega (arith, ap (λ (pair : ℕ × ℕ). pair.0) (h.start (1, 0) refl));
}
