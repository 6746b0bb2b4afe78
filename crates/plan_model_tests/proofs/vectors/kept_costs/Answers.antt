use Rattle.plan_model_tests.proofs.Words.{◌≡◌, ℕ, zero, suc, ◌+◌, ◌≤◌, [], ◌∷◌, arith, refl, costs_of, three_points, IsPresent, edge_by, parent_of, points_of}
use Rattle.plan_model_tests.proofs.Words.{gapped}
use Rattle.plan_model_tests.proofs.ComputedCosts.{cost_2500}
use Rattle.plan_model_tests.proofs.Decisions.{are_equal, denied, implied, is_at_most, is_true, shown}
use Rattle.plan_model_tests.proofs.OrderDecisions.{of_later_nodes}
use Rattle.plan_model_tests.proofs.vectors.kept_costs.Goals as goal

none_rises : (n : ℕ) → costs_of (0 ∷ 12800 ∷ 23040 ∷ []) n ≤ costs_of (0 ∷ 12803 ∷ 23043 ∷ []) n
none_rises zero = omega arith
none_rises (suc zero) = omega arith
none_rises (suc (suc zero)) = omega arith
none_rises (suc (suc (suc n))) = omega arith

edges : (n : ℕ) → IsPresent (points_of gapped) (suc n) → costs_of (0 ∷ 0 ∷ 12800 ∷ []) (suc n)
    ≡ costs_of (0 ∷ 0 ∷ 12800 ∷ []) (parent_of gapped (suc n)) + edge_by (points_of gapped) (parent_of gapped) (suc n)
edges zero h = cc
edges (suc zero) h = omega (arith, cost_2500)
edges (suc (suc n)) h = cc

pub returns : goal.returns
returns c = record {
  lowered = record {
    top = refl;
    start = refl;
    with_parent = shown (of_later_nodes _ three_points (λ n. implied (denied (are_equal _ _)) (are_equal _ _))) refl;
    none_rises = none_rises;
  };
  top_by_less = λ h. omega (arith, h.top);
  start_too = λ h. omega (arith, h.start);
  child_stays = λ h. omega (arith, h.with_parent 1 refl (λ e. omega (arith, e)));
  other_rises = λ h. omega (arith, h.none_rises 3);
  tight = record { start = refl; edges = edges };
  start_at_a_cost = λ h. omega (arith, h.start);
  above_its_edge = λ h. omega (arith, h.edges 1 refl, cost_2500);
  fall = record {
    start = refl;
    parent = shown (of_later_nodes _ (points_of gapped) (λ n. is_true _)) refl;
    falls = shown (of_later_nodes _ (points_of gapped) (λ n. is_at_most _ _)) refl;
  };
  no_fall = λ h. omega (arith, h.falls 1 refl);
  no_start = λ h. let e = h.start in cc;
  no_parent = λ h. let e = h.parent 0 refl in cc;
  nodes_alone = refl;
}
