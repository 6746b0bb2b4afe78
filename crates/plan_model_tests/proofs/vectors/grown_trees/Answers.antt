use Rattle.plan_model_tests.proofs.Words.{◌≡◌, ℕ, zero, suc, ◌<◌, Some, None, [], ◌∷◌, arith, refl, ap, inl, inr, ◌⊎◌, unwrap_or, before, after_with}
use Rattle.plan_model_tests.proofs.Words.{both_records, first_by, four_points, three_points, Point, Record, StandsAt, point_at, TreeState, at, same_y}
use Rattle.plan_model_tests.proofs.Decisions.{are_equal, both, either, is_at_most, shown}
use Rattle.plan_model_tests.proofs.OrderDecisions.{of_nodes}
use Rattle.plan_model_tests.proofs.vectors.grown_trees.Goals as goal

abbrev after : TreeState
after = after_with four_points [] (0 ∷ 12803 ∷ 2560 ∷ 10240 ∷ []) both_records

nodes : (n : ℕ) (p : Point) → StandsAt three_points n p → StandsAt four_points n p
nodes zero p h = h
nodes (suc zero) p h = h
nodes (suc (suc zero)) p h = h
nodes (suc (suc (suc n))) p h = cc

records : (k : ℕ) (entry : Record) → before.record_of k ≡ Some entry → after.record_of k ≡ Some entry
records zero entry h = h
records (suc k) entry h = cc

-- a node neither keeps its cost nor falls
higher : (m n : ℕ) (A : Type 0) → m < n → ¬ (((n ≡ m) × A) ⊎ (n < m))
higher m n A h (inl kept) = omega (arith, h, kept.0)
higher m n A h (inr falls) = omega (arith, h, falls)

-- a node neither keeps its parent nor falls
moved : (n a b : ℕ) → a < b → ¬ (((n ≡ n) × (a ≡ b)) ⊎ (n < n))
moved n a b h (inl kept) = omega (arith, h, kept.1)
moved n a b h (inr falls) = omega (arith, falls)

same_points : (n : ℕ) → point_at (Some (at 0 0) ∷ Some (at 0 50) ∷ Some (at 0 10) ∷ None ∷ []) n ≡ point_at three_points n
same_points zero = refl
same_points (suc zero) = refl
same_points (suc (suc zero)) = refl
same_points (suc (suc (suc zero))) = refl
same_points (suc (suc (suc (suc n)))) = refl

same_worker : (one other : Record) → Some one ≡ Some other → one.worker ≡ other.worker
same_worker one other e = ap (λ o. (unwrap_or o one).worker) e

pub returns : goal.returns
returns c = record {
  later = record {
    nodes = nodes;
    first_costs = shown (of_nodes _ three_points (λ n. are_equal _ _)) refl;
    trees = shown (of_nodes _ three_points (λ n. either (both (are_equal _ _) (are_equal _ _)) (is_at_most _ _))) refl;
    records = records;
  };
  node_gone = λ h. let e = h.nodes 2 (at 0 10) refl in cc;
  node_elsewhere = λ h. omega (arith, same_y (at 0 11) (at 0 10) (h.nodes 2 (at 0 10) refl));
  other_first_cost = λ h. omega (arith, h.first_costs 2 refl);
  cost_rose = λ h. higher 12803 12804 (0 ≡ 0) (omega arith) (h.trees 1 refl);
  moved_at_the_same_cost = λ h. moved 23043 0 1 (omega arith) (h.trees 2 refl);
  other_record = λ h. omega (arith, same_worker (first_by 1 12803) (first_by 0 12803) (h.records 0 (first_by 0 12803) refl));
  other_costs = record { points = refl; parents = λ n. refl; written_costs = λ n. refl; records = λ k. refl };
  node_too = λ h. let e = ap (λ points. point_at points 3) h.points in cc;
  parent_too = λ h. omega (arith, h.parents 2);
  written_cost_too = λ h. omega (arith, h.written_costs 0);
  record_too = λ h. let e = h.records 0 in cc;
  same = record {
    points = same_points;
    parents = shown (of_nodes _ three_points (λ n. are_equal _ _)) refl;
    costs = shown (of_nodes _ three_points (λ n. are_equal _ _)) refl;
    records = λ k. refl;
  };
  one_node_more = λ h. let e = h.points 3 in cc;
  other_parent = λ h. omega (arith, h.parents 2 refl);
  other_cost = λ h. omega (arith, h.costs 2 refl);
  record_more = λ h. let e = h.records 1 in cc;
  keeps_first_costs = record {
    kept = shown (of_nodes _ three_points (λ n. is_at_most _ _)) refl;
    bounded = shown (of_nodes _ three_points (λ n. is_at_most _ _)) refl;
  };
  above_first_cost = λ h. omega (arith, h.kept 1 refl);
  first_cost_above_the_bound = λ h. omega (arith, h.bounded 2 refl);
}
