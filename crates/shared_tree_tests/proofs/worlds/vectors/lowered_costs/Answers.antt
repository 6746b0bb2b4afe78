use Rattle.shared_tree_tests.proofs.Words.{◌≡◌, ℕ, zero, suc, true, false, Some, None, [], ◌∷◌, arith, refl, ap, ◌≢◌, is_some, point_at, placed_by, dearer}
use Rattle.shared_tree_tests.proofs.Words.{entries, tree_by}
use Rattle.shared_tree_tests.specs.SmallRuns.SmallRecords.{two_nodes}
use Rattle.shared_tree_tests.proofs.worlds.vectors.lowered_costs.Goals as goal

elsewhere : (i : ℕ) → i ≢ 1 → (tree_by two_nodes (0 ∷ 0 ∷ []) (0 ∷ 1280 ∷ []) 1281 entries).cost i ≡ dearer.cost i
elsewhere zero apart = refl
elsewhere (suc zero) apart = absurd (apart refl)
elsewhere (suc (suc i)) apart = refl

pub returns : goal.returns
returns c = record {
  lowered = record { here = refl; elsewhere = elsewhere; points = refl; parents = λ i. refl; written_costs = λ i. refl; records = λ k. refl };
  not_lowered = λ h. (let e : 1281 ≡ 1280 = h.here in omega (arith, e));
  other_cost_too = λ h. (let e : 1 ≡ 0 = h.elsewhere 0 (λ e. omega (arith, e)) in omega (arith, e));
  node_gone = λ h. (let e : false ≡ true = ap (λ points. is_some (point_at points 1)) h.points in cc);
  parent_too = λ h. (let e : 1 ≡ 0 = h.parents 1 in omega (arith, e));
  written_cost_too = λ h. (let e : 1280 ≡ 1281 = h.written_costs 1 in omega (arith, e));
  record_gone = λ h. (let e : None ≡ Some (placed_by 0 0 0 0 1281 1) = h.records 0 in cc);
}
