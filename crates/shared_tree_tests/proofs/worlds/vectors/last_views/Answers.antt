use Rattle.shared_tree_tests.proofs.Words.{◌≡◌, ◌≤◌, true, false, Some, None, arith, refl, inl, inr, placed_by, at, same_x}
use Rattle.grown_runs.specs.Table.WordPlaces.{word_at}
use Rattle.shared_tree_tests.proofs.worlds.vectors.last_views.Goals as goal

pub returns : goal.returns
unfolding word_at
returns c = record {
  node_gone = λ h. (let e : false ≡ true = h.nodes 1 (inr (0, true, refl)) in cc);
  node_elsewhere = λ h. (let e : 9 ≡ 8 = same_x (at 9 8) (at 8 9) (h.points 1 (at 8 9) refl) in omega (arith, e));
  cost_rose = λ h. omega (arith, h.trees 1 (omega arith));
  other_parent_at_one_cost = λ h. omega (arith, h.trees 1 (omega arith));
  record_gone = λ h. (let e : None ≡ Some (placed_by 0 0 0 0 1280 1) = h.records 0 (placed_by 0 0 0 0 1280 1) refl in cc);
  counter_above_the_limit = λ h. (let e : 1 ≤ 0 = h.counters 0 (omega arith) in omega (arith, e));
  same_cost = inl (refl, refl);
  lower_cost = inr (omega arith);
}
