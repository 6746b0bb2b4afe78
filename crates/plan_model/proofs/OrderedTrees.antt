-- A state that keeps the order law: kept costs fall along its parents, are at least its sums, and its sums if they are settled.
use Rattle.plan_model.proofs.Words.{◌≡◌, ℕ, zero, suc, ◌+◌, ◌≤◌, arith, IsPresent, edge_by, FallAlong, TreeState, sum_in, KeepsOrder, Setup}
use Rattle.plan_model.proofs.ChainLaws.{sum-start, sum-parent}
use Rattle.plan_model.proofs.OrderLaws.{start-present, KeepsOrder-falls}

module _ (setup : Setup) (state : TreeState) (order : KeepsOrder setup state) where
  -- kept costs fall along the parents, so chains end at the start
  pub FallAlong-ordered : FallAlong state.cost state.points state.parent
  FallAlong-ordered = record {
    start = start-present setup state order;
    parent = λ n h. (order.hangs n h).present;
    falls = λ n h. KeepsOrder-falls setup state order n h;
  }

  -- the sum of a node is its parent's and the edge
  pub sum_in-start : sum_in state 0 ≡ 0
  sum_in-start = sum-start state.cost state.points state.parent FallAlong-ordered

  pub sum_in-parent : (n : ℕ) → IsPresent state.points (suc n)
      → sum_in state (suc n) ≡ sum_in state (state.parent (suc n)) + edge_by state.points state.parent (suc n)
  sum_in-parent = sum-parent state.cost state.points state.parent FallAlong-ordered

  sum_below : (most n : ℕ) → IsPresent state.points n → state.cost n ≤ most → sum_in state n ≤ state.cost n
  sum_below most zero h l = omega (arith, sum_in-start)
  sum_below zero (suc n) h l = absurd (omega (arith, KeepsOrder-falls setup state order n h, l))
  sum_below (suc most) (suc n) h l =
      let old = order.hangs n h in
      let above = sum_below most (state.parent (suc n)) old.present (omega (arith, KeepsOrder-falls setup state order n h, l)) in
      omega (arith, above, sum_in-parent n h, old.above)

  -- no node is kept at less than its sum
  pub sum_in-le_cost : (n : ℕ) → IsPresent state.points n → sum_in state n ≤ state.cost n
  sum_in-le_cost n h = sum_below (state.cost n) n h (omega arith)
