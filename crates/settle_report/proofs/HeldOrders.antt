-- What the order law of a closed run says of its parents, its kept costs and its sums.
use Rattle.settle_report.proofs.Words.{◌≡◌, ℕ, zero, suc, ◌+◌, ◌<◌, ◌≤◌, arith, sym, subst, Task, IsPresent, setup_of, edge_by, sum_in, parent-present}
use Rattle.settle_report.proofs.Words.{sum_in-le_cost, Words, state_of_grown, words_of_grown, HoldRun, sizes_of, state_of_words, node-held, Grown}

module _ (task : Task) (limit : ℕ) (words : Words) (held : HoldRun task limit words) where
  -- the parent of a node is present
  pub parent-held :
      (n : ℕ) → IsPresent (state_of_words (sizes_of task) words).points n
      → IsPresent (state_of_words (sizes_of task) words).points ((state_of_words (sizes_of task) words).parent n)
  parent-held n here =
      parent-present (setup_of task.scene) (state_of_words (sizes_of task) words) held.closed.order n here

  -- a node but the start costs at least what its parent costs and the edge
  pub edge-held :
      (n : ℕ) → 0 < n → IsPresent (state_of_words (sizes_of task) words).points n
      → (state_of_words (sizes_of task) words).cost ((state_of_words (sizes_of task) words).parent n)
      + edge_by (state_of_words (sizes_of task) words).points (state_of_words (sizes_of task) words).parent n
      ≤ (state_of_words (sizes_of task) words).cost n
  edge-held zero other here = absurd (omega (arith, other))
  edge-held (suc n) other here = (held.closed.order.hangs n here).above

  -- it costs at least its sum
  pub sum-held :
      (n : ℕ) → IsPresent (state_of_words (sizes_of task) words).points n
      → sum_in (state_of_words (sizes_of task) words) n ≤ (state_of_words (sizes_of task) words).cost n
  sum-held n here =
      sum_in-le_cost (setup_of task.scene) (state_of_words (sizes_of task) words) held.closed.order n here

module _ (grown : Grown) where
  -- a node's number is within the limit
  pub number-grown : (n : ℕ) → IsPresent (state_of_grown grown).points n → n ≤ grown.limit
  number-grown n here = node-held grown.task grown.limit (words_of_grown grown) grown.hold_run n here

  -- what was read as the parent of a node is present
  pub parent-grown : (n parent : ℕ) → parent ≡ (state_of_grown grown).parent n → IsPresent (state_of_grown grown).points n
      → IsPresent (state_of_grown grown).points parent
  parent-grown n parent is here =
      subst (IsPresent (state_of_grown grown).points) (sym is) (parent-held grown.task grown.limit (words_of_grown grown) grown.hold_run n here)
