use Rattle.seq_planner.proofs.Words.{◌≡◌, length, slice_index, sum, times}
use Rattle.seq_planner.proofs.LoweredBranches.{IsUnderway}
use Rattle.seq_planner.proofs.cost_spreading.spread.Given as goal

-- the nodes of the list are to be lowered next
abbrev pub invariant-loop-number : goal.invariant-loop-number
invariant-loop-number l = record {
  each : length l.costs.items ≡ length l.tree;
  underway : IsUnderway l.tree l.node l.fall (λ n. slice_index l.fn.costs.items n) (λ n. slice_index l.costs.items n) (times l.pending.items);
}

abbrev pub decreases-loop-number : goal.decreases-loop-number
decreases-loop-number l = sum l.costs.items
