use Rattle.report_judge.proofs.Words.{◌≡◌, ℕ, ◌<◌, None, length, slice_index_or, point_key}
use Rattle.report_judge.proofs.trees.nodes.point_keys.Given as goal

-- there is a number for each node so far
abbrev pub invariant-loop-node : goal.invariant-loop-node
invariant-loop-node l = record {
  long : length l.keys.items ≡ l.node;
  told : (n : ℕ) → n < l.node → slice_index_or l.keys.items n 0 ≡ point_key n (slice_index_or l.knots n None);
}
