use Rattle.report_judge.proofs.Words.{◌≡◌, ◌+◌, ◌≤◌, ℕ, Some, length, slice_get, state_of_lists, AreSeen, Seen}
use Rattle.report_judge.proofs.own.seen_nodes.seen_by_turn.Given as goal

-- what stood before each turn so far, and before this one
abbrev pub invariant-loop-k : goal.invariant-loop-k
invariant-loop-k l = record {
  long : length l.all.items ≡ l.k-index;
  room : l.seen.nodes ≤ l.k-index + 1;
  now : AreSeen l.goals (state_of_lists l.knots l.records) l.turns.worker l.k-index l.seen;
  each : (turn : ℕ) (own : Seen) → slice_get l.all.items turn ≡ Some own → AreSeen l.goals (state_of_lists l.knots l.records) l.turns.worker turn own;
}
