use Rattle.report_judge.proofs.Words.{◌≡◌, ℕ, suc, ◌+◌, ◌<◌, None, length, slice_index_or, state_of_lists, standing_at, standing_of}
use Rattle.report_judge.proofs.Workers.StandingLaws.{node_of_mark}
use Rattle.report_judge.proofs.own.standings.standings.Given as goal

-- the standing of the start, and of the node of each turn so far
abbrev pub invariant-loop-k : goal.invariant-loop-k
invariant-loop-k l = record {
  long : length l.standings.items ≡ l.k-index + 1;
  start : standing_at l.standings.items 0 ≡ standing_of (state_of_lists l.knots l.records) 0;
  each : (turn : ℕ) → turn < l.k-index
      → standing_at l.standings.items (suc turn) ≡ standing_of (state_of_lists l.knots l.records) (node_of_mark (slice_index_or l.turns.marks.items turn None));
}
