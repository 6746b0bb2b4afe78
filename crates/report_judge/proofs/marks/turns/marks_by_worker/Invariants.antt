use Rattle.report_judge.proofs.Words.{◌≡◌, ℕ, ◌<◌, length, slice_get, slice_index_or, turns_of}
use Rattle.report_judge.proofs.marks.turns.marks_by_worker.Given as goal

-- the records so far are counted
abbrev pub invariant-loop-entry : goal.invariant-loop-entry
invariant-loop-entry l = record {
  long : length l.counts ≡ 64;
  counted : (w : ℕ) → w < 64 → slice_index_or l.counts w 0 ≡ turns_of (slice_get l.records) l.entry-index w;
}
