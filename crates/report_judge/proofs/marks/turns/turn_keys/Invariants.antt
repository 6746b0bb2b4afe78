use Rattle.report_judge.proofs.Words.{◌≡◌, ℕ, ◌<◌, Some, length, slice_get, slice_index_or, Record, turn_key}
use Rattle.report_judge.proofs.marks.turns.turn_keys.Given as goal

-- there is a number for each record so far
abbrev pub invariant-loop-entry : goal.invariant-loop-entry
invariant-loop-entry l = record {
  long : length l.keys.items ≡ l.entry-index;
  told : (k : ℕ) (entry : Record) → k < l.entry-index → slice_get l.records k ≡ Some entry → slice_index_or l.keys.items k 0 ≡ turn_key entry;
}
