use Rattle.report_judge.proofs.Words.{◌≡◌, ℕ, ◌++◌, Some, length, slice_get, Record, lines_text, FitsEntry, lines_of_records}
use Rattle.report_judge.proofs.reading.front_lines.read_records.Given as goal

-- the records so far are read
abbrev pub invariant-loop-k : goal.invariant-loop-k
invariant-loop-k l = record {
  long : length l.records.items ≡ l.k;
  told : l.text ≡ lines_text (lines_of_records l.records.items) ++ l.rest;
  fit : (k : ℕ) (entry : Record) → slice_get l.records.items k ≡ Some entry → FitsEntry (record { marks = l.marks; informed = l.informed }) entry;
}
