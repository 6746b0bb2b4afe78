use Rattle.grown_runs.proofs.Words.{◌≡◌, WritesRecords, words_in}
use Rattle.grown_runs.proofs.packed_runs.write_records.Given as goal

-- the records so far are written
abbrev pub invariant-loop-mark : goal.invariant-loop-mark
invariant-loop-mark l = record {
  places : l.words.places ≡ l.fn.words.places;
  records : WritesRecords l.records l.mark (words_in l.fn.words) (words_in l.words);
}
