use Rattle.grown_runs.proofs.Words.{◌≡◌, CountsMarks, sizes_in, words_in}
use Rattle.grown_runs.proofs.packed_runs.count_marks.Given as goal

-- the marks so far are counted
abbrev pub invariant-loop-mark : goal.invariant-loop-mark
invariant-loop-mark l = record {
  places : l.words.places ≡ l.fn.words.places;
  counted : CountsMarks (sizes_in l.fn.words.places) l.mark (words_in l.fn.words) (words_in l.words);
}
