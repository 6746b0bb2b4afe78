use Rattle.plan_words.proofs.Words.{◌≡◌, length, record_at, words_of_grown}
use Rattle.plan_words.proofs.CountedTurns.{AreCounted}
use Rattle.plan_words.proofs.starts.count_turns.Given as goal

-- the turns of the marks so far
abbrev pub invariant-loop-mark : goal.invariant-loop-mark
invariant-loop-mark l = record {
  sized : length l.turns.items ≡ l.workers;
  counted : AreCounted (record_at (words_of_grown l.grown)) l.workers l.mark l.turns.items;
}
