use Rattle.plan_words.proofs.Words.{◌≢◌, ℕ, ◌<◌, words_in, RecordOf}
use Rattle.plan_words.proofs.ends.first_unrecorded.Given as goal

-- the marks so far have records
abbrev pub invariant-loop-mark : goal.invariant-loop-mark
invariant-loop-mark l = (k : ℕ) → k < l.mark → words_in l.words (RecordOf k) ≢ 0
