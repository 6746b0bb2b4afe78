use Rattle.report_judge.proofs.Words.{ℕ, ◌<◌, HasLowTurn}
use Rattle.report_judge.proofs.marks.turns.first_high_turn.Given as goal

-- each turn so far is low
abbrev pub invariant-loop-k : goal.invariant-loop-k
invariant-loop-k l = (k : ℕ) → k < l.k → HasLowTurn l.records k
