use Rattle.report_judge.proofs.Words.{ℕ, ◌<◌, KeepsPresence}
use Rattle.report_judge.proofs.marks.presence.first_unlike.Given as goal

abbrev pub invariant-loop-k : goal.invariant-loop-k
invariant-loop-k l = (k : ℕ) → k < l.k → KeepsPresence l.knots l.records k
