use Rattle.report_judge.proofs.Words.{ℕ, ◌<◌, KeepsPoint}
use Rattle.report_judge.proofs.heads.first_other_point.Given as goal

-- each point so far is the own one
abbrev pub invariant-loop-place : goal.invariant-loop-place
invariant-loop-place l = (k : ℕ) → k < l.place → KeepsPoint l.points l.own k
