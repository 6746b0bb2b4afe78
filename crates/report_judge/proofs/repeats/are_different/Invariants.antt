use Rattle.std.proofs.Common.{ℕ, ◌+◌, ◌<◌, get_or}
use Rattle.report_judge.proofs.repeats.are_different.Given as goal

-- the numbers so far rise
abbrev pub invariant-loop-place : goal.invariant-loop-place
invariant-loop-place l = (k : ℕ) → k + 1 < l.place → get_or l.sorted.items k 0 < get_or l.sorted.items (k + 1) 0
