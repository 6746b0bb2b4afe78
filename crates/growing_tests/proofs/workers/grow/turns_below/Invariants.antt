use Rattle.std.proofs.Common.{◌≤◌}
use Rattle.growing_tests.proofs.workers.grow.turns_below.Given as goal

-- no more turns than marks so far
abbrev pub invariant-loop-mark : goal.invariant-loop-mark
invariant-loop-mark l = l.turns ≤ l.mark
