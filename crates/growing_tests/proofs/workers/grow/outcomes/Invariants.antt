use Rattle.std.proofs.Common.{◌≡◌, ◌+◌}
use Rattle.growing_tests.proofs.workers.grow.outcomes.Given as goal

-- the marks so far
abbrev pub invariant-loop-mark : goal.invariant-loop-mark
invariant-loop-mark l = l.placed + l.same + l.blocked + l.skipped ≡ l.mark
