use Rattle.std.proofs.Common.{get_or}
use Rattle.seq_planner.proofs.LeastNumbers.{IsLeastOf}
use Rattle.seq_planner.proofs.goal_nodes.least.Given as goal

-- the best so far
abbrev pub invariant-loop-number : goal.invariant-loop-number
invariant-loop-number l = IsLeastOf (λ n. get_or l.costs n 0) l.numbers l.number-index l.best
