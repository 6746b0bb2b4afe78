use Rattle.std.proofs.Common.{◌<◌}
use Rattle.edge_cost.proofs.LeastEdges.{IsLeastOfFirst}
use Rattle.edge_cost.proofs.bounds.bound.Given as goal

abbrev pub invariant-loop-goal : goal.invariant-loop-goal
invariant-loop-goal l = IsLeastOfFirst l.goals l.p l.goal-index l.least × (l.least < 2199023255552)
