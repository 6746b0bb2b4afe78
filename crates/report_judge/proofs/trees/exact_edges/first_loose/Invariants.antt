use Rattle.report_judge.proofs.Words.{ℕ, ◌<◌, KeepsEdges}
use Rattle.report_judge.proofs.trees.exact_edges.first_loose.Given as goal

-- each node so far hangs exactly
abbrev pub invariant-loop-node : goal.invariant-loop-node
invariant-loop-node g l = (k : ℕ) → k < l.node → KeepsEdges (g.C.Clearing.space l.hall) l.squared_step l.knots k
