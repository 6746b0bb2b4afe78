use Rattle.grown_runs.specs.Runs.GrownRuns.{state_of_grown}
use Rattle.twin_trees.proofs.NumberedNodes.{AreNodesBelow}
use Rattle.twin_trees.proofs.nodes.nodes_of.Given as goal

abbrev pub invariant-loop-number : goal.invariant-loop-number
invariant-loop-number l = AreNodesBelow (state_of_grown l.grown) l.nodes.items l.number
