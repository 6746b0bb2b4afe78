use Rattle.grown_runs.specs.Runs.GrownRuns.{state_of_grown}
use Rattle.grown_runs.proofs.Runs.OpeningBests.{IsLeastBelow}
use Rattle.grown_runs.proofs.opening_bests.least_best.Given as goal

-- the least pair of the nodes so far
abbrev pub invariant-loop-node : goal.invariant-loop-node
invariant-loop-node l = IsLeastBelow l.fn.grown.task.scene.goals (state_of_grown l.fn.grown) l.node l.best
