use Rattle.settle_report.proofs.Words.{◌≡◌, ◌+◌, ◌-◌, IfSome, goals_of, IsPresent, state_of_grown}
use Rattle.settle_report.proofs.GoalNodes.{best_of}
use Rattle.settle_report.proofs.best_node.best.Given as goal

-- the best of the nodes from here on
abbrev pub invariant-loop-node : goal.invariant-loop-node
invariant-loop-node l = record {
  least : l.best ≡ best_of (goals_of l.grown.task.scene) (state_of_grown l.grown) l.node (l.grown.limit + 1 - l.node);
  present : IfSome l.best (IsPresent (state_of_grown l.grown).points);
}
