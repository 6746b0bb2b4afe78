use Rattle.report_judge.proofs.Words.{◌≡◌, ◌-◌, [], length, IsPresent, state_of_lists, best_of}
use Rattle.std.specs.Prelude.{IfSome}
use Rattle.report_judge.proofs.trees.best_paths.best.Given as goal

-- the best of the nodes from here on
abbrev pub invariant-loop-node : goal.invariant-loop-node
invariant-loop-node l = record {
  least : l.best ≡ best_of l.goals (state_of_lists l.knots []) l.node (length l.knots - l.node);
  present : IfSome l.best (IsPresent (state_of_lists l.knots []).points);
}
