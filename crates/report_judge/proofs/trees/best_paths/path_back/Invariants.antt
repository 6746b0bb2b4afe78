use Rattle.report_judge.proofs.Words.{◌≡◌, [], ◌++◌, IsPresent, state_of_lists, points_up}
use Rattle.report_judge.proofs.trees.best_paths.path_back.Given as goal

-- the points so far and those from here on are the chain's
abbrev pub invariant-loop-at : goal.invariant-loop-at
invariant-loop-at l = record {
  present : IsPresent (state_of_lists l.knots []).points l.at;
  whole : l.points.items ++ points_up (state_of_lists l.knots []) l.at ≡ points_up (state_of_lists l.knots []) l.node;
}

abbrev pub decreases-loop-at : goal.decreases-loop-at
decreases-loop-at l = (state_of_lists l.knots []).cost l.at
