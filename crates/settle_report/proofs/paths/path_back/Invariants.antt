use Rattle.settle_report.proofs.Words.{◌≡◌, ◌++◌, IsPresent, state_of_grown}
use Rattle.settle_report.proofs.GrownPaths.{points_up}
use Rattle.settle_report.proofs.paths.path_back.Given as goal

-- the points so far and those from here on are the chain's
abbrev pub invariant-loop-at : goal.invariant-loop-at
invariant-loop-at l = record {
  present : IsPresent (state_of_grown l.grown).points l.at;
  whole : l.points.items ++ points_up (state_of_grown l.grown) l.at ≡ points_up (state_of_grown l.grown) l.node;
}

abbrev pub decreases-loop-at : goal.decreases-loop-at
decreases-loop-at l = (state_of_grown l.grown).cost l.at
