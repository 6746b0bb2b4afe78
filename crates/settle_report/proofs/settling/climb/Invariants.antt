use Rattle.settle_report.proofs.Words.{◌≡◌, ◌<◌, IsPresent, state_of_grown, LeadsDown}
use Rattle.settle_report.proofs.settling.climb.Given as goal

-- from the node that was climbed to, the list leads back
abbrev pub invariant-loop-parent : goal.invariant-loop-parent
invariant-loop-parent l = record {
  present : IsPresent (state_of_grown l.grown).points l.at;
  other : 0 < l.at;
  above : l.parent ≡ (state_of_grown l.grown).parent l.at;
  way : LeadsDown (state_of_grown l.grown) l.below l.at l.node;
}

abbrev pub decreases-loop-parent : goal.decreases-loop-parent
decreases-loop-parent l = (state_of_grown l.grown).cost l.at
