use Rattle.settle_report.proofs.Words.{ℕ, ◌-◌, ◌<◌, false, IsTrue, slice_index_or, IsPresent, state_of_grown, LeadsDown}
use Rattle.settle_report.proofs.MarkedRuns.{SettlesMarked}
use Rattle.settle_report.proofs.settling.settle_down.Given as goal

-- Costs alone have changed, the next node's parent is settled, and the list leads on from that node.
abbrev pub invariant-loop-at : goal.invariant-loop-at
invariant-loop-at l = record {
  settles : SettlesMarked l.fn.grown l.grown l.settled;
  keeps : (n : ℕ) → IsTrue (slice_index_or l.fn.settled n false) → IsTrue (slice_index_or l.settled n false);
  present : IsPresent (state_of_grown l.fn.grown).points l.at;
  other : 0 < l.at;
  hangs : IsTrue (slice_index_or l.settled ((state_of_grown l.fn.grown).parent l.at) false);
  way : LeadsDown (state_of_grown l.fn.grown) l.below l.at l.node;
}

-- the kept costs of the start of the call rise on the way down
abbrev pub decreases-loop-at : goal.decreases-loop-at
decreases-loop-at l = (state_of_grown l.fn.grown).cost l.node - (state_of_grown l.fn.grown).cost l.at
