use Rattle.point_bands.proofs.Words.{ℕ, ◌≤◌, ◌<◌, ◌-◌, length, StandsBetween, numbered_at}
use Rattle.point_bands.proofs.band_order.end_of_stretch.Given as goal

abbrev pub invariant-loop-end : goal.invariant-loop-end
invariant-loop-end l = record {
  some : l.start < l.end;
  within : l.end ≤ length l.points;
  columns : (j : ℕ) → l.start ≤ j → j < l.end → StandsBetween (numbered_at l.points l.start).point.x l.right l.points j;
}

abbrev pub decreases-loop-end : goal.decreases-loop-end
decreases-loop-end l = length l.points - l.end
