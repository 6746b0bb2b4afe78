use Rattle.point_bands.proofs.Words.{◌≤◌, ◌-◌, length, HasNoneBetween}
use Rattle.point_bands.proofs.band_order.next_stretch.Given as goal

abbrev pub invariant-loop-at : goal.invariant-loop-at
invariant-loop-at l = record {
  later : l.from ≤ l.at;
  none : HasNoneBetween l.disc.center l.disc.square l.points l.from l.at;
}

abbrev pub decreases-loop-at : goal.decreases-loop-at
decreases-loop-at l = length l.points - l.at
