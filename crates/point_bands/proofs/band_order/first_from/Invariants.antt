use Rattle.point_bands.proofs.Words.{ℕ, ◌≤◌, ◌<◌, ◌+◌, length, band_key, numbered_at}
use Rattle.point_bands.proofs.band_order.first_from.Given as goal

abbrev pub invariant-loop-count : goal.invariant-loop-count
invariant-loop-count l = record {
  later : l.from ≤ l.low;
  within : l.low + l.count ≤ length l.points;
  before : (j : ℕ) → l.from ≤ j → j < l.low → band_key l.height_log (numbered_at l.points j) < l.target;
}

abbrev pub decreases-loop-count : goal.decreases-loop-count
decreases-loop-count l = l.count
