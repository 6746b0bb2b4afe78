use Rattle.convex_sets.proofs.Words.{ℕ, ◌<◌, pos, ◌≤ℤ◌, corner_at, next_corner, orientation, length}
use Rattle.convex_sets.proofs.half_planes.is_inside.Given as goal

abbrev pub invariant-loop-i : goal.invariant-loop-i
invariant-loop-i l =
    (k : ℕ) → k < l.i → pos 0 ≤ℤ orientation (corner_at l.corners k) (corner_at l.corners (next_corner (length l.corners) k)) l.p
