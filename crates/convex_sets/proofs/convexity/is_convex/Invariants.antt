use Rattle.convex_sets.proofs.Words.{◌≡◌, ℕ, ◌<◌, true, is_left_of_edge}
use Rattle.convex_sets.proofs.convexity.is_convex.Given as goal

abbrev pub invariant-loop-i : goal.invariant-loop-i
invariant-loop-i l = (k : ℕ) → k < l.i → is_left_of_edge l.v k ≡ true
