use Rattle.convex_sets.proofs.Words.{◌≡◌, ℕ, ◌<◌, true, is_end_or_left}
use Rattle.convex_sets.proofs.convexity.is_left_of.Given as goal

abbrev pub invariant-loop-k : goal.invariant-loop-k
invariant-loop-k l = (k : ℕ) → k < l.k → is_end_or_left l.v l.i l.next k ≡ true
