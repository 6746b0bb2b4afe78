use Rattle.convex_sets.proofs.Lows.{IsLowestOf}
use Rattle.convex_sets.proofs.outlines.lowest.Given as goal

abbrev pub invariant-loop-i : goal.invariant-loop-i
invariant-loop-i l = IsLowestOf l.corners l.lowest l.i
