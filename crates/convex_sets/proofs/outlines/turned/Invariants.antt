use Rattle.convex_sets.specs.Outlines.{IsTurned}
use Rattle.convex_sets.proofs.outlines.turned.Given as goal

abbrev pub invariant-loop-k : goal.invariant-loop-k
invariant-loop-k l = IsTurned l.corners l.outline.items l.first l.k
