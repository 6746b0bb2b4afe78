use Rattle.convex_sets.proofs.Words.{◌≡◌, map, take, reflection}
use Rattle.convex_sets.proofs.outlines.reflected.Given as goal

abbrev pub invariant-loop-corner : goal.invariant-loop-corner
invariant-loop-corner l = l.reflected.items ≡ map reflection (take l.corner-index l.corners)
