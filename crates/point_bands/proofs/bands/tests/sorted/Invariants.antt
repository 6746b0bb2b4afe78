use Rattle.point_bands.proofs.Words.{All, IsBounded}
use Rattle.point_bands.proofs.bands.tests.sorted.Given as goal

abbrev pub invariant-loop-number : goal.invariant-loop-number
invariant-loop-number l = All (λ n. IsBounded n.point) l.points.items
