use Rattle.swept_check.proofs.Words.{ℕ, ◌<◌, ◌≤◌, ◌↔◌, IsBetweenFractions}
use Rattle.swept_check.proofs.CommonParameters.{IsAdmittedBelow}
use Rattle.swept_check.proofs.clipping.crosses_polygon.Given as goal

abbrev pub invariant-loop-i : goal.invariant-loop-i
invariant-loop-i l = (s d : ℕ) → 0 < d → s ≤ d → IsBetweenFractions l.part.entry l.part.exit s d ↔ IsAdmittedBelow l.corners l.first l.last l.i s d
