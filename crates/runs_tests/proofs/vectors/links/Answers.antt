use Rattle.std.proofs.Common.{false, refl, arith}
use Rattle.runs_tests.proofs.vectors.links.Goals as goal

-- node 0 is its own child
pub returns-clause-itself : goal.returns-clause-itself
returns-clause-itself c = λ h. omega (arith, h 0 0 false refl)
