use Rattle.std.proofs.Common.{arith}
use Rattle.edge_cost.proofs.RootBounds.{first_is_root}
use Rattle.edge_cost.proofs.roots.root_ceiling.Goals as goal

pub returns-then-n-clause-value : goal.returns-then-n-clause-value
returns-then-n-clause-value c = first_is_root c.args.n 4294967296 (omega (arith, c.ranges.n.fits)) (omega (arith, c.if-n.true))
