use Rattle.std.proofs.Common.{ap, arith, length}
use Rattle.planner.proofs.checking.line_count.Goals as goal

pub lines-preserved : goal.lines-preserved
lines-preserved c =
    (omega (arith, c.lines.invariant.0, ap length c.in-Some.ensures.some), omega (arith, c.lines.invariant.1, c.in-Some.ensures.shorter))
