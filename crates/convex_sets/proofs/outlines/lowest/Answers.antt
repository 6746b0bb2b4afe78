use Rattle.std.proofs.Common.{arith}
use Rattle.convex_sets.proofs.Lows.{IsLowestOf-keeps, IsLowestOf-takes}
use Rattle.convex_sets.proofs.outlines.lowest.Goals as goal
use Rattle.convex_sets.proofs.outlines.lowest.Goals.{then-is_lower, else-is_lower}

pub loop-i-preserved : goal.loop-i-preserved
loop-i-preserved c =
    let corners = c.args.corners.now in
    let h = c.loop-i.invariant in
    elim c.if-is_lower.branch [
      | then-is_lower w ↦ rw w.lowest-is
          (IsLowestOf-takes corners c.loop-i.lowest c.loop-i.i (omega arith) h (rw w.if-is_lower.true at c.is_lower.ensures))
      | else-is_lower w ↦ rw
          w.lowest-is (IsLowestOf-keeps corners c.loop-i.lowest c.loop-i.i h (rw w.if-is_lower.false at c.is_lower.ensures))
    ]
