use Rattle.std.proofs.Common.{sym, arith}
use Rattle.convex_sets.proofs.ConvexPolygons.{left_of_edge, not_left_of_edge}
use Rattle.convex_sets.proofs.convexity.is_left_of.Goals as goal

pub returns-then-not-is_end_or_left : goal.returns-then-not-is_end_or_left
returns-then-not-is_end_or_left c =
    sym (not_left_of_edge c.args.v.now c.args.i c.next_corner-next.result c.loop-k.k c.next_corner-next.ensures.value (omega arith) cc)

pub returns : goal.returns
returns c =
    sym (left_of_edge c.args.v.now c.args.i c.next_corner-next.result c.next_corner-next.ensures.value (λ k l. c.loop-k.invariant k (omega arith)))
