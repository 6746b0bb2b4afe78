use Rattle.std.proofs.Common.{sym, arith}
use Rattle.convex_sets.proofs.ConvexPolygons.{strictly_convex, not_strictly_convex}
use Rattle.convex_sets.proofs.convexity.is_convex.Goals as goal

pub returns-then-not-is_left_of : goal.returns-then-not-is_left_of
returns-then-not-is_left_of c = sym (not_strictly_convex c.args.v.now c.loop-i.i (omega arith) cc)

pub returns : goal.returns
returns c = sym (strictly_convex c.args.v.now (omega arith) (λ i l. c.loop-i.invariant i (omega arith)))
