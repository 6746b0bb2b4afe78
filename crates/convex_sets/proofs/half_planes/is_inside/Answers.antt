use Rattle.convex_sets.proofs.Words.{refl, arith, ints}
use borrow.Author.Count.{below_more}
use Rattle.convex_sets.proofs.Fans.{not_inside, inside_at}
use Rattle.convex_sets.proofs.half_planes.is_inside.Goals as goal

pub returns-then-orientation-lt0 : goal.returns-then-orientation-lt0
returns-then-orientation-lt0 c = (
  λ t. cc,
  λ inside. absurd
      (not_inside c.args.corners.now c.args.p c.loop-i.i c.next_corner-next.result c.next_corner-next.ensures.value (omega arith) (omega (arith, ints)) inside),
)

pub loop-i-preserved : goal.loop-i-preserved
loop-i-preserved c = below_more _ _ c.loop-i.invariant (rw (← c.next_corner-next.ensures.value) (omega (arith, ints)))

pub returns : goal.returns
returns c =
    (λ t. inside_at c.args.corners.now c.args.p (λ k l. c.loop-i.invariant k (omega arith)), λ inside. refl)
