use Rattle.convex_sets.proofs.Words.{arith, ints}
use Rattle.convex_sets.proofs.bounding_boxes.BoundingBox.has.Goals as goal

pub returns-then-is_between : goal.returns-then-is_between
returns-then-is_between c = (
  λ t.
      let a = c.is_between.ensures.0 c.if-is_between.true in
      let b = c.is_between-then-is_between.ensures.0 t in
      record { left = omega (arith, ints); right = omega (arith, ints); bottom = omega (arith, ints); top = omega (arith, ints) },
  λ h. c.is_between-then-is_between.ensures.1 (omega (arith, ints), omega (arith, ints)),
)
