use Rattle.convex_sets.proofs.Words.{arith, rules, ints, LEAST_BODY_COORDINATE, MOST_BODY_COORDINATE}
use Rattle.convex_sets.proofs.Made.{IfOk-map}
use Rattle.convex_sets.proofs.Squares.{square_convex}
use Rattle.convex_sets.proofs.WidenedBodies.{widened_is, widened_within}
use Rattle.convex_sets.proofs.ZoneLaws.{bounded_corners}
use Rattle.convex_sets.proofs.widening.widened.Goals as goal

pub outline-requires-clause-shape : goal.outline-requires-clause-shape
outline-requires-clause-shape c = rw (c.square.ensures, square_convex c.args.clearance c.requires.some) (grind arith)

pub outline-requires-2-clause-bounded : goal.outline-requires-2-clause-bounded
outline-requires-2-clause-bounded c =
    bounded_corners LEAST_BODY_COORDINATE MOST_BODY_COORDINATE c.args.body.now (omega (arith, ints)) (omega (arith, ints)) c.requires.within

pub returns : goal.returns
returns c =
    let first = rw c.square.ensures at c.in_ok-square_outline.ensures.corners in
    let second = c.in_ok-body_outline.ensures.corners in
    let made = rw (c.as_slice.ensures.value, c.as_slice-2.ensures.value) at c.merged.ensures in
    record {
      widened = IfOk-map c.merged.result _ _ made (λ wider merged.
          widened_is c.args.clearance c.args.body.now c.in_ok-square_outline.square_outline.items c.in_ok-body_outline.body_outline.items wider.items first
          second merged);
      convex = search rules;
      within = IfOk-map c.merged.result _ _ made (λ wider merged.
          widened_within c.args.clearance c.args.body.now c.in_ok-square_outline.square_outline.items c.in_ok-body_outline.body_outline.items wider.items first
          second merged c.requires.within c.requires.few);
    }
