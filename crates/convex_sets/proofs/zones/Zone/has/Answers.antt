use Rattle.convex_sets.proofs.Words.{sym, subst, List, Vertex, IsInside, at_lattice, corner_of}
use Rattle.convex_sets.proofs.Corners.{bounded_of}
use Rattle.convex_sets.proofs.BoxLaws.{in_box, bounded_in_box}
use Rattle.convex_sets.proofs.zones.Zone.has.Goals as goal

pub returns-then-not-has : goal.returns-then-not-has
returns-then-not-has c = (
  λ t. cc,
  λ inside.
      let z = c.self.inside in
      let here = subst (λ (corners : List Vertex). IsInside corners (at_lattice c.args.p)) (sym c.self.view_is) inside in
      let t = c.has.ensures.1 (in_box z.corners.items z.bounds c.args.p c.self.invariant here) in
      cc,
)

pub corner_of-requires : goal.corner_of-requires
corner_of-requires c =
    let z = c.self.inside in
    let box = c.has.ensures.0 c.if-not-has.false in
    bounded_of (corner_of c.args.p) (bounded_in_box z.corners.items z.bounds c.args.p c.self.invariant box)

pub returns : goal.returns
returns c = rw (c.as_slice.ensures.value, c.self.view_is, c.corner_of.ensures) at c.is_inside.ensures
