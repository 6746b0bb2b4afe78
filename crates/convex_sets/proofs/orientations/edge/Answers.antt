use Rattle.convex_sets.proofs.Words.{arith, ints}
use Rattle.convex_sets.proofs.Corners.{same_vector, bounded_corner}
use Rattle.convex_sets.proofs.orientations.edge.Goals as goal

pub returns : goal.returns
returns c =
    let a = bounded_corner c.args.from c.requires.from in
    let b = bounded_corner c.args.to c.requires.to in
    record {
      value = same_vector _ _ (omega (arith, ints)) (omega (arith, ints));
      short = record { left = omega (arith, ints); right = omega (arith, ints); bottom = omega (arith, ints); top = omega (arith, ints) };
    }
