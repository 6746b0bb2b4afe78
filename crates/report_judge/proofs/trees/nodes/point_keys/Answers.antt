use Rattle.report_judge.proofs.Words.{◌≡◌, [], ◌∷◌, Option, Some, None, length, length-append, arith, refl, ap, slice_index_or, Knot, IsBounded, FitsEdges}
use Rattle.report_judge.proofs.Words.{point_key}
use Rattle.std.specs.Prelude.{IfSome}
use Rattle.report_judge.proofs.Texts.ListPlaces.{pushed_below}
use Rattle.report_judge.proofs.trees.nodes.point_keys.Goals as goal

bounded_if_any : (o : Option Knot) → ((other : Knot) → o ≡ Some other → FitsEdges other) → IfSome o (λ k. IsBounded k.point)
bounded_if_any None fit = tt
bounded_if_any (Some knot) fit = (fit knot refl).point

pub key-requires-clause-bounded : goal.key-requires-clause-bounded
key-requires-clause-bounded c =
    bounded_if_any (slice_index_or c.args.knots.now c.loop-node.node None) (λ other is. c.requires.fit c.loop-node.node other is)

pub loop-node-preserved : goal.loop-node-preserved
loop-node-preserved c =
    let old = c.loop-node.keys.items in
    let own = c.key.result in
    let items = c.in_ok-push.ensures.items in
    record {
      long = omega (arith, ap length items, length-append old (own ∷ []), c.loop-node.invariant.long);
      told =
          rw items (pushed_below (λ n key. key ≡ point_key n (slice_index_or c.args.knots.now n None)) old own c.loop-node.node c.loop-node.invariant.long
          c.loop-node.invariant.told c.key.ensures);
    }
