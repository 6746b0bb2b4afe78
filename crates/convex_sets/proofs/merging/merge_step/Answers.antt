use Rattle.convex_sets.proofs.Words.{◌≡◌, ◌+◌, inl, inr, refl, suc, arith, ints, Vertex, ℕ, List, corner_at, cross, from_to, edge_at}
use Rattle.convex_sets.proofs.Crosses.{cross_opposite}
use Rattle.convex_sets.proofs.merging.merge_step.Goals as goal
use Rattle.convex_sets.proofs.merging.merge_step.Goals.{After-cross-turn}

edge_is : (a : List Vertex) (i : ℕ) (p : Vertex) → p ≡ from_to (corner_at a i) (corner_at a (i + 1)) → p ≡ edge_at a i
edge_is a i p e = let n : i + 1 ≡ suc i = omega arith in rw n at e

-- from one edge to the other
turned : (c : After-cross-turn) → c.cross-turn.result ≡ cross (edge_at c.args.a.now c.args.reached.first) (edge_at c.args.b.now c.args.reached.second)
turned c =
    let first = edge_is c.args.a.now c.args.reached.first c.edge.result c.edge.ensures.value in
    let second = edge_is c.args.b.now c.args.reached.second c.edge-2.result c.edge-2.ensures.value in
    rw (first, second) at c.cross-turn.ensures

pub returns-then-turn-gt0 : goal.returns-then-turn-gt0
returns-then-turn-gt0 c =
    let t = turned (goal.at.returns-then-turn-gt0 c).After-cross-turn in
    inl (record { first = omega arith; second = refl; more = omega arith; turns_left = λ m. omega (arith, ints, t) })

pub returns-then-turn-lt0 : goal.returns-then-turn-lt0
returns-then-turn-lt0 c =
    let t = turned (goal.at.returns-then-turn-lt0 c).After-cross-turn in
    inr (inl (record {
      first = omega arith;
      second = refl;
      more = omega arith;
      turns_left = λ m. omega (arith, ints, t, cross_opposite (edge_at c.args.b.now c.args.reached.second) (edge_at c.args.a.now c.args.reached.first));
    }))

pub returns-else-turn-lt0 : goal.returns-else-turn-lt0
returns-else-turn-lt0 c =
    let t = turned (goal.at.returns-else-turn-lt0 c).After-cross-turn in
    inr (inr (record {
      first = omega arith;
      second = omega arith;
      more_first = omega arith;
      more_second = omega arith;
      parallel = omega (arith, ints, t);
    }))
