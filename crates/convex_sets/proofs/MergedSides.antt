-- Two polygons whose sum is merged lie to the left of each of its edges, each moved to where the edge begins.
use Rattle.convex_sets.proofs.Words.{◌≡◌, ℕ, ◌<◌, List, length, arith, pos, ◌≤ℤ◌, ints, Vertex, corner_at, next_corner, cross, from_to, both}
use Rattle.convex_sets.proofs.Words.{IsMerged, IsOutlineOf}
use Rattle.convex_sets.proofs.MergeSteps.{zero_vector}
use Rattle.convex_sets.proofs.MergedPaths.{cross-sums}

-- seen from a sum, another sum that differs in one part lies where that part lies, seen from the first sum's
first_seen : (e z a b k : Vertex) → z ≡ both a b → pos 0 ≤ℤ cross e (from_to z (both k b)) → pos 0 ≤ℤ cross e (from_to a k)
first_seen e z a b k is f = let h = rw is at f in omega (arith, ints, h, cross-sums e a b k b, zero_vector e b)

second_seen : (e z a b k : Vertex) → z ≡ both a b → pos 0 ≤ℤ cross e (from_to z (both a k)) → pos 0 ≤ℤ cross e (from_to b k)
second_seen e z a b k is f = let h = rw is at f in omega (arith, ints, h, cross-sums e a b a k, zero_vector e a)

-- the merged outline z of the outlines a and b of two polygons
module _ (first_corners second_corners a b z : List Vertex) (first : IsOutlineOf first_corners a) (second : IsOutlineOf second_corners b)
    (merged : IsMerged a b z) where
  pub first_left : (i : ℕ) (p : i < length z) (t : ℕ) → t < length first_corners
      → pos 0 ≤ℤ cross (from_to (corner_at z i) (corner_at z (next_corner (length z) i)))
      (from_to (corner_at a (merged.sums i p).first) (corner_at first_corners t))
  first_left i p t q =
      let s = merged.sums i p in
      let k = first.all t q in
      let e = from_to (corner_at z i) (corner_at z (next_corner (length z) i)) in
      rw k.2 (first_seen e (corner_at z i) (corner_at a s.first) (corner_at b s.second) (corner_at a k.0) s.is
      (merged.supports i k.0 s.second p k.1 s.within_second))

  pub second_left : (i : ℕ) (p : i < length z) (t : ℕ) → t < length second_corners
      → pos 0 ≤ℤ cross (from_to (corner_at z i) (corner_at z (next_corner (length z) i)))
      (from_to (corner_at b (merged.sums i p).second) (corner_at second_corners t))
  second_left i p t q =
      let s = merged.sums i p in
      let k = second.all t q in
      let e = from_to (corner_at z i) (corner_at z (next_corner (length z) i)) in
      rw k.2 (second_seen e (corner_at z i) (corner_at a s.first) (corner_at b s.second) (corner_at b k.0) s.is
      (merged.supports i s.first k.0 p s.within_first k.1))
