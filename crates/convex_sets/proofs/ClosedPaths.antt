-- A closed merged outline is a strictly convex polygon.
use Rattle.convex_sets.proofs.Words.{◌≡◌, ◌≢◌, ◌⊎◌, ℕ, zero, suc, ◌-◌, ◌<◌, ◌≤◌, List, [], ◌∷◌, ◌++◌, length, sym, ap, ◌∙◌, inl, inr, arith, pos, ◌<ℤ◌, ◌≤ℤ◌}
use Rattle.convex_sets.proofs.Words.{ints, by_lt_z, cases_lt, Vertex, corner_at, next_corner, cross, from_to, both, edge_at, start, rise, IsOutline, IsMerged}
use Rattle.convex_sets.proofs.Crosses.{cross-by_way}
use Rattle.convex_sets.proofs.MergeSteps.{zero_vector}
use Rattle.convex_sets.proofs.MergedPaths.{IsPath, IsMergedTo, cross-sums, at_front, at_end, pushed}
use Rattle.convex_sets.proofs.Turns.{IsBefore, IsBefore-ahead, IsBefore-trans, not_after, not_before, not_between}
use Rattle.convex_sets.proofs.ConvexPolygons.{test-from_IsConvex, next_suc, next_last}

-- a path whose last corner is the first again
module _ (a b : List Vertex) (first : IsOutline a) (second : IsOutline b) (zs : List Vertex) (e : Vertex) (path : IsPath a b zs e) (m : ℕ)
    (long : length zs ≡ suc (suc m)) (closed : corner_at zs (suc m) ≡ corner_at zs 0) where
  left : (i k : ℕ) → suc i < length zs → k < length zs → pos 0 ≤ℤ cross (edge_at zs i) (from_to (corner_at zs i) (corner_at zs k))
  left i k p q =
      let s = path.sums k q in
      rw s.is (path.supports i s.first s.second p s.within_first s.within_second)

  low : (k : ℕ) → k < length zs → pos 0 ≤ℤ rise (from_to (corner_at zs 0) (corner_at zs k))
  low k q =
      let s = path.sums k q in
      let one = first.low s.first s.within_first in
      let two = second.low s.second s.within_second in
      rw (s.is, path.first) (rw (cross-sums start (corner_at a 0) (corner_at b 0) (corner_at a s.first) (corner_at b s.second)) (omega (arith, ints)))

  rises_first : pos 0 <ℤ rise (edge_at zs 0)
  rises_first =
      elim (path.rises_or_falls 0 (omega arith)) [ inl p ↦ p | inr p ↦ (let l = low 1 (omega arith) in absurd (omega (arith, ints))) ]

  falls_last : rise (edge_at zs m) <ℤ pos 0
  falls_last = elim (path.rises_or_falls m (omega arith)) [ inl p ↦ absurd (omega (arith, ints, back)) | inr p ↦ p ]
    where
      back : rise (edge_at zs m) ≤ℤ pos 0
      back =
          let l = low m (omega arith) in
          rw closed (omega (arith, ints, cross-by_way start (corner_at zs 0) (corner_at zs m) (corner_at zs 0), zero_vector start (corner_at zs 0)))

  before_next : (u : ℕ) → suc (suc u) < length zs → IsBefore (edge_at zs u) (edge_at zs (suc u))
  before_next u h =
      IsBefore-ahead (edge_at zs u) (edge_at zs (suc u)) (path.turns u h) (path.rises_or_falls u (omega arith)) (path.rises_or_falls (suc u) h)

  before : (u v : ℕ) → u < v → suc v < length zs → IsBefore (edge_at zs u) (edge_at zs v)
  before u zero l h = absurd (omega arith)
  before u (suc v) l h = by (λ p. before u v p (omega arith)) (cases_lt u v)
    where
      by : (u < v → IsBefore (edge_at zs u) (edge_at zs v)) → (u < v) ⊎ (v ≤ u) → IsBefore (edge_at zs u) (edge_at zs (suc v))
      by earlier (inl p) = IsBefore-trans (edge_at zs u) (edge_at zs v) (edge_at zs (suc v)) (earlier p) (before_next v h)
      by earlier (inr p) = let same : u ≡ v = omega arith in rw same (before_next v h)

  -- if corner k is furthest to the right of edge i, edge k leads to the left of it, and the edge before to the right
  leads_left : (i k : ℕ) → suc i < length zs → suc k < length zs → cross (edge_at zs i) (from_to (corner_at zs i) (corner_at zs k)) ≤ℤ pos 0
      → pos 0 ≤ℤ cross (edge_at zs i) (edge_at zs k)
  leads_left i k p q h =
      let f = left i (suc k) p q in
      omega (arith, ints, cross-by_way (edge_at zs i) (corner_at zs i) (corner_at zs k) (corner_at zs (suc k)))

  leads_right : (i k : ℕ) → suc i < length zs → suc k < length zs → cross (edge_at zs i) (from_to (corner_at zs i) (corner_at zs (suc k))) ≤ℤ pos 0
      → cross (edge_at zs i) (edge_at zs k) ≤ℤ pos 0
  leads_right i k p q h =
      let f = left i k p (omega arith) in
      omega (arith, ints, cross-by_way (edge_at zs i) (corner_at zs i) (corner_at zs k) (corner_at zs (suc k)))

  never : (i k : ℕ) → i < suc m → k < suc m → k ≢ i → k ≢ next_corner (suc m) i → cross (edge_at zs i) (from_to (corner_at zs i) (corner_at zs k)) ≤ℤ pos 0 → ⊥
  never i zero p q apart off h =
      elim (cases_lt (suc i) (suc m)) [
        | inl r ↦
            let some : 0 < i = omega (arith, apart) in
            not_between (edge_at zs 0) (edge_at zs i) (edge_at zs m) (before 0 i some (omega arith)) (before i m (omega arith) (omega arith))
            rises_first falls_last to_left to_right
        | inr r ↦ off (sym (next_last (suc m) i (omega arith)))
      ]
    where
      to_left : pos 0 ≤ℤ cross (edge_at zs i) (edge_at zs 0)
      to_left = leads_left i 0 (omega arith) (omega arith) h

      to_right : cross (edge_at zs i) (edge_at zs m) ≤ℤ pos 0
      to_right = leads_right i m (omega arith) (omega arith) (rw closed h)
  never i (suc k) p q apart off h = by (cases_lt i (suc k))
    where
      to_left : pos 0 ≤ℤ cross (edge_at zs i) (edge_at zs (suc k))
      to_left = leads_left i (suc k) (omega arith) (omega arith) h

      to_right : cross (edge_at zs i) (edge_at zs k) ≤ℤ pos 0
      to_right = leads_right i k (omega arith) (omega arith) h

      not_next : i ≢ k
      not_next same = off (ap suc (sym same) ∙ sym (next_suc (suc m) i (omega arith)))

      by : (i < suc k) ⊎ (suc k ≤ i) → ⊥
      by (inl r) =
          let some : i < k = omega (arith, not_next) in
          not_before (edge_at zs i) (edge_at zs k) (edge_at zs (suc k)) (before i k some (omega arith)) (before k (suc k) (omega arith) (omega arith))
          to_left to_right
      by (inr r) =
          let some : suc k < i = omega (arith, apart) in
          not_after (edge_at zs k) (edge_at zs (suc k)) (edge_at zs i) (before k (suc k) (omega arith) (omega arith))
          (before (suc k) i some (omega arith)) to_left to_right

  strictly_left : (i k : ℕ) → i < suc m → k < suc m → k ≢ i → k ≢ next_corner (suc m) i
      → pos 0 <ℤ cross (edge_at zs i) (from_to (corner_at zs i) (corner_at zs k))
  strictly_left i k p q apart off =
      by_lt_z (pos 0) (cross (edge_at zs i) (from_to (corner_at zs i) (corner_at zs k))) (λ y. y) (λ n. absurd (never i k p q apart off n))

same_left : (o p q c d x : Vertex) → c ≡ o → d ≡ p → x ≡ q → pos 0 <ℤ cross (from_to o p) (from_to o q) → pos 0 <ℤ cross (from_to c d) (from_to c x)
same_left o p q c d x e f g h = rw (e, f, g) h

same_not_right : (o p q c d : Vertex) → c ≡ o → d ≡ p → pos 0 ≤ℤ cross (from_to o p) (from_to o q) → pos 0 ≤ℤ cross (from_to c d) (from_to c q)
same_not_right o p q c d e f h = rw (e, f) h

-- both outlines have been gone round
pub IsMerged-closed : (a b corners : List Vertex) (i j : ℕ) → IsOutline a → IsOutline b → IsMergedTo a b corners i j → suc i ≡ length a
    → suc j ≡ length b → 4 ≤ length a → IsMerged a b corners
IsMerged-closed a b corners i j first second to end_a end_b many =
    record {
      convex = test-from_IsConvex corners (record {
        three = omega arith;
        left = λ u k p q apart off. same_left (corner_at zs u) (corner_at zs (suc u)) (corner_at zs k) _ _ _ (front u p) (next u p) (front k q)
            (strictly_left a b first second zs to.heading to.path m long closed u k (omega (arith, size)) (omega (arith, size)) apart (rw size off));
      });
      sums = λ u p. rw (front u p) (to.path.sums u (omega (arith, long, size)));
      supports = λ u k l p q r. same_not_right (corner_at zs u) (corner_at zs (suc u)) (both (corner_at a k) (corner_at b l)) _ _ (front u p)
          (next u p) (to.path.supports u k l (omega (arith, long, size)) q r);
      lowest = λ u p. rw (front 0 (omega arith), front u p) (low a b first second zs to.heading to.path m long closed u (omega (arith, long, size)));
    }
  where
    z : Vertex
    z = both (corner_at a i) (corner_at b j)

    zs : List Vertex
    zs = corners ++ both (corner_at a i) (corner_at b j) ∷ []

    m : ℕ
    m = length corners - 1

    size : suc (length corners - 1) ≡ length corners
    size = let l = to.long_a in omega arith

    long : length (corners ++ both (corner_at a i) (corner_at b j) ∷ []) ≡ suc (suc (length corners - 1))
    long = omega (arith, size, pushed corners (both (corner_at a i) (corner_at b j)))

    back : both (corner_at a i) (corner_at b j) ≡ both (corner_at a 0) (corner_at b 0)
    back = rw (first.closed i end_a, second.closed j end_b)

    closed : corner_at (corners ++ both (corner_at a i) (corner_at b j) ∷ []) (suc (length corners - 1)) ≡ corner_at
        (corners ++ both (corner_at a i) (corner_at b j) ∷ []) 0
    closed = at_end corners z (suc (length corners - 1)) size ∙ back ∙ sym to.path.first

    front : (u : ℕ) → u < length corners → corner_at corners u ≡ corner_at (corners ++ both (corner_at a i) (corner_at b j) ∷ []) u
    front u p = sym (at_front corners z u p)

    next : (u : ℕ) → u < length corners
        → corner_at corners (next_corner (length corners) u) ≡ corner_at (corners ++ both (corner_at a i) (corner_at b j) ∷ []) (suc u)
    next u p = by (cases_lt (suc u) (length corners))
      where
        by : (suc u < length corners) ⊎ (length corners ≤ suc u)
            → corner_at corners (next_corner (length corners) u) ≡ corner_at (corners ++ both (corner_at a i) (corner_at b j) ∷ []) (suc u)
        by (inl r) = rw (next_suc (length corners) u r) (front (suc u) r)
        by (inr r) =
            let last : suc u ≡ length corners = omega arith in
            rw (next_last (length corners) u (omega arith))
            (front 0 (omega arith) ∙ sym closed ∙ ap (corner_at (corners ++ both (corner_at a i) (corner_at b j) ∷ [])) (omega (arith, size)))
