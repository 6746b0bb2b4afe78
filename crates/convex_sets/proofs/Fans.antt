-- A point on the inner side of every edge of a strictly convex polygon lies in a triangle of the fan from its first corner.
use Rattle.convex_sets.proofs.Words.{◌≡◌, ℕ, ◌+◌, ◌-◌, ◌<◌, ◌≤◌, zero, suc, List, length, refl, ◌∙◌, arith, ℤ, pos, negsuc, ◌+ℤ◌, ◌-ℤ◌, ◌*ℤ◌, ◌<ℤ◌, ◌≤ℤ◌, ints}
use Rattle.convex_sets.proofs.Words.{by_lt_z, Vertex, corner_at, next_corner, IsInside, side_of, Rational, at_corner, cross, from_to, Read, var, plus, minus}
use Rattle.convex_sets.proofs.Words.{times, same, orientation}
use Rattle.convex_sets.proofs.Crosses.{exchange_x, exchange_y, cross_opposite, turn_is}
use Rattle.convex_sets.proofs.Signs.{mul-positive}
use Rattle.convex_sets.proofs.ConvexPolygons.{IsConvex, next_suc, next_last}

-- the vector from a corner to a point, times the point's denominator
abbrev pub out_to : Vertex → Rational → Vertex
out_to a q = record { x = q.x -ℤ (pos q.over *ℤ a.x); y = q.y -ℤ (pos q.over *ℤ a.y) }

-- The point is a weighted mean of three corners.
pub record IsMeanOf (a b c : Vertex) (q : Rational) : Type 0 where
  pub first : ℕ
  pub second : ℕ
  pub third : ℕ
  pub some_weight : 0 < first + second + third
  pub horizontal : pos q.over *ℤ (((pos first *ℤ a.x) +ℤ (pos second *ℤ b.x)) +ℤ (pos third *ℤ c.x)) ≡ pos (first + second + third) *ℤ q.x
  pub vertical : pos q.over *ℤ (((pos first *ℤ a.y) +ℤ (pos second *ℤ b.y)) +ℤ (pos third *ℤ c.y)) ≡ pos (first + second + third) *ℤ q.y

-- the natural number that is not below 0
natural : (z : ℤ) → pos 0 ≤ℤ z → (n : ℕ) × (z ≡ pos n)
natural (pos n) h = (n, refl)
natural (negsuc n) h = absurd (omega (arith, ints))

abbrev pub side_is : (a b : Vertex) (q : Rational) → Read (side_of a b q)
side_is a b q =
    minus (times (minus (var b.x) (var a.x)) (minus (var q.y) (times (var (pos q.over)) (var a.y))))
    (times (minus (var b.y) (var a.y)) (minus (var q.x) (times (var (pos q.over)) (var a.x))))

pub side_of_opposite : (a b : Vertex) (q : Rational) → side_of b a q ≡ (pos 0 -ℤ side_of a b q)
side_of_opposite a b q = same (side_is b a q) (minus (var (pos 0)) (side_is a b q)) (omega arith)

-- the areas of a triangle's three parts
areas : (a b c : Vertex) (q : Rational) → ((side_of b c q -ℤ side_of a c q) +ℤ side_of a b q) ≡ pos q.over *ℤ cross (from_to a b) (from_to a c)
areas a b c q =
    same (plus (minus (side_is b c q) (side_is a c q)) (side_is a b q))
    (times (var (pos q.over)) (turn_is a b c)) (omega arith)

without_first : (d e v w a b c : ℤ)
    → d *ℤ (((((d *ℤ e) -ℤ v) -ℤ w) *ℤ a +ℤ (v *ℤ b)) +ℤ (w *ℤ c)) ≡ d *ℤ (((d *ℤ e) *ℤ a) +ℤ ((v *ℤ (b -ℤ a)) +ℤ (w *ℤ (c -ℤ a))))
without_first d e v w a b c =
    same (times (var d) (plus (plus (times (minus (minus (times (var d) (var e)) (var v)) (var w)) (var a)) (times (var v) (var b)))
    (times (var w) (var c))))
    (times (var d) (plus (times (times (var d) (var e)) (var a))
    (plus (times (var v) (minus (var b) (var a))) (times (var w) (minus (var c) (var a)))))) (omega arith)

from_first : (d e a q : ℤ) → d *ℤ (((d *ℤ e) *ℤ a) +ℤ (e *ℤ (q -ℤ (d *ℤ a)))) ≡ (d *ℤ e) *ℤ q
from_first d e a q =
    same (times (var d) (plus (times (times (var d) (var e)) (var a)) (times (var e) (minus (var q) (times (var d) (var a))))))
    (times (times (var d) (var e)) (var q)) (omega arith)

-- one coordinate of the mean
mean : (d e u v w a b c q : ℤ) → ((u +ℤ v) +ℤ w) ≡ d *ℤ e → e *ℤ (q -ℤ (d *ℤ a)) ≡ (v *ℤ (b -ℤ a)) +ℤ (w *ℤ (c -ℤ a))
    → d *ℤ (((u *ℤ a) +ℤ (v *ℤ b)) +ℤ (w *ℤ c)) ≡ ((u +ℤ v) +ℤ w) *ℤ q
mean d e u v w a b c q total at =
    let first : u ≡ ((d *ℤ e) -ℤ v) -ℤ w = omega (arith, ints) in
    rw total (rw first (without_first d e v w a b c ∙ (rw (← at) (from_first d e a q))))

-- the area of a triangle, from whichever corner
pub around : (a b c : Vertex) → cross (from_to a b) (from_to a c) ≡ orientation b c a
around a b c = same (turn_is a b c) (turn_is b c a) (omega arith)

weighed : (a b c : Vertex) (q : Rational) (u v w : ℕ) → side_of b c q ≡ pos u → (pos 0 -ℤ side_of a c q) ≡ pos v → side_of a b q ≡ pos w
    → pos 0 <ℤ cross (from_to a b) (from_to a c) → IsMeanOf a b c q
weighed a b c q u v w p r s turn =
    let d = pos q.over in
    let e = cross (from_to a b) (from_to a c) in
    let total : ((pos u +ℤ pos v) +ℤ pos w) ≡ d *ℤ e = omega (arith, ints, areas a b c q) in
    let turned : cross (out_to a q) (from_to a c) ≡ pos v = cross_opposite (out_to a q) (from_to a c) ∙ r in
    let over : pos 0 <ℤ d = let positive = q.positive in omega (arith, ints) in
    let some = mul-positive d e over turn in
    record {
      first = u;
      second = v;
      third = w;
      some_weight = omega (arith, ints, total);
      horizontal = mean d e (pos u) (pos v) (pos w) a.x b.x c.x q.x total (exchange_x (from_to a b) (from_to a c) (out_to a q) ∙ rw (turned, s));
      vertical = mean d e (pos u) (pos v) (pos w) a.y b.y c.y q.y total (exchange_y (from_to a b) (from_to a c) (out_to a q) ∙ rw (turned, s));
    }

triangle : (a b c : Vertex) (q : Rational) → pos 0 ≤ℤ side_of a b q → side_of a c q ≤ℤ pos 0 → pos 0 ≤ℤ side_of b c q
    → pos 0 <ℤ cross (from_to a b) (from_to a c) → IsMeanOf a b c q
triangle a b c q p r s turn =
    let u = natural (side_of b c q) s in
    let v = natural (pos 0 -ℤ side_of a c q) (omega (arith, ints)) in
    let w = natural (side_of a b q) p in
    weighed a b c q u.0 v.0 w.0 u.1 v.1 w.1 turn

-- where the sign turns
crossing : (g : ℕ → ℤ) (m : ℕ) → pos 0 ≤ℤ g 1 → g (suc (suc m)) ≤ℤ pos 0 → (k : ℕ) × (k ≤ m) × (pos 0 ≤ℤ g (suc k)) × (g (suc (suc k)) ≤ℤ pos 0)
crossing g zero h l = (0, omega arith, h, l)
crossing g (suc m) h l =
    by_lt_z (g (suc (suc m))) (pos 0) (λ below.
    let r = crossing g m h (omega (arith, ints)) in
    (r.0, let at = r.1 in omega arith, r.2, r.3)) (λ above. (suc m, omega arith, above, l))

-- the triangle of the fan in which the point lies
pub fan : (corners : List Vertex) (q : Rational) → IsConvex corners → IsInside corners q
    → (k : ℕ) × (suc (suc k) < length corners) × IsMeanOf (corner_at corners 0) (corner_at corners (suc k)) (corner_at corners (suc (suc k))) q
fan corners q convex inside =
    let n = length corners in
    let m = n - 3 in
    let c : ℕ → Vertex = corner_at corners in
    let edge : (i : ℕ) → suc i < n → pos 0 ≤ℤ side_of (c i) (c (suc i)) q = λ i l.
    let next : next_corner n i ≡ suc i = next_suc n i l in
    rw next at (inside i (omega arith)) in
    let last : pos 0 ≤ℤ side_of (c (suc (suc m))) (c 0) q =
    rw (next_last n (suc (suc m)) (omega arith)) at (inside (suc (suc m)) (omega arith)) in
    let found = crossing (λ k. side_of (c 0) (c k) q) m (edge 0 (omega arith)) (omega (arith, ints, side_of_opposite (c 0) (c (suc (suc m))) q)) in
    let k = found.0 in
    let small : suc (suc k) < n = let at = found.1 in omega arith in
    let next : next_corner n (suc k) ≡ suc (suc k) = next_suc n (suc k) small in
    let left = rw next at (convex.left (suc k) 0 (omega arith) (omega arith) (omega arith) (rw next (omega arith))) in
    (k, small, triangle (c 0) (c (suc k)) (c (suc (suc k))) q found.2 found.3 (edge (suc k) small) (rw (around (c 0) (c (suc k)) (c (suc (suc k)))) left))

pub side_at_corner : (a b v : Vertex) → side_of a b (at_corner v) ≡ orientation a b v
side_at_corner a b v = same (side_is a b (at_corner v)) (turn_is a b v) (omega arith)

pub not_inside : (corners : List Vertex) (v : Vertex) (i to : ℕ) → to ≡ next_corner (length corners) i → i < length corners
    → orientation (corner_at corners i) (corner_at corners to) v <ℤ pos 0 → ¬ IsInside corners (at_corner v)
not_inside corners v i to e l right inside =
    let next = next_corner (length corners) i in
    let side = rw e at right in
    omega (arith, ints, inside i l, side_at_corner (corner_at corners i) (corner_at corners next) v)

pub inside_at : (corners : List Vertex) (v : Vertex)
    → ((k : ℕ) → k < length corners → pos 0 ≤ℤ orientation (corner_at corners k) (corner_at corners (next_corner (length corners) k)) v)
    → IsInside corners (at_corner v)
inside_at corners v h =
    λ i l. rw (side_at_corner (corner_at corners i) (corner_at corners (next_corner (length corners) i)) v) (h i l)
