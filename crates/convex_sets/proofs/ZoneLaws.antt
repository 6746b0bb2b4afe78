-- The merged outline of an obstacle and the reflected body is the zone: where the body meets the obstacle.
use Rattle.convex_sets.proofs.Words.{◌≡◌, ℕ, suc, ◌<◌, Bool, true, false, ◌||◌, ◌==◌, List, length, map, refl, sym, ap, subst, ◌∙◌, inl, inr}
use Rattle.convex_sets.proofs.Words.{arith, ℤ, pos, ◌≤ℤ◌, list_all, ints, by_lt_z, LEAST_CORNER_COORDINATE, LEAST_SUMMAND_COORDINATE, MOST_CORNER_COORDINATE}
use Rattle.convex_sets.proofs.Words.{MOST_SUMMAND_COORDINATE, Vertex, corner_at, next_corner, is_strictly_convex, orientation, IsInside, is_corner_between}
use Rattle.convex_sets.proofs.Words.{Meets, Rational, IsZoneOf, IsLowerOrLeft, AreBoundedCorners, cross, from_to, reflection, IsMerged, IsOutlineOf, IsSum, var}
use Rattle.convex_sets.proofs.Words.{minus, times, opposite, same, true_at, true_of_all, get_or-map, length-map}
use Rattle.convex_sets.proofs.Corners.{within_of, of_within, bounded_of, bounded_corner, bounded_at}
use Rattle.convex_sets.proofs.Crosses.{turn_is}
use Rattle.convex_sets.proofs.MergedSides.{first_left, second_left}
use Rattle.convex_sets.proofs.ConvexPolygons.{IsConvex, IsConvex-from_test, test-from_IsConvex, next_within}
use Rattle.convex_sets.proofs.Fans.{fan, out_to}
use Rattle.convex_sets.proofs.Hulls.{difference, turned_back, meets_left, IsDifference, Meets-mean}

-- the corners of a reflected polygon
pub reflected-at : (corners : List Vertex) (i : ℕ) → i < length corners → corner_at (map reflection corners) i ≡ reflection (corner_at corners i)
reflected-at corners i h = get_or-map reflection corners i (record { x = pos 0; y = pos 0 }) (record { x = pos 0; y = pos 0 }) h

pub length-reflected : (corners : List Vertex) → length (map reflection corners) ≡ length corners
length-reflected corners = length-map corners reflection

orientation-reflected : (a b c : Vertex) → orientation (reflection a) (reflection b) (reflection c) ≡ orientation a b c
orientation-reflected a b c =
    same (minus (times (minus (opposite (var b.x)) (opposite (var a.x))) (minus (opposite (var c.y)) (opposite (var a.y))))
    (times (minus (opposite (var b.y)) (opposite (var a.y))) (minus (opposite (var c.x)) (opposite (var a.x)))))
    (turn_is a b c) (omega arith)

IsConvex-reflected : (corners : List Vertex) → IsConvex corners → IsConvex (map reflection corners)
IsConvex-reflected corners h =
    let number = length-reflected corners in
    let three = h.three in
    record {
      three = omega arith;
      left = λ i k p q a b.
          let j = next_corner (length corners) i in
          let inside : i < length corners = omega arith in
          let other : k < length corners = omega arith in
          rw (
            number,
            reflected-at corners i inside,
            reflected-at corners j (next_within (length corners) i inside),
            reflected-at corners k other,
            orientation-reflected (corner_at corners i) (corner_at corners j) (corner_at corners k),
          ) (h.left i k inside other a (rw number at b));
    }

-- corners between two numbers are between wider ones
pub between_wider : (low high least most : ℤ) (corners : List Vertex) → least ≤ℤ low → high ≤ℤ most
    → list_all (is_corner_between low high) corners ≡ true → list_all (is_corner_between least most) corners ≡ true
between_wider low high least most corners p q h =
    true_of_all (is_corner_between least most) corners (record { x = pos 0; y = pos 0 }) (λ i l.
    let w = within_of low high (corner_at corners i) (true_at (is_corner_between low high) corners i (record { x = pos 0; y = pos 0 }) h l) in
    of_within least most (corner_at corners i)
    (record { left = omega (arith, ints); right = omega (arith, ints); bottom = omega (arith, ints); top = omega (arith, ints) }))

-- a body or an obstacle has bounded corners
pub bounded_corners : (low high : ℤ) (corners : List Vertex) → LEAST_CORNER_COORDINATE ≤ℤ low → high ≤ℤ MOST_CORNER_COORDINATE
    → list_all (is_corner_between low high) corners ≡ true → AreBoundedCorners corners
bounded_corners low high corners p q h = between_wider low high LEAST_CORNER_COORDINATE MOST_CORNER_COORDINATE corners p q h

pub bounded-reflected : (corners : List Vertex) → AreBoundedCorners corners → AreBoundedCorners (map reflection corners)
bounded-reflected corners h =
    true_of_all (is_corner_between LEAST_CORNER_COORDINATE MOST_CORNER_COORDINATE) (map reflection corners) (record { x = pos 0; y = pos 0 }) (λ i l.
    let inside : i < length corners = omega (arith, length-reflected corners) in
    let w = bounded_corner (corner_at corners i) (bounded_at corners i h inside) in
    rw (reflected-at corners i inside) (bounded_of (reflection (corner_at corners i))
    (record { left = omega (arith, ints); right = omega (arith, ints); bottom = omega (arith, ints); top = omega (arith, ints) })))

-- a sum of corners of the two outlines is a corner of the obstacle less one of the body
IsDifference-sum : (body obstacle a b : List Vertex) (z : Vertex) → IsOutlineOf obstacle a → IsOutlineOf (map reflection body) b → IsSum a b z
    → IsDifference body obstacle z
IsDifference-sum body obstacle a b z first second s =
    let f = first.from s.first s.within_first in
    let g = second.from s.second s.within_second in
    let inside : g.0 < length body = let h = g.1 in omega (arith, length-reflected body) in
    let is : z ≡ difference (corner_at obstacle f.0) (corner_at body g.0) = s.is ∙ rw (f.2, g.2, reflected-at body g.0 inside) in
    record {
      on_obstacle = f.0;
      on_body = g.0;
      within_obstacle = f.1;
      within_body = inside;
      horizontal = ap (λ v. v.x) is;
      vertical = ap (λ v. v.y) is;
    }

-- a vector between two corners, and that between their reflections
back_to_back : (e a b : Vertex) → cross (turned_back e) (from_to a b) ≡ cross e (from_to (reflection a) (reflection b))
back_to_back e a b =
    same (minus (times (minus (var (pos 0)) (var e.x)) (minus (var b.y) (var a.y)))
    (times (minus (var (pos 0)) (var e.y)) (minus (var b.x) (var a.x))))
    (minus (times (var e.x) (minus (opposite (var b.y)) (opposite (var a.y))))
    (times (var e.y) (minus (opposite (var b.x)) (opposite (var a.x))))) (omega arith)

-- the merged outline z of the outlines a of the obstacle and b of the reflected body
module _ (body obstacle a b z : List Vertex) (first : IsOutlineOf obstacle a) (second : IsOutlineOf (map reflection body) b) (merged : IsMerged a b z) where
  inside : (q : Rational) → Meets 0 body q obstacle → IsInside z q
  inside q m = λ i p.
      let e = from_to (corner_at z i) (corner_at z (next_corner (length z) i)) in
      let s = merged.sums i p in
      let f = first.from s.first s.within_first in
      let g = second.from s.second s.within_second in
      let small : g.0 < length body = let h = g.1 in omega (arith, length-reflected body) in
      let o = corner_at obstacle f.0 in
      let c = corner_at body g.0 in
      let under : corner_at b s.second ≡ reflection c = g.2 ∙ reflected-at body g.0 small in
      let is : corner_at z i ≡ difference o c = s.is ∙ rw (f.2, under) in
      let left : (t : ℕ) → t < length obstacle
      → pos 0 ≤ℤ cross e (from_to o (corner_at obstacle t)) = λ t r. subst (λ (v : Vertex). pos 0 ≤ℤ cross e (from_to v (corner_at obstacle t)))
      f.2 (first_left obstacle (map reflection body) a b z first second merged i p t r) in
      let right : (t : ℕ) → t < length body → pos 0 ≤ℤ cross (turned_back e) (from_to c (corner_at body t)) = λ t r.
      let reflected = subst (λ (v : Vertex). pos 0 ≤ℤ cross e (from_to v (corner_at (map reflection body) t))) under
      (second_left obstacle (map reflection body) a b z first second merged i p t (omega (arith, length-reflected body))) in
      let there = subst (λ (v : Vertex). pos 0 ≤ℤ cross e (from_to (reflection c) v)) (reflected-at body t r) reflected in
      rw (back_to_back e c (corner_at body t)) there in
      subst (λ (v : Vertex). pos 0 ≤ℤ cross e (out_to v q)) (sym is) (meets_left e o c body q obstacle m left right)

  meets : (q : Rational) → IsInside z q → Meets 0 body q obstacle
  meets q within =
      let f = fan z q (IsConvex-from_test z merged.convex) within in
      let k = f.0 in
      let small : suc (suc k) < length z = f.1 in
      let some : 0 < length z = omega arith in
      let next : suc k < length z = omega arith in
      Meets-mean body obstacle (corner_at z 0) (corner_at z (suc k)) (corner_at z (suc (suc k))) q f.2
      (IsDifference-sum body obstacle a b (corner_at z 0) first second (merged.sums 0 some))
      (IsDifference-sum body obstacle a b (corner_at z (suc k)) first second (merged.sums (suc k) next))
      (IsDifference-sum body obstacle a b (corner_at z (suc (suc k))) first second (merged.sums (suc (suc k)) small))

  -- the zone of a body and an obstacle in the ranges of a sum has bounded corners
  pub zone_bounded : list_all (is_corner_between LEAST_SUMMAND_COORDINATE MOST_SUMMAND_COORDINATE) body ≡ true
      → list_all (is_corner_between LEAST_SUMMAND_COORDINATE MOST_SUMMAND_COORDINATE) obstacle ≡ true → AreBoundedCorners z
  zone_bounded p q =
      true_of_all (is_corner_between LEAST_CORNER_COORDINATE MOST_CORNER_COORDINATE) z (record { x = pos 0; y = pos 0 }) (λ i l.
      let d = IsDifference-sum body obstacle a b (corner_at z i) first second (merged.sums i l) in
      let o = within_of LEAST_SUMMAND_COORDINATE MOST_SUMMAND_COORDINATE (corner_at obstacle d.on_obstacle)
      (true_at (is_corner_between LEAST_SUMMAND_COORDINATE MOST_SUMMAND_COORDINATE) obstacle d.on_obstacle (record { x = pos 0; y = pos 0 }) q
      d.within_obstacle) in
      let c = within_of LEAST_SUMMAND_COORDINATE MOST_SUMMAND_COORDINATE (corner_at body d.on_body)
      (true_at (is_corner_between LEAST_SUMMAND_COORDINATE MOST_SUMMAND_COORDINATE) body d.on_body (record { x = pos 0; y = pos 0 }) p d.within_body) in
      bounded_of (corner_at z i) (record {
        left = omega (arith, ints, o.left, c.right);
        right = omega (arith, ints, o.right, c.left);
        bottom = omega (arith, ints, o.bottom, c.top);
        top = omega (arith, ints, o.top, c.bottom);
      }))

  lowest : AreBoundedCorners z → (i : ℕ) → i < length z → IsLowerOrLeft (corner_at z 0) (corner_at z i)
  lowest h i l =
      let f = bounded_corner (corner_at z 0) (bounded_at z 0 h (omega arith)) in
      let g = bounded_corner (corner_at z i) (bounded_at z i h l) in
      let r = merged.lowest i l in
      by_lt_z (corner_at z 0).y (corner_at z i).y (λ lower. inl lower) (λ not_lower. inr (omega (arith, ints), omega (arith, ints)))

  pub zone_is : list_all (is_corner_between LEAST_SUMMAND_COORDINATE MOST_SUMMAND_COORDINATE) body ≡ true
      → list_all (is_corner_between LEAST_SUMMAND_COORDINATE MOST_SUMMAND_COORDINATE) obstacle ≡ true → IsZoneOf 0 body obstacle z
  zone_is p q = record { exact = λ r. (inside r, meets r); convex = merged.convex; first = lowest (zone_bounded p q) }

either : (a b c : Bool) → (a || b) ≡ true → (b ≡ true → c ≡ true) → (a || c) ≡ true
either true b c h f = refl
either false b c h f = f h

-- a reflected body is one corner or strictly convex, as the body is
pub shape-reflected : (corners : List Vertex) → (length corners == 1 || is_strictly_convex corners) ≡ true
    → (length (map reflection corners) == 1 || is_strictly_convex (map reflection corners)) ≡ true
shape-reflected corners h =
    subst (λ n. (n == 1 || is_strictly_convex (map reflection corners)) ≡ true) (sym (length-reflected corners))
    (either (length corners == 1) (is_strictly_convex corners) (is_strictly_convex (map reflection corners)) h
    (λ convex. test-from_IsConvex (map reflection corners) (IsConvex-reflected corners (IsConvex-from_test corners convex))))
