-- The zones of a body and an obstacle with one clearance: what crosses one crosses the other, and they have one box.
use Rattle.obstacle_boxes.proofs.Words.{◌≡◌, ℕ, ◌<◌, Bool, true, false, List, length, refl, arith, eqb, pos, ◌≤ℤ◌, ints, eqb-true, eqb-false, Point, Vertex}
use Rattle.obstacle_boxes.proofs.Words.{on_the_way, corner_at, next_corner, orientation, IsInside, IsZoneOf, BoundingBox, IsBoundingBox, at_corner, boxes_meet}
use Rattle.obstacle_boxes.proofs.Words.{IsInRange, in_range, IsConvex, IsConvex-from_test, inside_at, var, minus, times, same, Crosses}

pub Crosses-other : (clearance : ℕ) (body obstacle z w : List Vertex) (a b : Point) → IsZoneOf clearance body obstacle z
    → IsZoneOf clearance body obstacle w → Crosses z a b → Crosses w a b
Crosses-other clearance body obstacle z w a b h g x =
    let q = on_the_way a b x.s x.d x.positive in
    let one = h.exact q in
    let two = g.exact q in
    record { s = x.s; d = x.d; positive = x.positive; on_segment = x.on_segment; inside = two.0 (one.1 x.inside) }

-- a corner is on the inner side of every edge, or on it
orientation-first : (a b : Vertex) → orientation a b a ≡ pos 0
orientation-first a b =
    same (minus (times (minus (var b.x) (var a.x)) (minus (var a.y) (var a.y))) (times (minus (var b.y) (var a.y)) (minus (var a.x) (var a.x))))
    (var (pos 0)) (omega arith)

orientation-last : (a b : Vertex) → orientation a b b ≡ pos 0
orientation-last a b =
    same (minus (times (minus (var b.x) (var a.x)) (minus (var b.y) (var a.y))) (times (minus (var b.y) (var a.y)) (minus (var b.x) (var a.x))))
    (var (pos 0)) (omega arith)

corner-inside : (corners : List Vertex) (m : ℕ) → IsConvex corners → m < length corners → IsInside corners (at_corner (corner_at corners m))
corner-inside corners m convex l =
    inside_at corners (corner_at corners m) (λ k at. side k at (eqb m k) refl)
  where
    side : (k : ℕ) → k < length corners → (t : Bool) → eqb m k ≡ t
        → pos 0 ≤ℤ orientation (corner_at corners k) (corner_at corners (next_corner (length corners) k)) (corner_at corners m)
    side k at true e =
        let is = eqb-true m k e in
        let zero = orientation-first (corner_at corners k) (corner_at corners (next_corner (length corners) k)) in
        rw is (omega (arith, ints, zero))
    side k at false e = other (eqb m (next_corner (length corners) k)) refl
      where
        other : (t : Bool) → eqb m (next_corner (length corners) k) ≡ t
            → pos 0 ≤ℤ orientation (corner_at corners k) (corner_at corners (next_corner (length corners) k)) (corner_at corners m)
        other true g =
            let is = eqb-true m (next_corner (length corners) k) g in
            let zero = orientation-last (corner_at corners k) (corner_at corners (next_corner (length corners) k)) in
            rw is (omega (arith, ints, zero))
        other false g =
            let left = convex.left k m at l (eqb-false m k e) (eqb-false m (next_corner (length corners) k) g) in
            omega (arith, ints, left)

-- the box of one zone holds the corners of the other, so it reaches as far
pub record ReachesAsFar (p q : BoundingBox) : Type 0 where
  pub left : p.low.x ≤ℤ q.low.x
  pub bottom : p.low.y ≤ℤ q.low.y
  pub right : q.high.x ≤ℤ p.high.x
  pub top : q.high.y ≤ℤ p.high.y

reaches : (clearance : ℕ) (body obstacle z w : List Vertex) (p q : BoundingBox) → IsZoneOf clearance body obstacle z
    → IsZoneOf clearance body obstacle w → IsBoundingBox z p → IsBoundingBox w q → ReachesAsFar p q
reaches clearance body obstacle z w p q h g bz bw =
    let within : (m : ℕ) → m < length w → IsInRange p (at_corner (corner_at w m)) = λ m at.
    (let v = corner_at w m in
    let inside = corner-inside w m (IsConvex-from_test w g.convex) at in
    let one = h.exact (at_corner v) in
    let two = g.exact (at_corner v) in
    in_range z p (at_corner v) (IsConvex-from_test z h.convex) bz (one.0 (two.1 inside))) in
    let l = bw.low_end.left_reached in
    let b = bw.low_end.bottom_reached in
    let r = bw.high_end.right_reached in
    let t = bw.high_end.top_reached in
    record {
      left = omega (arith, ints, l.2, (within l.0 l.1).left);
      bottom = omega (arith, ints, b.2, (within b.0 b.1).bottom);
      right = omega (arith, ints, r.2, (within r.0 r.1).right);
      top = omega (arith, ints, t.2, (within t.0 t.1).top);
    }

-- so both meet the same boxes
pub meets-other : (clearance : ℕ) (body obstacle z w : List Vertex) (p q s : BoundingBox) → IsZoneOf clearance body obstacle z
    → IsZoneOf clearance body obstacle w → IsBoundingBox z p → IsBoundingBox w q → boxes_meet s p ≡ boxes_meet s q
meets-other clearance body obstacle z w p q s h g bz bw =
    let one = reaches clearance body obstacle z w p q h g bz bw in
    let two = reaches clearance body obstacle w z q p g h bw bz in
    let left : p.low.x ≡ q.low.x = omega (arith, ints, one.left, two.left) in
    let bottom : p.low.y ≡ q.low.y = omega (arith, ints, one.bottom, two.bottom) in
    let right : p.high.x ≡ q.high.x = omega (arith, ints, one.right, two.right) in
    let top : p.high.y ≡ q.high.y = omega (arith, ints, one.top, two.top) in
    rw (left, bottom, right, top) refl
