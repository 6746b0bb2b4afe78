-- The square of a clearance: its corners, and the points between them.
use Rattle.convex_sets.proofs.Words.{◌≡◌, ◌≢◌, ℕ, zero, suc, ◌*◌, ◌<◌, true, refl, arith, ℤ, pos, neg_ℤ, ◌+ℤ◌, ◌-ℤ◌, ◌*ℤ◌, ◌<ℤ◌, ◌≤ℤ◌, ints, by_lt_z}
use Rattle.convex_sets.proofs.Words.{Vertex, corner_at, next_corner, is_strictly_convex, orientation, var, plus, minus, times, opposite, same, cross, from_to}
use Rattle.convex_sets.proofs.Words.{corner, square}
use Rattle.plan_model.specs.Spaces.Zones as meeting
use Rattle.convex_sets.proofs.ConvexPolygons.{test-from_IsConvex}
use Rattle.convex_sets.proofs.Corners.{IsWithin}
use Rattle.convex_sets.proofs.Crosses.{seen_is}
use Rattle.convex_sets.proofs.Signs.{mul-positive, mul-not_negative, mul-up_down, mul-down_up, mul-both_negative, mul-both_not_positive}

-- a corner to the left of an edge along an axis
left_of_right : (a b c : Vertex) → a.y ≡ b.y → a.x <ℤ b.x → a.y <ℤ c.y → pos 0 <ℤ orientation a b c
left_of_right a b c level p q =
    let turn = mul-positive (b.x -ℤ a.x) (c.y -ℤ a.y) (omega (arith, ints)) (omega (arith, ints)) in
    let none : b.y -ℤ a.y ≡ pos 0 = omega (arith, ints) in
    rw none (omega (arith, ints))

left_of_up : (a b c : Vertex) → a.x ≡ b.x → a.y <ℤ b.y → c.x <ℤ a.x → pos 0 <ℤ orientation a b c
left_of_up a b c level p q =
    let turn = mul-up_down (b.y -ℤ a.y) (c.x -ℤ a.x) (omega (arith, ints)) (omega (arith, ints)) in
    let none : b.x -ℤ a.x ≡ pos 0 = omega (arith, ints) in
    rw none (omega (arith, ints))

left_of_left : (a b c : Vertex) → a.y ≡ b.y → b.x <ℤ a.x → c.y <ℤ a.y → pos 0 <ℤ orientation a b c
left_of_left a b c level p q =
    let turn = mul-both_negative (b.x -ℤ a.x) (c.y -ℤ a.y) (omega (arith, ints)) (omega (arith, ints)) in
    let none : b.y -ℤ a.y ≡ pos 0 = omega (arith, ints) in
    rw none (omega (arith, ints))

left_of_down : (a b c : Vertex) → a.x ≡ b.x → b.y <ℤ a.y → a.x <ℤ c.x → pos 0 <ℤ orientation a b c
left_of_down a b c level p q =
    let turn = mul-down_up (b.y -ℤ a.y) (c.x -ℤ a.x) (omega (arith, ints)) (omega (arith, ints)) in
    let none : b.x -ℤ a.x ≡ pos 0 = omega (arith, ints) in
    rw none (omega (arith, ints))

module _ (clearance : ℕ) (some : 0 < clearance) where
  at : ℕ → Vertex
  at i = corner_at (square clearance) i

  lefts : (i k : ℕ) → i < 4 → k < 4 → k ≢ i → k ≢ next_corner 4 i
      → pos 0 <ℤ orientation (corner_at (square clearance) i) (corner_at (square clearance) (next_corner 4 i)) (corner_at (square clearance) k)
  unfolding at
  lefts zero zero p q a b = absurd (a refl)
  lefts zero (suc zero) p q a b = absurd (b refl)
  lefts zero (suc (suc zero)) p q a b = left_of_right (at 0) (at 1) (at 2) (omega (arith, ints)) (omega (arith, ints)) (omega (arith, ints))
  lefts zero (suc (suc (suc zero))) p q a b = left_of_right (at 0) (at 1) (at 3) (omega (arith, ints)) (omega (arith, ints)) (omega (arith, ints))
  lefts (suc zero) zero p q a b = left_of_up (at 1) (at 2) (at 0) (omega (arith, ints)) (omega (arith, ints)) (omega (arith, ints))
  lefts (suc zero) (suc zero) p q a b = absurd (a refl)
  lefts (suc zero) (suc (suc zero)) p q a b = absurd (b refl)
  lefts (suc zero) (suc (suc (suc zero))) p q a b = left_of_up (at 1) (at 2) (at 3) (omega (arith, ints)) (omega (arith, ints)) (omega (arith, ints))
  lefts (suc (suc zero)) zero p q a b = left_of_left (at 2) (at 3) (at 0) (omega (arith, ints)) (omega (arith, ints)) (omega (arith, ints))
  lefts (suc (suc zero)) (suc zero) p q a b = left_of_left (at 2) (at 3) (at 1) (omega (arith, ints)) (omega (arith, ints)) (omega (arith, ints))
  lefts (suc (suc zero)) (suc (suc zero)) p q a b = absurd (a refl)
  lefts (suc (suc zero)) (suc (suc (suc zero))) p q a b = absurd (b refl)
  lefts (suc (suc (suc zero))) zero p q a b = absurd (b refl)
  lefts (suc (suc (suc zero))) (suc zero) p q a b = left_of_down (at 3) (at 0) (at 1) (omega (arith, ints)) (omega (arith, ints)) (omega (arith, ints))
  lefts (suc (suc (suc zero))) (suc (suc zero)) p q a b = left_of_down (at 3) (at 0) (at 2) (omega (arith, ints)) (omega (arith, ints)) (omega (arith, ints))
  lefts (suc (suc (suc zero))) (suc (suc (suc zero))) p q a b = absurd (a refl)
  lefts (suc (suc (suc (suc i)))) k p q a b = absurd (omega arith)
  lefts i (suc (suc (suc (suc k)))) p q a b = absurd (omega arith)

  pub square_convex : is_strictly_convex (square clearance) ≡ true
  square_convex = test-from_IsConvex (square clearance) (record { three = omega arith; left = lefts })

-- no coordinate of a corner is further from 0 than the clearance
pub square_within : (clearance i : ℕ) → i < 4 → IsWithin (neg_ℤ (pos clearance)) (pos clearance) (corner_at (square clearance) i)
square_within clearance zero h =
    record { left = omega (arith, ints); right = omega (arith, ints); bottom = omega (arith, ints); top = omega (arith, ints) }
square_within clearance (suc zero) h =
    record { left = omega (arith, ints); right = omega (arith, ints); bottom = omega (arith, ints); top = omega (arith, ints) }
square_within clearance (suc (suc zero)) h =
    record { left = omega (arith, ints); right = omega (arith, ints); bottom = omega (arith, ints); top = omega (arith, ints) }
square_within clearance (suc (suc (suc zero))) h =
    record { left = omega (arith, ints); right = omega (arith, ints); bottom = omega (arith, ints); top = omega (arith, ints) }
square_within clearance (suc (suc (suc (suc i)))) h = absurd (omega arith)

-- A vector lies to the left of an edge, if a corner lies to its left, and the vector further left than that.
past : (e a s : Vertex) (n : ℕ) (t u : ℤ) → pos 0 ≤ℤ cross e (from_to a s) → pos 0 ≤ℤ (e.x *ℤ (u -ℤ (pos n *ℤ s.y)))
    → pos 0 ≤ℤ (e.y *ℤ ((pos n *ℤ s.x) -ℤ t)) → pos 0 ≤ℤ ((e.x *ℤ (u -ℤ (pos n *ℤ a.y))) -ℤ (e.y *ℤ (t -ℤ (pos n *ℤ a.x))))
past e a s n t u h f g =
    let there = mul-not_negative (pos n) (cross e (from_to a s)) (omega (arith, ints)) h in
    rw parts (omega (arith, ints))
  where
    parts : ((e.x *ℤ (u -ℤ (pos n *ℤ a.y))) -ℤ (e.y *ℤ (t -ℤ (pos n *ℤ a.x)))) ≡ (pos n *ℤ cross e (from_to a s)) +ℤ
        ((e.x *ℤ (u -ℤ (pos n *ℤ s.y))) +ℤ (e.y *ℤ ((pos n *ℤ s.x) -ℤ t)))
    parts =
        same (minus (times (var e.x) (minus (var u) (times (var (pos n)) (var a.y)))) (times (var e.y) (minus (var t) (times (var (pos n)) (var a.x)))))
        (plus (times (var (pos n)) (seen_is e a s))
        (plus (times (var e.x) (minus (var u) (times (var (pos n)) (var s.y)))) (times (var e.y) (minus (times (var (pos n)) (var s.x)) (var t)))))
        (omega arith)

-- A point of the square, times n, lies to the left of an edge that has all corners to its left.
pub between_corners : (e a : Vertex) (clearance n : ℕ) (t u : ℤ)
    → ((i : ℕ) → i < 4 → pos 0 ≤ℤ cross e (from_to a (corner_at (square clearance) i)))
    → meeting.IsWithin (clearance * n) t (pos 0) → meeting.IsWithin (clearance * n) u (pos 0)
    → pos 0 ≤ℤ ((e.x *ℤ (u -ℤ (pos n *ℤ a.y))) -ℤ (e.y *ℤ (t -ℤ (pos n *ℤ a.x))))
between_corners e a clearance n t u corners across up =
    by_lt_z e.x (pos 0) (λ back. by_lt_z e.y (pos 0)
    (λ down. past e a (corner (neg_ℤ (pos clearance)) (pos clearance)) n t u (corners 3 (omega arith)) (mul-both_not_positive e.x _ (omega (arith, ints)) above)
    (mul-both_not_positive e.y _ (omega (arith, ints)) before))
    (λ up. past e a (corner (pos clearance) (pos clearance)) n t u (corners 2 (omega arith)) (mul-both_not_positive e.x _ (omega (arith, ints)) above)
    (mul-not_negative e.y _ up after)))
    (λ on. by_lt_z e.y (pos 0)
    (λ down. past e a (corner (neg_ℤ (pos clearance)) (neg_ℤ (pos clearance))) n t u (corners 0 (omega arith)) (mul-not_negative e.x _ on below)
    (mul-both_not_positive e.y _ (omega (arith, ints)) before))
    (λ up. past e a (corner (pos clearance) (neg_ℤ (pos clearance))) n t u (corners 1 (omega arith))
    (mul-not_negative e.x _ on below) (mul-not_negative e.y _ up after)))
  where
    least : pos n *ℤ neg_ℤ (pos clearance) ≡ neg_ℤ (pos (clearance * n))
    least = same (times (var (pos n)) (opposite (var (pos clearance)))) (opposite (var (pos (clearance * n)))) (omega arith)

    above : (u -ℤ (pos n *ℤ pos clearance)) ≤ℤ pos 0
    above = let h = up.highest in omega (arith, ints)

    below : pos 0 ≤ℤ (u -ℤ (pos n *ℤ neg_ℤ (pos clearance)))
    below = let h = up.lowest in rw least (omega (arith, ints))

    after : pos 0 ≤ℤ ((pos n *ℤ pos clearance) -ℤ t)
    after = let h = across.highest in omega (arith, ints)

    before : ((pos n *ℤ neg_ℤ (pos clearance)) -ℤ t) ≤ℤ pos 0
    before = let h = across.lowest in rw least (omega (arith, ints))
