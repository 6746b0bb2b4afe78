-- A segment that crosses a polygon has a box that meets the polygon's.
use Rattle.swept_check.proofs.Words.{◌≡◌, ℕ, ◌<◌, ◌≤◌, Bool, true, false, List, refl, arith, ℤ, pos, ◌+ℤ◌, ◌-ℤ◌, ◌*ℤ◌, ◌≤ℤ◌, ◌<ℤ◌, int_le, min, max, ints}
use Rattle.swept_check.proofs.Words.{and_from, Point, Vertex, on_the_way, BoundingBox, IsBoundingBox, boxes_meet, segment_box, in_range, IsConvex, var, plus}
use Rattle.swept_check.proofs.Words.{minus, times, same, Crosses}
use Rattle.swept_check.proofs.LinearValues.{IsAdmitted-outside}

-- how far a coordinate on the way is past another
past_on_way : (a b c d s : ℤ) → (((d *ℤ a) +ℤ (s *ℤ (b -ℤ a))) -ℤ (d *ℤ c)) ≡ ((d *ℤ (a -ℤ c)) +ℤ (s *ℤ ((b -ℤ c) -ℤ (a -ℤ c))))
past_on_way a b c d s =
    same (minus (plus (times (var d) (var a)) (times (var s) (minus (var b) (var a)))) (times (var d) (var c)))
    (plus (times (var d) (minus (var a) (var c))) (times (var s) (minus (minus (var b) (var c)) (minus (var a) (var c))))) (omega arith)

short_on_way : (a b c d s : ℤ) → ((d *ℤ c) -ℤ ((d *ℤ a) +ℤ (s *ℤ (b -ℤ a)))) ≡ ((d *ℤ (c -ℤ a)) +ℤ (s *ℤ ((c -ℤ b) -ℤ (c -ℤ a))))
short_on_way a b c d s =
    same (minus (times (var d) (var c)) (plus (times (var d) (var a)) (times (var s) (minus (var b) (var a)))))
    (plus (times (var d) (minus (var c) (var a))) (times (var s) (minus (minus (var c) (var b)) (minus (var c) (var a))))) (omega arith)

not_below : (a b c : ℤ) (s d : ℕ) → 0 < d → s ≤ d → (pos d *ℤ c) ≤ℤ ((pos d *ℤ a) +ℤ (pos s *ℤ (b -ℤ a))) → a <ℤ c → b <ℤ c → ⊥
not_below a b c s d p l h f g =
    let past : pos 0 ≤ℤ (((pos d *ℤ a) +ℤ (pos s *ℤ (b -ℤ a))) -ℤ (pos d *ℤ c)) = omega (arith, ints) in
    IsAdmitted-outside (a -ℤ c) (b -ℤ c) s d (omega (arith, ints)) (omega (arith, ints)) p l (rw (past_on_way a b c (pos d) (pos s)) at past)

not_above : (a b c : ℤ) (s d : ℕ) → 0 < d → s ≤ d → ((pos d *ℤ a) +ℤ (pos s *ℤ (b -ℤ a))) ≤ℤ (pos d *ℤ c) → c <ℤ a → c <ℤ b → ⊥
not_above a b c s d p l h f g =
    let short : pos 0 ≤ℤ ((pos d *ℤ c) -ℤ ((pos d *ℤ a) +ℤ (pos s *ℤ (b -ℤ a)))) = omega (arith, ints) in
    IsAdmitted-outside (c -ℤ a) (c -ℤ b) s d (omega (arith, ints)) (omega (arith, ints)) p l (rw (short_on_way a b c (pos d) (pos s)) at short)

-- a point on the way that is not above a bound: one end is not
least_within : (a b s d : ℕ) (high : ℤ) → 0 < d → s ≤ d → ((pos d *ℤ pos a) +ℤ (pos s *ℤ (pos b -ℤ pos a))) ≤ℤ (pos d *ℤ high)
    → int_le (pos (min a b)) high ≡ true
least_within a b s d high p l h = by (int_le (pos (min a b)) high) refl
  where
    by : (t : Bool) → int_le (pos (min a b)) high ≡ t → t ≡ true
    by true e = refl
    by false e = absurd (not_above (pos a) (pos b) high s d p l h (omega (arith, ints)) (omega (arith, ints)))

-- a point on the way that is not below a bound: one end is not
greatest_within : (a b s d : ℕ) (low : ℤ) → 0 < d → s ≤ d → (pos d *ℤ low) ≤ℤ ((pos d *ℤ pos a) +ℤ (pos s *ℤ (pos b -ℤ pos a)))
    → int_le low (pos (max a b)) ≡ true
greatest_within a b s d low p l h = by (int_le low (pos (max a b))) refl
  where
    by : (t : Bool) → int_le low (pos (max a b)) ≡ t → t ≡ true
    by true e = refl
    by false e = absurd (not_below (pos a) (pos b) low s d p l h (omega (arith, ints)) (omega (arith, ints)))

pub meets-crossed : (corners : List Vertex) (a b : Point) (bounds : BoundingBox) → IsConvex corners → IsBoundingBox corners bounds
    → Crosses corners a b → boxes_meet (segment_box a b) bounds ≡ true
meets-crossed corners a b bounds convex box x =
    let r = in_range corners bounds (on_the_way a b x.s x.d x.positive) convex box x.inside in
    let left = least_within a.x b.x x.s x.d bounds.high.x x.positive x.on_segment r.right in
    let right = greatest_within a.x b.x x.s x.d bounds.low.x x.positive x.on_segment r.left in
    let bottom = least_within a.y b.y x.s x.d bounds.high.y x.positive x.on_segment r.top in
    let top = greatest_within a.y b.y x.s x.d bounds.low.y x.positive x.on_segment r.bottom in
    and_from _ _ (and_from _ _ left right) (and_from _ _ bottom top)
