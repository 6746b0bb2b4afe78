-- Least and greatest coordinates, and the box in which a convex polygon lies.
use Rattle.convex_sets.proofs.Words.{◌≡◌, ℕ, suc, ◌+◌, ◌<◌, List, length, refl, arith, Bool, true, false, cond, ◌∙◌, ℤ, pos, ◌+ℤ◌, ◌-ℤ◌, ◌*ℤ◌, ◌≤ℤ◌, int_lt}
use Rattle.convex_sets.proofs.Words.{int_min, int_max, ints, LEAST_CORNER_COORDINATE, MOST_CORNER_COORDINATE, Vertex, corner_at, IsInside, Rational, at_lattice}
use Rattle.convex_sets.proofs.Words.{BoundingBox, IsBoundingBox, IsBoxed, IsInBox, Point, var, plus, minus, times, same}
use borrow.Author.Count.{below_more}
use Rattle.convex_sets.proofs.Corners.{IsWithin, bounded_corner, bounded_at}
use Rattle.convex_sets.proofs.Signs.{mul-not_negative, not_negative_factor}
use Rattle.convex_sets.proofs.ConvexPolygons.{IsConvex, IsConvex-from_test}
use Rattle.convex_sets.proofs.Fans.{fan}

-- a coordinate of some corner, below none of the first corners
pub record IsLeast (f : Vertex → ℤ) (corners : List Vertex) (n : ℕ) (v : ℤ) : Type 0 where
  pub least : (i : ℕ) → i < n → v ≤ℤ f (corner_at corners i)
  pub reached : (i : ℕ) × (i < length corners) × (f (corner_at corners i) ≡ v)

min_cases : (P : ℤ → Type 0) (a b : ℤ) → (a ≤ℤ b → P a) → (b ≤ℤ a → P b) → P (int_min a b)
min_cases P a b f g = by (int_lt b a) refl
  where
    by : (t : Bool) → int_lt b a ≡ t → P (cond t b a)
    by true e = g (omega (arith, ints))
    by false e = f (omega (arith, ints))

pub IsLeast-more : (f : Vertex → ℤ) (corners : List Vertex) (n : ℕ) (v r : ℤ) → n < length corners → IsLeast f corners n v
    → r ≡ int_min v (f (corner_at corners n)) → IsLeast f corners (n + 1) r
IsLeast-more f corners n v r l h e =
    let w = f (corner_at corners n) in
    rw e (min_cases (IsLeast f corners (n + 1)) v w
    (λ above. record { least = below_more (λ i. v ≤ℤ f (corner_at corners i)) n h.least above; reached = h.reached }) (λ below.
    record {
      least = below_more (λ i. w ≤ℤ f (corner_at corners i)) n (λ i k. let p = h.least i k in omega (arith, ints)) (omega (arith, ints));
      reached = (n, l, refl);
    }))

-- a coordinate of some corner, above none of the first corners
pub record IsGreatest (f : Vertex → ℤ) (corners : List Vertex) (n : ℕ) (v : ℤ) : Type 0 where
  pub greatest : (i : ℕ) → i < n → f (corner_at corners i) ≤ℤ v
  pub reached : (i : ℕ) × (i < length corners) × (f (corner_at corners i) ≡ v)

max_cases : (P : ℤ → Type 0) (a b : ℤ) → (b ≤ℤ a → P a) → (a ≤ℤ b → P b) → P (int_max a b)
max_cases P a b f g = by (int_lt b a) refl
  where
    by : (t : Bool) → int_lt b a ≡ t → P (cond t a b)
    by true e = f (omega (arith, ints))
    by false e = g (omega (arith, ints))

pub IsGreatest-more : (f : Vertex → ℤ) (corners : List Vertex) (n : ℕ) (v r : ℤ) → n < length corners → IsGreatest f corners n v
    → r ≡ int_max v (f (corner_at corners n)) → IsGreatest f corners (n + 1) r
IsGreatest-more f corners n v r l h e =
    let w = f (corner_at corners n) in
    rw e (max_cases (IsGreatest f corners (n + 1)) v w
    (λ below. record { greatest = below_more (λ i. f (corner_at corners i) ≤ℤ v) n h.greatest below; reached = h.reached }) (λ above.
    record {
      greatest = below_more (λ i. f (corner_at corners i) ≤ℤ w) n (λ i k. let p = h.greatest i k in omega (arith, ints)) (omega (arith, ints));
      reached = (n, l, refl);
    }))

-- how far a mean falls short of a bound
short_of : (d u v w a b c h q : ℤ) → d *ℤ (((u *ℤ a) +ℤ (v *ℤ b)) +ℤ (w *ℤ c)) ≡ ((u +ℤ v) +ℤ w) *ℤ q
    → ((u +ℤ v) +ℤ w) *ℤ ((d *ℤ h) -ℤ q) ≡ d *ℤ (((u *ℤ (h -ℤ a)) +ℤ (v *ℤ (h -ℤ b))) +ℤ (w *ℤ (h -ℤ c)))
short_of d u v w a b c h q e = multiplied ∙ (rw (← e) collected)
  where
    multiplied : ((u +ℤ v) +ℤ w) *ℤ ((d *ℤ h) -ℤ q) ≡ (((u +ℤ v) +ℤ w) *ℤ (d *ℤ h)) -ℤ (((u +ℤ v) +ℤ w) *ℤ q)
    multiplied =
        let s = plus (plus (var u) (var v)) (var w) in
        same (times s (minus (times (var d) (var h)) (var q))) (minus (times s (times (var d) (var h))) (times s (var q))) (omega arith)

    collected : (((u +ℤ v) +ℤ w) *ℤ (d *ℤ h)) -ℤ (d *ℤ (((u *ℤ a) +ℤ (v *ℤ b)) +ℤ (w *ℤ c))) ≡ d *ℤ (((u *ℤ (h -ℤ a)) +ℤ (v *ℤ (h -ℤ b))) +ℤ (w *ℤ (h -ℤ c)))
    collected =
        same (minus (times (plus (plus (var u) (var v)) (var w)) (times (var d) (var h)))
        (times (var d) (plus (plus (times (var u) (var a)) (times (var v) (var b))) (times (var w) (var c)))))
        (times (var d) (plus (plus (times (var u) (minus (var h) (var a))) (times (var v) (minus (var h) (var b))))
        (times (var w) (minus (var h) (var c))))) (omega arith)

mean_below : (d u v w : ℕ) (a b c h q : ℤ) → 0 < u + v + w → a ≤ℤ h → b ≤ℤ h → c ≤ℤ h
    → pos d *ℤ (((pos u *ℤ a) +ℤ (pos v *ℤ b)) +ℤ (pos w *ℤ c)) ≡ pos (u + v + w) *ℤ q → q ≤ℤ (pos d *ℤ h)
mean_below d u v w a b c h q some f g k e =
    let whole : pos 0 ≤ℤ pos d = omega (arith, ints) in
    let one = mul-not_negative (pos u) (h -ℤ a) (omega (arith, ints)) (omega (arith, ints)) in
    let two = mul-not_negative (pos v) (h -ℤ b) (omega (arith, ints)) (omega (arith, ints)) in
    let three = mul-not_negative (pos w) (h -ℤ c) (omega (arith, ints)) (omega (arith, ints)) in
    let total = mul-not_negative (pos d) (((pos u *ℤ (h -ℤ a)) +ℤ (pos v *ℤ (h -ℤ b))) +ℤ (pos w *ℤ (h -ℤ c))) whole (omega (arith, ints)) in
    let rest = not_negative_factor (pos (u + v + w)) ((pos d *ℤ h) -ℤ q) (omega (arith, ints))
    (rw (short_of (pos d) (pos u) (pos v) (pos w) a b c h q e) total) in
    omega (arith, ints)

negated : (d u v w a b c t q : ℤ) → d *ℤ (((u *ℤ a) +ℤ (v *ℤ b)) +ℤ (w *ℤ c)) ≡ t *ℤ q
    → d *ℤ (((u *ℤ (pos 0 -ℤ a)) +ℤ (v *ℤ (pos 0 -ℤ b))) +ℤ (w *ℤ (pos 0 -ℤ c))) ≡ t *ℤ (pos 0 -ℤ q)
negated d u v w a b c t q e = first ∙ rw e last
  where
    first : d *ℤ (((u *ℤ (pos 0 -ℤ a)) +ℤ (v *ℤ (pos 0 -ℤ b))) +ℤ (w *ℤ (pos 0 -ℤ c))) ≡ pos 0 -ℤ (d *ℤ (((u *ℤ a) +ℤ (v *ℤ b)) +ℤ (w *ℤ c)))
    first =
        same (times (var d) (plus (plus (times (var u) (minus (var (pos 0)) (var a))) (times (var v) (minus (var (pos 0)) (var b))))
        (times (var w) (minus (var (pos 0)) (var c)))))
        (minus (var (pos 0)) (times (var d) (plus (plus (times (var u) (var a)) (times (var v) (var b))) (times (var w) (var c))))) (omega arith)

    last : pos 0 -ℤ (t *ℤ q) ≡ t *ℤ (pos 0 -ℤ q)
    last = same (minus (var (pos 0)) (times (var t) (var q))) (times (var t) (minus (var (pos 0)) (var q))) (omega arith)

mean_above : (d u v w : ℕ) (a b c l q : ℤ) → 0 < u + v + w → l ≤ℤ a → l ≤ℤ b → l ≤ℤ c
    → pos d *ℤ (((pos u *ℤ a) +ℤ (pos v *ℤ b)) +ℤ (pos w *ℤ c)) ≡ pos (u + v + w) *ℤ q → (pos d *ℤ l) ≤ℤ q
mean_above d u v w a b c l q some f g k e =
    let below = mean_below d u v w (pos 0 -ℤ a) (pos 0 -ℤ b) (pos 0 -ℤ c) (pos 0 -ℤ l) (pos 0 -ℤ q) some (omega (arith, ints)) (omega (arith, ints))
    (omega (arith, ints)) (negated (pos d) (pos u) (pos v) (pos w) a b c (pos (u + v + w)) q e) in
    let turn : pos d *ℤ (pos 0 -ℤ l) ≡ pos 0 -ℤ (pos d *ℤ l) = same (times (var (pos d)) (minus (var (pos 0)) (var l)))
    (minus (var (pos 0)) (times (var (pos d)) (var l))) (omega arith) in
    omega (arith, ints, rw turn at below)

-- a convex polygon lies in every box that has its corners
pub record IsInRange (bounds : BoundingBox) (q : Rational) : Type 0 where
  pub left : (pos q.over *ℤ bounds.low.x) ≤ℤ q.x
  pub right : q.x ≤ℤ (pos q.over *ℤ bounds.high.x)
  pub bottom : (pos q.over *ℤ bounds.low.y) ≤ℤ q.y
  pub top : q.y ≤ℤ (pos q.over *ℤ bounds.high.y)

pub in_range : (corners : List Vertex) (bounds : BoundingBox) (q : Rational) → IsConvex corners → IsBoundingBox corners bounds
    → IsInside corners q → IsInRange bounds q
in_range corners bounds q convex box inside =
    let l = box.low_end in
    let h = box.high_end in
    let f = fan corners q convex inside in
    let k = f.0 in
    let m = f.2 in
    let c : ℕ → Vertex = corner_at corners in
    let small : suc (suc k) < length corners = f.1 in
    let first : 0 < length corners = omega arith in
    let second : suc k < length corners = omega arith in
    record {
      left = mean_above q.over m.first m.second m.third (c 0).x (c (suc k)).x (c (suc (suc k))).x bounds.low.x q.x m.some_weight (l.left 0 first)
          (l.left (suc k) second) (l.left (suc (suc k)) small) m.horizontal;
      right = mean_below q.over m.first m.second m.third (c 0).x (c (suc k)).x (c (suc (suc k))).x bounds.high.x q.x m.some_weight (h.right 0 first)
          (h.right (suc k) second) (h.right (suc (suc k)) small) m.horizontal;
      bottom = mean_above q.over m.first m.second m.third (c 0).y (c (suc k)).y (c (suc (suc k))).y bounds.low.y q.y m.some_weight (l.bottom 0 first)
          (l.bottom (suc k) second) (l.bottom (suc (suc k)) small) m.vertical;
      top = mean_below q.over m.first m.second m.third (c 0).y (c (suc k)).y (c (suc (suc k))).y bounds.high.y q.y m.some_weight (h.top 0 first)
          (h.top (suc k) second) (h.top (suc (suc k)) small) m.vertical;
    }

pub in_box : (corners : List Vertex) (bounds : BoundingBox) (p : Point) → IsBoxed corners bounds → IsInside corners (at_lattice p) → IsInBox bounds p
in_box corners bounds p h inside =
    let r = in_range corners bounds (at_lattice p) (IsConvex-from_test corners h.convex) h.bounding inside in
    record { left = omega (arith, ints); right = omega (arith, ints); bottom = omega (arith, ints); top = omega (arith, ints) }

-- a point of the box is bounded as its corners are
pub bounded_in_box : (corners : List Vertex) (bounds : BoundingBox) (p : Point) → IsBoxed corners bounds → IsInBox bounds p
    → IsWithin LEAST_CORNER_COORDINATE MOST_CORNER_COORDINATE (record { x = pos p.x; y = pos p.y })
bounded_in_box corners bounds p h b =
    let each : (i : ℕ) → i < length corners
    → IsWithin LEAST_CORNER_COORDINATE MOST_CORNER_COORDINATE (corner_at corners i) = λ i l. bounded_corner (corner_at corners i)
    (bounded_at corners i h.bounded l) in
    let a = h.bounding.low_end.left_reached in
    let c = h.bounding.high_end.right_reached in
    let d = h.bounding.low_end.bottom_reached in
    let g = h.bounding.high_end.top_reached in
    let ab = each a.0 a.1 in
    let cb = each c.0 c.1 in
    let db = each d.0 d.1 in
    let gb = each g.0 g.1 in
    record { left = omega (arith, ints); right = omega (arith, ints); bottom = omega (arith, ints); top = omega (arith, ints) }
