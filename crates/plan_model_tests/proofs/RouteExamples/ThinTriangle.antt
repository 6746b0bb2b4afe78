-- The thin triangle meets a point body at no lattice point near (5, 5), but halfway between (5, 4) and (5, 5).
use Rattle.plan_model_tests.proofs.Words.{◌≡◌, inl, inr, ℕ, ◌+◌, ◌*◌, ◌<◌, ◌≤◌, [], ◌∷◌, arith, refl, pos, ◌*ℤ◌, abs_diff, cases_lt, ints, mul-le, Point}
use Rattle.plan_model_tests.proofs.Words.{squared_distance, Clear, ClearAt, on_the_way, Meets, Rational, at_lattice, point_body, at, two_is_positive}
use Rattle.plan_model_tests.proofs.Words.{Meets-shares_point, SharesPoint-meets, thin_space, thin_triangle}
use Rattle.plan_model_tests.proofs.ShortLists.{one, three}
use Rattle.plan_model_tests.proofs.RouteExamples.ShortWeights.{ClearAt-apart}

-- ---- lattice points
-- points of the triangle with such an x lie strictly between y = 4 and y = 5
between_rows : (t x y a b c : ℕ) → 0 < t → 3 ≤ x → x ≤ 7 → a + b + c ≡ t → 11 * b + 10 * c ≡ t * x → 4 * a + 5 * b + 5 * c ≡ t * y → ⊥
between_rows t x y a b c some left right total across up =
    let low = mul-le t 3 t x (omega arith) left in
    let high = mul-le t x t 7 (omega arith) right in
    elim (cases_lt y 5) [
      | inl below ↦ omega (arith, low, high, total, across, up, some, mul-le t y t 4 (omega arith) (omega arith))
      | inr above ↦ omega (arith, low, high, total, across, up, some, mul-le t 5 t y (omega arith) above)
    ]

within_two : (d e : ℕ) → d * d + e * e ≤ 4 → d ≤ 2
within_two d e h =
    elim (cases_lt 2 d) [ inl far ↦ absurd (omega (arith, h, mul-le 3 3 d d (omega arith) (omega arith))) | inr near ↦ near ]

apart : (p : Point) → 3 ≤ p.x → p.x ≤ 7 → ¬ Meets 0 point_body (at_lattice p) thin_triangle
apart p left right meets =
    let m = SharesPoint-meets point_body thin_triangle (at_lattice p) meets in
    let o = three m.on_obstacle m.obstacle_corners in
    let b = one m.on_body m.body_corners in
    let x = rw (o.are, b.are) at m.horizontal in
    let y = rw (o.are, b.are) at m.vertical in
    let total = rw o.are at m.obstacle_total in
    between_rows m.total p.x p.y o.first o.second o.third m.some_weight left right (omega (arith, total)) (omega (arith, ints, x)) (omega (arith, ints, y))

pub ClearAt-near : (p : Point) → squared_distance p (at 5 5) ≤ 4 → ClearAt thin_space p
ClearAt-near p near =
    let x = within_two (abs_diff p.x 5) (abs_diff p.y 5) near in
    let y = within_two (abs_diff p.y 5) (abs_diff p.x 5) (omega (arith, near)) in
    ClearAt-apart (at 20 20) p thin_triangle (omega arith) (omega arith) (apart p (omega arith) (omega arith))

-- ---- across the triangle
-- the middle of the lower long edge
pub meets_middle : (q : Rational) → pos q.over *ℤ pos 10 ≡ pos 2 *ℤ q.x → pos q.over *ℤ pos 9 ≡ pos 2 *ℤ q.y → Meets 0 point_body q thin_triangle
meets_middle q h k = Meets-shares_point 0 point_body thin_triangle q (record {
  total = 2;
  on_obstacle = 1 ∷ 0 ∷ 1 ∷ [];
  on_body = 2 ∷ [];
  some_weight = two_is_positive;
  obstacle_corners = refl;
  body_corners = refl;
  obstacle_total = refl;
  body_total = refl;
  horizontal = h;
  vertical = k;
})

pub four_is_positive : 0 < 4
four_is_positive = omega arith

pub blocked_from_below : ¬ Clear thin_space (at 5 3) (at 5 5)
blocked_from_below clear =
    (clear 3 4 four_is_positive (omega arith)).meets_none 0 thin_triangle (omega arith)
    (meets_middle (on_the_way (at 5 3) (at 5 5) 3 4 four_is_positive) refl refl)

pub blocked_from_beside : ¬ Clear thin_space (at 5 4) (at 5 5)
blocked_from_beside clear =
    (clear 1 2 two_is_positive (omega arith)).meets_none 0 thin_triangle (omega arith)
    (meets_middle (on_the_way (at 5 4) (at 5 5) 1 2 two_is_positive) refl refl)
