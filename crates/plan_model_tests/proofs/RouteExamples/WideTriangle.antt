-- The wide triangle begins in column 10: four lattice steps or more to the right of what stands in columns 0 to 6.
use Rattle.plan_model_tests.proofs.Words.{◌≡◌, ℕ, ◌+◌, ◌*◌, ◌<◌, ◌≤◌, [], ◌∷◌, arith, ap, ◌∙◌, refl, pos, ◌-ℤ◌, unsigned_abs, abs_diff, ints, All-cons, All-nil}
use Rattle.plan_model_tests.proofs.Words.{mul-le, Point, squared_distance, weighted, great_triangle, point_body, at, corner, IsFartherFrom, KeepsBodyFar}
use Rattle.plan_model_tests.proofs.Words.{KeepsFromWalls, gap_from, difference, wide_setup}
use Rattle.plan_model_tests.proofs.ShortLists.{one, three}

-- by weights of this total
farther : (t whole v c d e f column : ℕ) → 0 < t → column ≤ 6 → whole ≤ 9 → c + d + e ≡ t
    → gap_from t (weighted (λ v. v.x) (c ∷ d ∷ e ∷ []) great_triangle -ℤ weighted (λ v. v.x) (f ∷ []) point_body) column
    * gap_from t (weighted (λ v. v.x) (c ∷ d ∷ e ∷ []) great_triangle -ℤ weighted (λ v. v.x) (f ∷ []) point_body) column
    + v * v ≤ (t * t) * whole → ⊥
farther t whole v c d e f column some left short total h =
    let x = weighted (λ v. v.x) (c ∷ d ∷ e ∷ []) great_triangle -ℤ weighted (λ v. v.x) (f ∷ []) point_body in
    let place : x ≡ pos (10 * c + 20 * d + 10 * e) = omega (arith, ints) in
    let gap : gap_from t x column ≡ abs_diff (10 * c + 20 * d + 10 * e) (t * column) =
    ap (λ z. unsigned_abs (z -ℤ pos (t * column))) place ∙ difference (10 * c + 20 * d + 10 * e) (t * column) in
    let beyond : 4 * t ≤ gap_from t x column = omega (arith, gap, total, mul-le t column t 6 (omega arith) left) in
    let square = mul-le (4 * t) (4 * t) (gap_from t x column) (gap_from t x column) beyond beyond in
    let within = mul-le (t * t) whole (t * t) 9 (omega arith) short in
    omega (arith, square, within, h, mul-le 1 1 t t some some)

pub IsFartherFrom-wide : (a b : Point) → b.x ≤ 6 → squared_distance a b ≤ 9 → IsFartherFrom point_body a b great_triangle
IsFartherFrom-wide a b left short total on_obstacle on_body positive corners corner obstacle_total body_total h =
    let o = three on_obstacle corners in
    let w = one on_body corner in
    let y = weighted (λ v. v.y) (o.first ∷ o.second ∷ o.third ∷ []) great_triangle -ℤ weighted (λ v. v.y) (w.only ∷ []) point_body in
    farther total (squared_distance a b) (gap_from total y b.y) o.first o.second o.third w.only b.x positive left short
    (omega (arith, rw o.are at obstacle_total)) (rw (o.are, w.are) at h)

-- a link of at most three lattice steps at y = 15, whose end keeps as far from the walls
pub KeepsBodyFar-wide :
    (from to : ℕ) → squared_distance (at from 15) (at to 15) ≤ 9 → 3 ≤ to → to ≤ 6 → KeepsBodyFar (wide_setup point_body 0) (at from 15) (at to 15)
KeepsBodyFar-wide from to short low high =
    let walls : KeepsFromWalls (at 30 30) (at to 15) 3 (corner 0 0) =
    record { left = omega (arith, ints); right = omega (arith, ints); bottom = omega (arith, ints); top = omega (arith, ints) } in
    record {
      short = omega (arith, short);
      no_clearance = refl;
      steps = 3;
      reach = short;
      origin = walls;
      corners = All-cons (KeepsFromWalls (at 30 30) (at to 15) 3) (corner 0 0) [] walls (All-nil (KeepsFromWalls (at 30 30) (at to 15) 3));
      obstacles =
          All-cons (IsFartherFrom point_body (at from 15) (at to 15)) great_triangle []
          (IsFartherFrom-wide (at from 15) (at to 15) high short) (All-nil (IsFartherFrom point_body (at from 15) (at to 15)));
    }
