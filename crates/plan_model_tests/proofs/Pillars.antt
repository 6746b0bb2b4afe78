-- A point body to the left of a pillar or above it, beyond the clearance, does not meet it.
use Rattle.plan_model_tests.proofs.Words.{◌≡◌, ℕ, ◌+◌, ◌*◌, ◌<◌, [], ◌∷◌, arith, ap, pos, ◌-ℤ◌, ◌*ℤ◌, sum, ints, mul-le, Rational, weighted, IsWithin, Meets}
use Rattle.plan_model_tests.proofs.Words.{point_body, pillar}
use Rattle.plan_model_tests.proofs.ShortLists.{one, four}

-- the point (x / n, y / n)
abbrev pub fraction : ℕ → ℕ → (n : ℕ) → 0 < n → Rational
fraction x y n positive = record { x = pos x; y = pos y; over = n; positive = positive }

left_of_pillar :
    (clearance x n t a b c d e : ℕ) → 0 < t → x + n * clearance < n * 40 → sum (a ∷ b ∷ c ∷ d ∷ []) ≡ t
    → IsWithin (clearance * n * t) (pos n *ℤ (weighted (λ v. v.x) (a ∷ b ∷ c ∷ d ∷ []) pillar -ℤ weighted (λ v. v.x) (e ∷ []) point_body)) (pos t *ℤ pos x) → ⊥
left_of_pillar clearance x n t a b c d e some less total h =
    let whole : weighted (λ v. v.x) (a ∷ b ∷ c ∷ d ∷ []) pillar -ℤ weighted (λ v. v.x) (e ∷ []) point_body ≡ pos (40 * a + 60 * b + 60 * c + 40 * d) =
    omega (arith, ints) in
    let high = rw whole at h.highest in
    let gap = mul-le t (x + n * clearance + 1) t (n * 40) (omega arith) (omega arith) in
    omega (arith, ints, ap (λ k. n * k) total, gap)

above_pillar :
    (clearance y n t a b c d e : ℕ) → 0 < t → n * (60 + clearance) < y → sum (a ∷ b ∷ c ∷ d ∷ []) ≡ t
    → IsWithin (clearance * n * t) (pos n *ℤ (weighted (λ v. v.y) (a ∷ b ∷ c ∷ d ∷ []) pillar -ℤ weighted (λ v. v.y) (e ∷ []) point_body)) (pos t *ℤ pos y) → ⊥
above_pillar clearance y n t a b c d e some less total h =
    let whole : weighted (λ v. v.y) (a ∷ b ∷ c ∷ d ∷ []) pillar -ℤ weighted (λ v. v.y) (e ∷ []) point_body ≡ pos (60 * c + 60 * d) =
    omega (arith, ints) in
    let low = rw whole at h.lowest in
    let gap = mul-le t (n * (60 + clearance) + 1) t y (omega arith) (omega arith) in
    omega (arith, ints, ap (λ k. n * k) total, gap)

pub apart_left : (clearance x y n : ℕ) (positive : 0 < n) → x + n * clearance < n * 40 → ¬ Meets clearance point_body (fraction x y n positive) pillar
apart_left clearance x y n positive less m =
    let o = four m.on_obstacle m.obstacle_corners in
    let b = one m.on_body m.body_corners in
    left_of_pillar clearance x n m.total o.first o.second o.third o.fourth b.only m.some_weight less (rw o.are at m.obstacle_total)
    (rw (o.are, b.are) at m.horizontal)

pub apart_above : (clearance x y n : ℕ) (positive : 0 < n) → n * (60 + clearance) < y → ¬ Meets clearance point_body (fraction x y n positive) pillar
apart_above clearance x y n positive less m =
    let o = four m.on_obstacle m.obstacle_corners in
    let b = one m.on_body m.body_corners in
    above_pillar clearance y n m.total o.first o.second o.third o.fourth b.only m.some_weight less (rw o.are at m.obstacle_total)
    (rw (o.are, b.are) at m.vertical)
