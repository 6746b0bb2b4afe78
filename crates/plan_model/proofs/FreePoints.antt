-- Points at no distance are one point, so no other node is within radius 0 of a free point.
use Rattle.plan_model.proofs.Words.{◌≡◌, ℕ, ◌*◌, ◌<◌, ◌≤◌, Bool, false, List, [], ◌∷◌, Option, Some, None, arith, refl, ap, ◌∙◌, inl, inr, mul-pos, lt-leb}
use Rattle.plan_model.proofs.Words.{cases_lt, cases_order, abs_diff, Point, squared_distance, point_at, IsFree, is_within}
use Rattle.std.specs.Prelude.{filter}
use Rattle.plan_model.proofs.SamePoints.{point_is}

-- points with no distance are the same
zero_difference : (a b : ℕ) → abs_diff a b * abs_diff a b ≤ 0 → a ≡ b
zero_difference a b h =
    elim (cases_order a b) [
      | inl e ↦ e
      | inr (inl before) ↦ (let far : 0 < abs_diff a b = omega arith in absurd (omega (arith, mul-pos far far)))
      | inr (inr after) ↦ (let far : 0 < abs_diff a b = omega arith in absurd (omega (arith, mul-pos far far)))
    ]

pub same-from_distance : (a b : Point) → squared_distance a b ≤ 0 → a ≡ b
same-from_distance a b h =
    let x : a.x ≡ b.x = zero_difference a.x b.x (omega arith) in
    let y : a.y ≡ b.y = zero_difference a.y b.y (omega arith) in
    point_is a b x y

-- a node is not within radius 0 of a point at which none stands
pub is_near_free : (points : List (Option Point)) (p : Point) (i : ℕ) → IsFree points p → (o : Option Point) → point_at points i ≡ o → is_within p 0 o ≡ false
is_near_free points p i free None e = refl
is_near_free points p i free (Some q) e =
    elim (cases_lt 0 (squared_distance q p)) [
      | inl far ↦ lt-leb (squared_distance q p) (0 * 0) (omega arith)
      | inr here ↦ absurd (free i (e ∙ ap Some (same-from_distance q p here)))
    ]

-- of numbers that all fail a test none is left
pub filter-none : (test : ℕ → Bool) (xs : List ℕ) → ((x : ℕ) → test x ≡ false) → filter test xs ≡ []
filter-none test [] h = refl
filter-none test (x ∷ xs) h = rw (h x) (filter-none test xs h)
