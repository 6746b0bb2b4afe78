-- Lengths in the plane: whole roots, costs of edges, steering, and the radius within which nodes are near.
use Rattle.std.specs.Prelude.{ℕ, zero, suc, ◌*◌, ◌≤◌, nat_lt, if◌then◌else◌, ◌-◌, ◌^◌, nat_le, Bool, length, pos, ◌+ℤ◌, ◌-ℤ◌, ◌*ℤ◌, int_div, unsigned_abs}
use Rattle.plan_model.specs.Terms.{Point}
use Rattle.plan_model.specs.Geometry.Plane.{squared_distance, IsInBoxOf}
use Rattle.std.specs.Int.Digits.{digits_of}

-- ---- Square roots of whole numbers, rounded up.
-- r is the least number whose square is at least n
pub record IsRootCeiling (n r : ℕ) : Type 0 where
  pub reaches : n ≤ r * r
  pub least : (s : ℕ) → n ≤ s * s → r ≤ s

-- That number: each n has the root of the number before it, or one more.
unfoldable pub root_ceiling : ℕ → ℕ
root_ceiling zero = 0
root_ceiling (suc n) = if nat_lt (root_ceiling n * root_ceiling n) (suc n) then suc (root_ceiling n) else root_ceiling n

-- ---- The cost of an edge, in 256ths of a lattice step.
-- c is the least whole number with c * c ≥ 65536 * |ab| ^ 2: 256 times the length, rounded up
abbrev pub IsCost : Point → Point → ℕ → Type 0
IsCost a b c = IsRootCeiling (65536 * squared_distance a b) c

-- that number
abbrev pub cost_of : Point → Point → ℕ
cost_of a b = root_ceiling (65536 * squared_distance a b)

-- ---- The class of a number of nodes, and the radius within which nodes are near (the radius of RRT*, in whole numbers).
-- how many binary digits n has
abbrev pub class_of : ℕ → ℕ
class_of n = length (digits_of 2 n)

-- the greatest number up to n that passes the test, or 0
abbrev pub greatest : (ℕ → Bool) → ℕ → ℕ
greatest test zero = 0
greatest test (suc n) = if test (suc n) then suc n else greatest test n

-- the greatest r of at most step with r * r * 2 ^ (b - 1) ≤ gamma * gamma * b
abbrev pub radius_of_class : ℕ → ℕ → ℕ → ℕ
radius_of_class step gamma b = greatest (λ r. nat_le (r * r * 2 ^ (b - 1)) (gamma * gamma * b)) step

-- the radius at n nodes
abbrev pub radius_of : ℕ → ℕ → ℕ → ℕ
radius_of step gamma n = radius_of_class step gamma (class_of n)

-- ---- Steering from a node towards a mark by at most a step (Steer of RRT*).
-- p is at most a step away from a, and lies in the box of a and b
pub record IsStep (a b : Point) (step : ℕ) (p : Point) : Type 0 where
  pub short : squared_distance a p ≤ step * step
  pub within : IsInBoxOf a b p

-- from a coordinate by step / length of the way to another, truncated towards zero
abbrev pub advanced : ℕ → ℕ → ℕ → ℕ → ℕ
advanced from to step length_up = unsigned_abs (pos from +ℤ int_div ((pos to -ℤ pos from) *ℤ pos step) (pos length_up))

-- b if it is at most a step away, otherwise a step towards it, whose length is rounded up before the division
abbrev pub steered : Point → Point → ℕ → Point
steered a b step =
    if nat_le (squared_distance a b) (step * step) then b else
    let length_up = root_ceiling (squared_distance a b) in
    record { x = advanced a.x b.x step length_up; y = advanced a.y b.y step length_up }
