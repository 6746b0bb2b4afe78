-- The radius of a class, from the root, rounded down, of a whole quotient; and the classes that there are.
use Rattle.edge_cost.proofs.Words.{◌≡◌, ℕ, ◌+◌, ◌-◌, ◌*◌, ◌/◌, ◌^◌, ◌<◌, ◌≤◌, min, nat_le, inl, inr, arith, div-mul-le_self, le-div, mul-le, pow_pos, pow_below}
use Rattle.edge_cost.proofs.Words.{cases_lt, nat_tests, radius_of_class, lt-from_squares, greatest-unique}

-- no number whose square times p is at most g is above the root of the quotient
le_root : (g p s t : ℕ) → 0 < p → g / p < (s + 1) * (s + 1) → t * t * p ≤ g → t ≤ s
le_root g p s t pos above fits =
    let more : t < s + 1 = lt-from_squares t (s + 1) (g / p) (le-div (t * t) g p pos fits) above in omega arith

-- the square of a number up to that root, times p, is at most g
root_fits : (g p s r : ℕ) → s * s ≤ g / p → r ≤ s → r * r * p ≤ g
root_fits g p s r below within =
    let square : r * r ≤ g / p = omega (arith, mul-le r r s s within within) in
    omega (arith, mul-le (r * r) p (g / p) p square (omega arith), div-mul-le_self g p)

pub radius_from_root : (step gamma b s : ℕ) → s * s ≤ gamma * gamma * b / 2 ^ (b - 1) → gamma * gamma * b / 2 ^ (b - 1) < (s + 1) * (s + 1)
    → min step s ≡ radius_of_class step gamma b
radius_from_root step gamma b s below above =
    let g = gamma * gamma * b in
    let p = 2 ^ (b - 1) in
    let test = λ (r : ℕ). nat_le (r * r * p) g in
    let fits : min step s * min step s * p ≤ g = root_fits g p s (min step s) below (omega arith) in
    greatest-unique test step (min step s) (grind (arith, nat_tests)) (omega arith) (grind (arith, nat_tests))
    (λ t within passes. let h : t * t * p ≤ g = grind (arith, nat_tests) in omega (arith, le_root g p s t (pow_pos (b - 1)) above h))

-- 2 ^ 18 nodes are of class 19
pub class_below : (b n : ℕ) → 2 ^ (b - 1) ≤ n → n ≤ 262144 → b < 20
class_below b n low most =
    elim (cases_lt 18 (b - 1)) [ inl h ↦ absurd (omega (arith, pow_below 18 (b - 1) h)) | inr h ↦ omega arith ]
