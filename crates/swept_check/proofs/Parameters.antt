-- Parameters of a segment, compared by products.
use Rattle.swept_check.proofs.Words.{ℕ, ◌*◌, ◌<◌, ◌≤◌, arith, mul-le-mul_right, le_of_mul-le-mul_right}

-- if one parameter is at most another, s / d is past it once it is past the other
pub past-lesser : (a b c e s d : ℕ) → 0 < e → a * e ≤ c * b → c * d ≤ s * e → a * d ≤ s * b
past-lesser a b c e s d h l past =
    le_of_mul-le-mul_right {k = e} (omega (arith, mul-le-mul_right d l, mul-le-mul_right b past)) h

-- and before the other once it is before it
pub before-greater : (a b c e s d : ℕ) → 0 < b → a * e ≤ c * b → s * b ≤ a * d → s * e ≤ c * d
before-greater a b c e s d h l before =
    le_of_mul-le-mul_right {k = b} (omega (arith, mul-le-mul_right d l, mul-le-mul_right e before)) h

-- a parameter between two others keeps them in order
pub in_order : (a b c e s d : ℕ) → 0 < d → a * d ≤ s * b → s * e ≤ c * d → a * e ≤ c * b
in_order a b c e s d h past before =
    le_of_mul-le-mul_right {k = d} (omega (arith, mul-le-mul_right e past, mul-le-mul_right b before)) h
