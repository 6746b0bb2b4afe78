-- The number of binary digits of a number, and the powers of 2 around it.
use Rattle.plan_model.proofs.Words.{◌≡◌, inl, inr, ℕ, suc, ◌+◌, ◌-◌, ◌*◌, ◌^◌, ◌<◌, ◌≤◌, length, subst, ap, arith, pow-le-pow_right, pow-suc, digits_of}
use Rattle.plan_model.proofs.Words.{cases_lt, length-digits_of-le, number_lt, number_digits_of, all_below_base_digits_of, class_of}

-- a number is below the power of 2 that its binary digits give
pub below_digits : (n : ℕ) → n < 2 ^ length (digits_of 2 n)
below_digits n =
    subst (λ (k : ℕ). k < 2 ^ length (digits_of 2 n)) (number_digits_of 2 n (omega arith))
    (number_lt 2 (digits_of 2 n) (all_below_base_digits_of 2 n (omega arith)))

-- powers are in the order of their exponents
exponent_lt : (i j n : ℕ) → 2 ^ i ≤ n → n < 2 ^ j → i < j
exponent_lt i j n low high =
    elim (cases_lt i j) [ inl h ↦ h | inr h ↦ let order : 2 ^ j ≤ 2 ^ i = pow-le-pow_right (omega arith) h in omega arith ]

pub class_from_powers : (n k : ℕ) → 2 ^ k ≤ n → n < 2 * 2 ^ k → k + 1 ≡ class_of n
class_from_powers n k low high =
    let more : k < length (digits_of 2 n) = exponent_lt k (length (digits_of 2 n)) n low (below_digits n) in
    let fits : n < 2 ^ suc k = omega (arith, pow-suc 2 k) in
    let most : length (digits_of 2 n) ≤ suc k = length-digits_of-le 2 (suc k) n (omega arith) fits in
    omega arith

-- a number that is not 0 reaches the power of 2 that one digit fewer gives
pub from_digits : (n : ℕ) → 1 ≤ n → 2 ^ (length (digits_of 2 n) - 1) ≤ n
from_digits n some =
    elim (cases_lt n (2 ^ (length (digits_of 2 n) - 1))) [
      | inl h ↦ (
          let fewer : length (digits_of 2 n) ≤ length (digits_of 2 n) - 1 = length-digits_of-le 2 (length (digits_of 2 n) - 1) n (omega arith) h in
          let none : length (digits_of 2 n) ≡ 0 = omega arith in
          absurd (omega (arith, below_digits n, ap (λ k. 2 ^ k) none)))
      | inr h ↦ h
    ]
