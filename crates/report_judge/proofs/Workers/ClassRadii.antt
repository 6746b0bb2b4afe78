-- The radius of a class is that at the least number of nodes of it; and each number of nodes of a run has a class from 1 to 19.
use Rattle.report_judge.proofs.Words.{◌≡◌, ℕ, zero, suc, ◌+◌, ◌-◌, ◌*◌, ◌^◌, ◌%◌, ◌<◌, ◌≤◌, length, arith, refl, sym, ap, ◌∙◌, pow-le-pow_right, pow-suc}
use Rattle.report_judge.proofs.Words.{range_with_len, length-filter, Record, class_of, is_earlier, earlier_count, TreeState, class_from_powers, count-some}

some_power : (k : ℕ) → 0 < 2 ^ k
some_power zero = omega arith
some_power (suc k) = omega (arith, pow-suc 2 k, some_power k)

power_low : (k : ℕ) → k ≤ 18 → 2 ^ k ≤ 2 ^ 18
power_low k low = pow-le-pow_right (omega arith) low

pub shifted-low : (class : ℕ) → 1 ≤ class → class ≤ 19 → (1 * 2 ^ (class - 1)) % 18446744073709551616 ≤ 262144
shifted-low class low high = omega (arith, power_low (class - 1) (omega (arith, low, high)))

pub shifted-class : (class : ℕ) → 1 ≤ class → class ≤ 19 → class_of ((1 * 2 ^ (class - 1)) % 18446744073709551616) ≡ class
shifted-class class low high =
    let k : ℕ = class - 1 in
    let value : (1 * 2 ^ k) % 18446744073709551616 ≡ 2 ^ k = omega (arith, power_low k (omega (arith, low, high))) in
    let next : k + 1 ≡ class = omega (arith, low) in
    ap class_of value ∙ sym (class_from_powers (2 ^ k) k (omega arith) (omega (arith, some_power k))) ∙ next

-- the start is among the nodes that stood already
pub some_earlier : (state : TreeState) (entry : Record) → 0 < length state.points → 1 ≤ earlier_count state entry
some_earlier state entry some =
    omega (
      arith,
      length-filter (is_earlier state entry) (range_with_len 0 (length state.points)),
      count-some (is_earlier state entry) (length state.points) 0 some refl,
    )

pub some_class : (n r : ℕ) → 1 ≤ n → n < 2 ^ r → 1 ≤ r
some_class n zero some high = absurd (omega (arith, some, high))
some_class n (suc r) some high = omega arith
