-- The strips of a span lie one after another and make up the whole.
use Rattle.plan_model.proofs.Words.{◌≡◌, ℕ, ◌+◌, ◌-◌, ◌*◌, ◌/◌, ◌<◌, ◌≤◌, Bool, true, false, cond, ltb, inl, inr, arith, refl, div-le_of_le-mul}
use Rattle.plan_model.proofs.Words.{div-mul-le_self, mul-div_cancel_left, cases_lt, le-ltb, ltb-false, mul-le, le-div, IsInSpan, strip, Span}

div-le-div : (m n k : ℕ) → 0 < k → m ≤ n → m / k ≤ n / k
div-le-div m n k some h =
    elim (cases_lt (n / k) (m / k)) [
      | inl less ↦ absurd (omega (arith, mul-le k (n / k + 1) k (m / k) (omega arith) (omega arith)))
      | inr fits ↦ fits
    ]

pub strip-first : (all : Span) (strips : ℕ) → strips ≤ all.count → (strip all strips 0).first ≡ all.first
strip-first all strips enough =
    let low : (0 * all.count) / strips ≤ 0 = div-le_of_le-mul strips (omega arith) in
    rw (le-ltb all.count strips enough) (omega arith)

pub strip-next :
    (all : Span) (strips g : ℕ) → 0 < strips → strips ≤ all.count → (strip all strips (g + 1)).first ≡ (strip all strips g).first + (strip all strips g).count
strip-next all strips g some enough =
    let order : (g * all.count) / strips ≤ ((g + 1) * all.count) / strips = div-le-div (g * all.count) ((g + 1) * all.count) strips some (omega arith) in
    rw (le-ltb all.count strips enough) (omega arith)

pub strip-last : (all : Span) (strips : ℕ) → 0 < strips → strips ≤ all.count → (strip all strips strips).first ≡ all.first + all.count
strip-last all strips some enough =
    let whole : (strips * all.count) / strips ≡ all.count = mul-div_cancel_left all.count some in
    rw (le-ltb all.count strips enough) (omega arith)

-- ---- strips with columns of their own
-- a strip is the whole span or a part of it
record IsPart (all part : Span) : Type 0 where
  first : all.first ≤ part.first
  last : part.first + part.count ≤ all.first + all.count
  some : 0 < all.count → 0 < part.count

part_of_cond : (b : Bool) (all part : Span) → (b ≡ false → IsPart all part) → IsPart all (cond b all part)
part_of_cond true all part h = record { first = omega arith; last = omega arith; some = λ some. some }
part_of_cond false all part h = h refl

strip_is_part : (all : Span) (strips g : ℕ) → g < strips → IsPart all (strip all strips g)
strip_is_part all strips g within =
    let low : ℕ = (g * all.count) / strips in
    let high : ℕ = ((g + 1) * all.count) / strips in
    part_of_cond (ltb all.count strips) all (record { first = all.first + low; count = high - low }) (λ enough. (
    let columns : strips ≤ all.count = ltb-false all.count strips enough in
    let more : low + 1 ≤ high = le-div (low + 1) ((g + 1) * all.count) strips (omega arith) (omega (arith, div-mul-le_self (g * all.count) strips)) in
    let whole : high ≤ all.count = div-le_of_le-mul strips (mul-le (g + 1) all.count strips all.count (omega arith) (omega arith)) in
    record { first = omega arith; last = omega arith; some = λ some. omega arith }))

pub strip-some : (all : Span) (strips g : ℕ) → 0 < all.count → g < strips → 0 < (strip all strips g).count
strip-some all strips g some within = (strip_is_part all strips g within).some some

pub strip-within : (all : Span) (strips g n : ℕ) → g < strips → IsInSpan (strip all strips g) n → IsInSpan all n
strip-within all strips g n within h =
    let part = strip_is_part all strips g within in
    let first = part.first in
    let last = part.last in
    record { low = omega (arith, h.low); high = omega (arith, h.high) }
