-- The words that are numbers without a sign are those that numbers have in decimal.
use Rattle.report_judge.proofs.Words.{◌≡◌, ℕ, zero, suc, ◌+◌, ◌-◌, ◌*◌, ◌/◌, ◌%◌, ◌^◌, ◌<◌, ◌≤◌, Bool, true, false, not, ◌&&◌, ◌||◌, eqb, leb, pos, List, []}
use Rattle.report_judge.proofs.Words.{◌∷◌, ◌++◌, length, get_or, refl, sym, ap, ◌∙◌, subst, decimal, arith, inl, inr, ◌⊎◌, bytes_eq, int_le, Option, None, Some}
use Rattle.report_judge.proofs.Words.{list_all, fold, IsInRange, mul-le, mul_assoc, mul_comm, pow-le-pow_right, pow-suc, decimal_by_steps, decimal_digit}
use Rattle.report_judge.proofs.Words.{decimal-digits_value, IsDigitsTest, FoldsDigits, numerals_by_fold, list_all-append, fold-append, nat_tests}
use Rattle.report_judge.proofs.Words.{bytes_eq-Decides, and_parts, and_from, eq-eqb, leb-true, ne_eqb, true≢false, is_digit, is_positive, is_number, magnitude}
use Rattle.report_judge.proofs.Words.{value_of, le-leb, not-true}
use Rattle.std.specs.Prelude.{IfNone, IfSome}

-- digits that stand for a number, with no leading zero
record AreDigitsOf (n : ℕ) (digits : List ℕ) : Type 0 where
  digital : list_all is_digit digits ≡ true
  value : magnitude digits ≡ n
  positive : 0 < n → is_positive digits ≡ true

is_digit-small : (n : ℕ) → n < 10 → is_digit (48 + n) ≡ true
is_digit-small n h = grind (arith, nat_tests)

AreDigitsOf-one : (n : ℕ) → n < 10 → AreDigitsOf n ((48 + n) ∷ [])
AreDigitsOf-one n h = record {
  digital = rw (is_digit-small n h) refl;
  value = omega arith;
  positive = λ some. let other : eqb (48 + n) 48 ≡ false = grind (arith, nat_tests) in rw (is_digit-small n h, other) refl;
}

is_positive-more : (digits : List ℕ) (b : ℕ) → is_positive digits ≡ true → is_digit b ≡ true → is_positive (digits ++ b ∷ []) ≡ true
is_positive-more [] b h e = absurd (cc)
is_positive-more (d ∷ digits) b h e =
    let parts = and_parts (is_digit d && not (eqb d 48)) (list_all is_digit digits) h in
    rw (parts.0, list_all-append is_digit digits (b ∷ []), parts.1, e) refl

AreDigitsOf-more : (n : ℕ) (digits : List ℕ) → 10 ≤ n → AreDigitsOf (n / 10) digits → AreDigitsOf n (digits ++ (48 + n % 10) ∷ [])
AreDigitsOf-more n digits h prefix =
    let last : is_digit (48 + n % 10) ≡ true = is_digit-small (n % 10) (omega arith) in
    let value = prefix.value in
    let many : 0 < n / 10 = omega arith in
    record {
      digital = list_all-append is_digit digits ((48 + n % 10) ∷ []) ∙ rw (prefix.digital, last) refl;
      value = fold-append (λ m b. 10 * m + (b - 48)) 0 digits ((48 + n % 10) ∷ []) ∙ omega arith;
      positive = λ some. is_positive-more digits (48 + n % 10) (prefix.positive many) last;
    }

AreDigitsOf-decimal : (n : ℕ) → n < 2 ^ 64 → AreDigitsOf n (decimal n)
AreDigitsOf-decimal n h = decimal_by_steps AreDigitsOf AreDigitsOf-one AreDigitsOf-more n h

pub digits-decimal : (n : ℕ) → n < 2 ^ 64 → list_all is_digit (decimal n) ≡ true
digits-decimal n h = (AreDigitsOf-decimal n h).digital

positive-number : (digits : List ℕ) → is_positive digits ≡ true → is_number digits ≡ true
positive-number [] h = absurd (cc)
positive-number (b ∷ digits) h = grind (arith, h)

-- a number in decimal is a number,
pub is_number-decimal : (n : ℕ) → n < 2 ^ 64 → is_number (decimal n) ≡ true
is_number-decimal zero h = rw (decimal_digit 0 (omega arith)) refl
is_number-decimal (suc n) h = positive-number (decimal (suc n)) ((AreDigitsOf-decimal (suc n) h).positive (omega arith))

value_of-digits : (digits : List ℕ) → list_all is_digit digits ≡ true → value_of digits ≡ pos (magnitude digits)
value_of-digits [] h = refl
value_of-digits (b ∷ digits) h =
    let first = (and_parts (is_digit b) (list_all is_digit digits) h).0 in
    let other : eqb b 45 ≡ false = grind (arith, nat_tests, first) in
    rw other refl

-- and stands for itself
pub value_of-decimal : (n : ℕ) → n < 2 ^ 64 → value_of (decimal n) ≡ pos n
value_of-decimal n h = value_of-digits (decimal n) (digits-decimal n h) ∙ ap pos (AreDigitsOf-decimal n h).value

-- no number in decimal has a sign
first_not_minus : (digits : List ℕ) → list_all is_digit digits ≡ true → get_or digits 0 0 ≡ 45 → ⊥
first_not_minus [] h e = omega (arith, e)
first_not_minus (b ∷ digits) h e =
    let first = (and_parts (is_digit b) (list_all is_digit digits) h).0 in
    let other : eqb b 45 ≡ false = grind (arith, nat_tests, first) in
    true≢false (sym (eq-eqb b 45 e) ∙ other)

pub decimal-unsigned : (n : ℕ) → n < 2 ^ 64 → get_or (decimal n) 0 0 ≡ 45 → ⊥
decimal-unsigned n h = first_not_minus (decimal n) (digits-decimal n h)

-- ---- back

abbrev AreDigital : List ℕ → Type 0
AreDigital digits = list_all is_digit digits ≡ true

in_range : (c : ℕ) → is_digit c ≡ true → IsInRange 48 57 c
in_range c h =
    let parts = and_parts (leb 48 c) (leb c 57) h in
    (leb-true 48 c parts.0, leb-true c 57 parts.1)

tells : IsDigitsTest AreDigital
tells = record {
  empty = refl;
  parts = λ c cs h. (in_range c (and_parts (is_digit c) (list_all is_digit cs) h).0, (and_parts (is_digit c) (list_all is_digit cs) h).1);
  more = λ c cs k h. and_from (is_digit c) (list_all is_digit cs) (and_from (leb 48 c) (leb c 57) (le-leb 48 c k.0) (le-leb c 57 k.1)) h;
}

abbrev read_after : ℕ → List ℕ → ℕ
read_after n digits = fold (λ m b. 10 * m + (b - 48)) n digits

folds : FoldsDigits read_after
folds = record {
  empty = λ n. refl;
  more = λ n c cs k. let same : 10 * n + (c - 48) ≡ n * 10 + (c - 48) = omega arith in ap (λ m. read_after m cs) same;
}

-- digits without a leading zero are what their number has in decimal
decimal-digits : (digits : List ℕ) → AreDigital digits → 0 < length digits → (get_or digits 0 0 ≡ 48 → length digits ≡ 1) → magnitude digits < 2 ^ 64
    → decimal (magnitude digits) ≡ digits
decimal-digits digits h some lead low = decimal-digits_value (numerals_by_fold AreDigital tells read_after folds) digits h some lead low

-- so many digits stand for a number below the power of 10 with this exponent
magnitude-low : (digits : List ℕ) (n : ℕ) → AreDigital digits → read_after n digits < (n + 1) * 10 ^ length digits
magnitude-low [] n h = omega arith
magnitude-low (d ∷ digits) n h =
    let parts = and_parts (is_digit d) (list_all is_digit digits) h in
    let rest = magnitude-low digits (10 * n + (d - 48)) parts.1 in
    let digit = (in_range d parts.0).1 in
    let whole = mul-le (10 * n + (d - 48) + 1) (10 ^ length digits) ((n + 1) * 10) (10 ^ length digits) (omega (arith, digit)) (omega arith) in
    let below : read_after (10 * n + (d - 48)) digits < (n + 1) * 10 * 10 ^ length digits = omega (arith, rest, whole) in
    let more : 10 * 10 ^ length digits ≡ 10 ^ suc (length digits) = mul_comm 10 (10 ^ length digits) ∙ sym (pow-suc 10 (length digits)) in
    subst (λ p. read_after (10 * n + (d - 48)) digits < p) (mul_assoc (n + 1) 10 (10 ^ length digits) ∙ ap (λ p. (n + 1) * p) more) below

-- 19 digits without a leading zero are what the remainder of their number modulo 2^64 has in decimal
pub decimal-remainder :
    (digits : List ℕ) (n : ℕ) → AreDigital digits → eqb (length digits) 0 ≡ false
    → ((get_or digits 0 0 ≡ 48) × (length digits ≤ 1)) ⊎ (get_or digits 0 0 ≡ 48 → ⊥) → length digits ≤ 19 → n ≡ magnitude digits % 2 ^ 64
    → digits ≡ decimal n
decimal-remainder digits n h some lead few is =
    let filled : 0 < length digits = grind (arith, nat_tests, some) in
    let most : 10 ^ length digits ≤ 10 ^ 19 = pow-le-pow_right {n = 10} (omega arith) few in
    let low : magnitude digits < 2 ^ 64 = omega (arith, magnitude-low digits 0 h, most) in
    let same : magnitude digits ≡ n = omega (arith, low, is) in
    let led : get_or digits 0 0 ≡ 48 → length digits ≡ 1 =
    λ zero. elim lead [ inl alone ↦ omega (arith, alone.1, filled) | inr other ↦ absurd (other zero) ] in
    sym (decimal-digits digits h filled led low) ∙ ap decimal same

-- what is empty is no number, nor what has a zero in front of other digits
pub no_number-empty : (digits : List ℕ) → length digits ≡ 0 → is_number digits ≡ false
no_number-empty [] none = refl
no_number-empty (d ∷ digits) none = absurd (omega (arith, none))

pub no_number-zero : (digits : List ℕ) → get_or digits 0 0 ≡ 48 → 1 < length digits → is_number digits ≡ false
no_number-zero [] e many = absurd (omega (arith, many))
no_number-zero (d ∷ []) e many = absurd (omega (arith, many))
no_number-zero (d ∷ b ∷ digits) e many = subst (λ x. is_number (x ∷ b ∷ digits) ≡ false) (sym e) refl

decimal-positive : (digits : List ℕ) → is_positive digits ≡ true → magnitude digits < 2 ^ 64 → decimal (magnitude digits) ≡ digits
decimal-positive [] h low = absurd (cc)
decimal-positive (b ∷ digits) h low =
    let parts = and_parts (is_digit b && not (eqb b 48)) (list_all is_digit digits) h in
    let first = and_parts (is_digit b) (not (eqb b 48)) parts.0 in
    decimal-digits (b ∷ digits) (and_from (is_digit b) (list_all is_digit digits) first.0 parts.1) (omega arith)
    (λ zero. absurd (true≢false (sym (eq-eqb b 48 zero) ∙ not-true (eqb b 48) first.1))) low

one_of_two : (a b c : Bool) → ((a || b) || c) ≡ true → c ≡ false → (a ≡ true) ⊎ (b ≡ true)
one_of_two true b c h e = inl refl
one_of_two false true c h e = inr refl
one_of_two false false c h e = absurd (cc)

-- A word that is a number without a sign is its number in decimal.
pub word_is-decimal : (word : List ℕ) (n : ℕ) → is_number word ≡ true → (get_or word 0 0 ≡ 45 → ⊥) → value_of word ≡ pos n → n < 2 ^ 64 → word ≡ decimal n
word_is-decimal [] n h unsigned value low = absurd (cc)
word_is-decimal (b ∷ bytes) n h unsigned value low =
    let other : eqb b 45 ≡ false = ne_eqb b 45 unsigned in
    let plain : value_of (b ∷ bytes) ≡ pos (magnitude (b ∷ bytes)) = rw other refl in
    let both : pos (magnitude (b ∷ bytes)) ≡ pos n = sym plain ∙ value in
    let same : magnitude (b ∷ bytes) ≡ n = cc in
    let minus : (eqb b 45 && is_positive bytes) ≡ false = ap (λ (t : Bool). t && is_positive bytes) other in
    elim (one_of_two (bytes_eq (b ∷ bytes) (48 ∷ [])) (is_positive (b ∷ bytes)) (eqb b 45 && is_positive bytes) h minus) [
      | inl naught ↦ (
          let word : b ∷ bytes ≡ 48 ∷ [] = (bytes_eq-Decides (b ∷ bytes) (48 ∷ [])).0 naught in
          let none : n ≡ 0 = sym same ∙ ap magnitude word in
          word ∙ sym (ap decimal none ∙ decimal_digit 0 (omega arith)))
      | inr positive ↦ (
          let few : magnitude (b ∷ bytes) < 2 ^ 64 = omega (arith, same, low) in
          sym (decimal-positive (b ∷ bytes) positive few) ∙ ap decimal same)
    ]

-- ---- numbers below a bound

-- the number that is read below a bound is the word's
pub found-decimal :
    (o : Option ℕ) (word : List ℕ) (most : ℕ) → most < 2 ^ 64 → is_number word ≡ true → (get_or word 0 0 ≡ 45 → ⊥)
    → IfSome o (λ n. value_of word ≡ pos n) → IfSome o (λ n. (0 ≤ n) × (n ≤ most)) → IfSome o (λ n. (n ≤ most) × (word ≡ decimal n))
found-decimal None word most few h unsigned value within = tt
found-decimal (Some n) word most few h unsigned value within =
    (within.1, word_is-decimal word n h unsigned value (omega (arith, within.1, few)))

-- and if none is read, the word is no number below the bound
pub no-decimal :
    (o : Option ℕ) (word : List ℕ) (most : ℕ) → most < 2 ^ 64
    → IfNone o ((int_le (pos 0) (value_of word) && int_le (value_of word) (pos most)) ≡ false)
    → IfNone o ((n : ℕ) → n ≤ most → ¬ (word ≡ decimal n))
no-decimal (Some x) word most few outside = tt
no-decimal None word most few outside = λ n low e. none n low e
  where
    none : (n : ℕ) → n ≤ most → word ≡ decimal n → ⊥
    none n low e =
        let value : value_of word ≡ pos n = ap value_of e ∙ value_of-decimal n (omega (arith, low, few)) in
        let fails = subst (λ z. (int_le (pos 0) z && int_le z (pos most)) ≡ false) value outside in
        true≢false (sym (and_from (leb 0 n) (leb n most) (le-leb 0 n (omega arith)) (le-leb n most low)) ∙ fails)
