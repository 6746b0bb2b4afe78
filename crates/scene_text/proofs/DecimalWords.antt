-- Numbers in decimal are words that are numbers, and stand for themselves.
use Rattle.scene_text.proofs.Words.{◌≡◌, ℕ, ◌+◌, ◌-◌, ◌*◌, ◌/◌, ◌%◌, ◌^◌, ◌<◌, ◌≤◌, true, false, not, ◌&&◌, eqb, ltb, zero, suc, ℤ, pos, negsuc, List, [], ◌∷◌}
use Rattle.scene_text.proofs.Words.{◌++◌, length, refl, ap, ◌∙◌, decimal, arith, signed_decimal, list_all, decimal_by_steps, decimal_nonempty, decimal_digit}
use Rattle.scene_text.proofs.Words.{list_all-append, fold-append, nat_tests, and_parts, is_digit, is_positive, is_number, magnitude, value_of}
use Rattle.scene_text.proofs.StatementTexts.{is_inner, is_word, list_all-weaker}

-- the number has at most 64 bits
abbrev pub IsShort : ℤ → Type 0
IsShort (pos n) = n < 2 ^ 64
IsShort (negsuc n) = suc n < 2 ^ 64

-- digits that stand for a number, with no leading zero
record AreDigitsOf (n : ℕ) (digits : List ℕ) : Type 0 where
  digital : list_all is_digit digits ≡ true
  value : magnitude digits ≡ n
  positive : 0 < n → is_positive digits ≡ true

is_digit-small : (n : ℕ) → n < 10 → is_digit (48 + n) ≡ true
is_digit-small n h = grind (arith, nat_tests)

AreDigitsOf-one : (n : ℕ) → n < 10 → AreDigitsOf n ((48 + n) ∷ [])
AreDigitsOf-one n h = record {
  digital = rw (is_digit-small n h) refl;
  value = omega arith;
  positive = λ some. let other : eqb (48 + n) 48 ≡ false = grind (arith, nat_tests) in rw (is_digit-small n h, other) refl;
}

is_positive-more : (digits : List ℕ) (b : ℕ) → is_positive digits ≡ true → is_digit b ≡ true → is_positive (digits ++ b ∷ []) ≡ true
is_positive-more [] b h e = absurd (cc)
is_positive-more (d ∷ digits) b h e =
    let parts = and_parts (is_digit d && not (eqb d 48)) (list_all is_digit digits) h in
    rw (parts.0, list_all-append is_digit digits (b ∷ []), parts.1, e) refl

AreDigitsOf-more : (n : ℕ) (digits : List ℕ) → 10 ≤ n → AreDigitsOf (n / 10) digits → AreDigitsOf n (digits ++ (48 + n % 10) ∷ [])
AreDigitsOf-more n digits h prefix =
    let last : is_digit (48 + n % 10) ≡ true = is_digit-small (n % 10) (omega arith) in
    let value = prefix.value in
    let many : 0 < n / 10 = omega arith in
    record {
      digital = list_all-append is_digit digits ((48 + n % 10) ∷ []) ∙ rw (prefix.digital, last) refl;
      value = fold-append (λ m b. 10 * m + (b - 48)) 0 digits ((48 + n % 10) ∷ []) ∙ omega arith;
      positive = λ some. is_positive-more digits (48 + n % 10) (prefix.positive many) last;
    }

digits-decimal : (n : ℕ) → n < 2 ^ 64 → AreDigitsOf n (decimal n)
digits-decimal n h = decimal_by_steps AreDigitsOf AreDigitsOf-one AreDigitsOf-more n h

-- ---- words

inner-digit : (b : ℕ) → is_digit b ≡ true → is_inner b ≡ true
inner-digit b h = grind (arith, nat_tests)

is_word-decimal : (n : ℕ) → n < 2 ^ 64 → is_word (decimal n) ≡ true
is_word-decimal n h =
    let some : ltb 0 (length (decimal n)) ≡ true = grind (arith, nat_tests, decimal_nonempty n h) in
    rw (some, list_all-weaker is_digit is_inner inner-digit (decimal n) (digits-decimal n h).digital) refl

is_word-minus : (digits : List ℕ) → is_word digits ≡ true → is_word (45 ∷ digits) ≡ true
is_word-minus digits h =
    let some : ltb 0 (length (45 ∷ digits)) ≡ true = grind (arith, nat_tests) in
    let inner = (and_parts (ltb 0 (length digits)) (list_all is_inner digits) h).1 in
    rw (some, inner) refl

pub is_word-signed : (z : ℤ) → IsShort z → is_word (signed_decimal z) ≡ true
is_word-signed (pos n) h = is_word-decimal n h
is_word-signed (negsuc n) h = is_word-minus (decimal (suc n)) (is_word-decimal (suc n) h)

-- ---- numbers

positive-number : (digits : List ℕ) → is_positive digits ≡ true → is_number digits ≡ true
positive-number [] h = absurd (cc)
positive-number (b ∷ digits) h = grind (arith, h)

is_number-decimal : (n : ℕ) → n < 2 ^ 64 → is_number (decimal n) ≡ true
is_number-decimal zero h = rw (decimal_digit 0 (omega arith)) refl
is_number-decimal (suc n) h =
    positive-number (decimal (suc n)) ((digits-decimal (suc n) h).positive (omega arith))

minus-number : (digits : List ℕ) → is_positive digits ≡ true → is_number (45 ∷ digits) ≡ true
minus-number digits h = rw h refl

pub is_number-signed : (z : ℤ) → IsShort z → is_number (signed_decimal z) ≡ true
is_number-signed (pos n) h = is_number-decimal n h
is_number-signed (negsuc n) h =
    minus-number (decimal (suc n)) ((digits-decimal (suc n) h).positive (omega arith))

-- ---- values

value_of-digits : (digits : List ℕ) → list_all is_digit digits ≡ true → value_of digits ≡ pos (magnitude digits)
value_of-digits [] h = refl
value_of-digits (b ∷ digits) h =
    let first = (and_parts (is_digit b) (list_all is_digit digits) h).0 in
    let other : eqb b 45 ≡ false = grind (arith, nat_tests, first) in
    rw other refl

pub value_of-signed : (z : ℤ) → IsShort z → value_of (signed_decimal z) ≡ z
value_of-signed (pos n) h =
    let digits = digits-decimal n h in
    value_of-digits (decimal n) digits.digital ∙ ap pos digits.value
value_of-signed (negsuc n) h = rw ((digits-decimal (suc n) h).value) refl
