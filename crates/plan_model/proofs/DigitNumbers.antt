-- The numbers that digits stand for.
use Rattle.plan_model.proofs.Words.{◌≡◌, ℕ, ◌+◌, ◌-◌, ◌*◌, ◌≤◌, ◌<◌, Bool, true, false, ◌&&◌, eqb, leb, not, zero, suc, subst, List, [], ◌∷◌, length, get_or}
use Rattle.plan_model.proofs.Words.{drop, fold, pos, int_le, neg_ℤ, Option, None, Some, IfNone, refl, sym, arith, at_drop_more, nat_tests, is_positive}
use Rattle.plan_model.proofs.Words.{is_number, magnitude, value_of}

-- the number that digits stand for after a number
abbrev pub magnitude_after : ℕ → List ℕ → ℕ
magnitude_after n digits = fold (λ m b. 10 * m + (b - 48)) n digits

-- further digits make no number smaller
pub magnitude_after-le : (digits : List ℕ) (n : ℕ) → n ≤ magnitude_after n digits
magnitude_after-le [] n = omega arith
magnitude_after-le (d ∷ digits) n = let rest = magnitude_after-le digits (10 * n + (d - 48)) in omega arith

-- the number of the digits so far and the next one is no larger than that of all digits
pub magnitude_after-next : (digits : List ℕ) (i n : ℕ) → i < length digits → 10 * n + (get_or digits i 0 - 48) ≤ magnitude_after n (drop i digits)
magnitude_after-next digits i n h =
    rw (at_drop_more (magnitude_after n) digits i 0 h) (magnitude_after-le (drop (i + 1) digits) (10 * n + (get_or digits i 0 - 48)))

pub IfNone-fact : {X P : Type 0} (o : Option X) → P → IfNone o P
IfNone-fact None h = h
IfNone-fact (Some x) h = tt

-- ---- numbers after a minus sign

int_le-negative : (n least : ℕ) → 0 < n → int_le (pos least) (neg_ℤ (pos n)) ≡ false
int_le-negative zero least h = absurd (omega arith)
int_le-negative (suc n) least h = refl

-- a digit that is not `0` is above it
above_zero : (b : ℕ) (rest : Bool) → ((leb 48 b && leb b 57) && not (eqb b 48)) && rest ≡ true → 48 < b
above_zero b rest h = grind (arith, nat_tests)

magnitude-positive : (digits : List ℕ) → is_positive digits ≡ true → 0 < magnitude digits
magnitude-positive [] h = absurd (cc)
magnitude-positive (b ∷ digits) h =
    let above = above_zero b _ h in
    let rest = magnitude_after-le digits (10 * 0 + (b - 48)) in
    omega arith

outside-minus : (digits : List ℕ) (least most : ℕ) → is_number (45 ∷ digits) ≡ true
    → (int_le (pos least) (value_of (45 ∷ digits)) && int_le (value_of (45 ∷ digits)) (pos most)) ≡ false
outside-minus digits least most h = rw (int_le-negative (magnitude digits) least (magnitude-positive digits h))

-- a number after a minus sign is in no range of natural numbers
pub outside-negative : (word : List ℕ) (least most : ℕ) → 1 ≤ length word → get_or word 0 0 ≡ 45 → is_number word ≡ true
    → (int_le (pos least) (value_of word) && int_le (value_of word) (pos most)) ≡ false
outside-negative [] least most some minus = absurd (omega arith)
outside-negative (b ∷ digits) least most some minus =
    let P : ℕ → Type 0 = λ x. is_number (x ∷ digits) ≡ true
    → (int_le (pos least) (value_of (x ∷ digits)) && int_le (value_of (x ∷ digits)) (pos most)) ≡ false in
    subst P (sym minus) (outside-minus digits least most)
