-- Numbers in decimal at the front of texts.
use Rattle.report_judge.proofs.Words.{◌≡◌, ℕ, suc, ◌+◌, ◌<◌, ◌^◌, Bool, true, false, cond, List, [], ◌∷◌, ◌++◌, length, take, drop, drop-cons, get_or, arith}
use Rattle.report_judge.proofs.Words.{refl, sym, ap, ◌∙◌, decimal, length-append, MatchOption, Option, None, Some, list_all, prefix_len, and_parts, nat_tests}
use Rattle.report_judge.proofs.Words.{decimal_injective, append_cancel_left, take-append-drop, take-append_seam, is_digit}
use Rattle.std.specs.Option.{IfNone, IfSome}
use Rattle.report_judge.proofs.Texts.DecimalWords.{digits-decimal}

-- a byte below the digits is none of them
no_digit : (e : ℕ) → e < 48 → is_digit e ≡ false
no_digit e h = grind (arith, nat_tests)

prefix_of_seam : (p : ℕ → Bool) (xs : List ℕ) (e : ℕ) (ys : List ℕ) → list_all p xs ≡ true → p e ≡ false → prefix_len p (xs ++ e ∷ ys) ≡ length xs
prefix_of_seam p [] e ys all none = ap (λ b. cond {A = ℕ} b (1 + prefix_len p ys) 0) none
prefix_of_seam p (x ∷ xs) e ys all none =
    let parts = and_parts (p x) (list_all p xs) all in
    ap (λ b. cond {A = ℕ} b (1 + prefix_len p (xs ++ e ∷ ys)) 0) parts.0 ∙ omega (arith, prefix_of_seam p xs e ys parts.1 none)

get_or-seam : (xs : List ℕ) (e : ℕ) (ys : List ℕ) (d : ℕ) → get_or (xs ++ e ∷ ys) (length xs) d ≡ e
get_or-seam [] e ys d = refl
get_or-seam (x ∷ xs) e ys d = get_or-seam xs e ys d

-- how many digits a number in decimal has that another byte follows
pub digits_of_number : (n e : ℕ) (after : List ℕ) → n < 2 ^ 64 → e < 48 → prefix_len is_digit (decimal n ++ e ∷ after) ≡ length (decimal n)
digits_of_number n e after few low = prefix_of_seam is_digit (decimal n) e after (digits-decimal n few) (no_digit e low)

-- A text that begins with a number in decimal and a byte that is no digit.
pub record BeginsWith (text : List ℕ) (n e digits : ℕ) : Type 0 where
  pub within : digits < length text
  pub byte : (d : ℕ) → get_or text digits d ≡ e
  pub number : take digits text ≡ decimal n

pub BeginsWith-number : (text : List ℕ) (n e digits : ℕ) (after : List ℕ) → n < 2 ^ 64 → e < 48 → digits ≡ prefix_len is_digit text
    → text ≡ decimal n ++ e ∷ after → BeginsWith text n e digits
BeginsWith-number text n e digits after few low count is =
    let many : digits ≡ length (decimal n) = count ∙ ap (prefix_len is_digit) is ∙ digits_of_number n e after few low in
    record {
      within = omega (arith, many, ap length is, length-append (decimal n) (e ∷ after));
      byte = λ d. (λ i. get_or (is i) (many i) d) ∙ get_or-seam (decimal n) e after d;
      number = (λ i. take (many i) (is i)) ∙ take-append_seam (decimal n) (e ∷ after);
    }

-- Texts that begin with numbers in decimal, each with the same byte after it, and are the same, begin with the same number.
pub same_fields : (n m e : ℕ) (x y : List ℕ) → n < 2 ^ 64 → m < 2 ^ 64 → e < 48 → decimal n ++ e ∷ x ≡ decimal m ++ e ∷ y → (n ≡ m) × (x ≡ y)
same_fields n m e x y few also low h =
    let one = BeginsWith-number (decimal n ++ e ∷ x) m e (prefix_len is_digit (decimal n ++ e ∷ x)) y also low refl h in
    let own = BeginsWith-number (decimal n ++ e ∷ x) n e (prefix_len is_digit (decimal n ++ e ∷ x)) x few low refl refl in
    let digits : decimal n ≡ decimal m = sym own.number ∙ one.number in
    let rest : e ∷ x ≡ e ∷ y = append_cancel_left (decimal n) (e ∷ x) (e ∷ y) (h ∙ ap (λ ds. ds ++ e ∷ y) (sym digits)) in
    let tail : x ≡ y = cc in
    (decimal_injective n m few also digits, tail)

-- a text by its first bytes, the byte after them, and the rest
pub text_at : (text : List ℕ) (i : ℕ) → i < length text → text ≡ take i text ++ (get_or text i 0 ∷ drop (i + 1) text)
text_at text i low =
    let next : suc i ≡ i + 1 = omega arith in
    sym (take-append-drop i text)
    ∙ ap (λ rest. take i text ++ rest) (drop-cons text i 0 low ∙ ap (λ n. get_or text i 0 ∷ drop n text) next)

-- what holds in any case holds if there is no value
pub no_value : {A P : Type 0} → (o : Option A) → P → IfNone o P
no_value None p = p
no_value (Some x) p = tt

-- what holds of a value, and what holds if there is none
pub some_of : {A : Type 0} → (o : Option A) (N : Type 0) (S : A → Type 0) → MatchOption o N S → IfSome o S
some_of None N S h = tt
some_of (Some x) N S h = h

pub none_of : {A : Type 0} → (o : Option A) (N : Type 0) (S : A → Type 0) → MatchOption o N S → IfNone o N
none_of None N S h = h
none_of (Some x) N S h = tt
