-- Lists of numbers of which no two are equal.
use Rattle.step_core.proofs.Words.{◌≡◌, ◌⊎◌, ◌≤◌, [], ◌∷◌, ◌++◌, ◌||◌, ℕ, zero, suc, Bool, true, false, eqb, length, List, inl, inr, arith, refl, sym, Contains}
use Rattle.step_core.proofs.Words.{AllByRecursion, list_any, ne_eqb, eqb-true, Contains-append_cases, Contains-append_left, Contains-append_right}
use Rattle.step_core.proofs.Words.{IsDistinct-cons, length-le_from_distinct_below, Contains-after}
use Rattle.std.specs.List.{IsDistinct}

-- ---- what a list contains

pub Contains-cases : {A : Type 0} → (x y : A) (xs : List A) → Contains (x ∷ xs) y → (x ≡ y) ⊎ Contains xs y
Contains-cases x y xs (zero, below, is) = inl is
Contains-cases x y xs (suc k, below, is) = inr (k, omega (arith, below), is)

pub Contains-none : {A : Type 0} → (x : A) → ¬ Contains [] x
Contains-none x (k, below, is) = omega (arith, below)

-- what a list contains with one element within
pub Contains-within : {A : Type 0} → (x y : A) (xs ys : List A) → Contains (xs ++ x ∷ ys) y → (x ≡ y) ⊎ Contains (xs ++ ys) y
Contains-within x y xs ys h =
    elim (Contains-append_cases xs (x ∷ ys) y h) [
      | inl left ↦ inr (Contains-append_left xs ys y left)
      | inr right ↦ elim (Contains-cases x y ys right) [
        | inl is ↦ inl is
        | inr k ↦ inr (Contains-append_right xs ys y k)
      ]
    ]

pub length-one_more : (n : ℕ) (ns : List ℕ) → length (n ∷ ns) ≡ suc (length ns)
length-one_more n ns = refl

-- ---- no two are equal

abbrev pub AreDifferent : List ℕ → Type 0
AreDifferent [] = Unit {0}
AreDifferent (n ∷ ns) = (¬ Contains ns n) × AreDifferent ns

-- one more number within
pub AreDifferent-within : (n : ℕ) (ms ns : List ℕ) → AreDifferent (ms ++ ns) → ¬ Contains (ms ++ ns) n → AreDifferent (ms ++ n ∷ ns)
AreDifferent-within n [] ns h new = (new, h)
AreDifferent-within n (m ∷ ms) ns (apart, h) new = (
  (λ k. elim (Contains-within n m ms ns k) [
    | inl is ↦ new (0, omega arith, sym is)
    | inr old ↦ apart old
  ]),
  AreDifferent-within n ms ns h (λ k. new (Contains-after m (ms ++ ns) n k)),
)

-- a number within does not stand after itself
pub AreDifferent-after : (n : ℕ) (ms ns : List ℕ) → AreDifferent (ms ++ n ∷ ns) → ¬ Contains ns n
AreDifferent-after n [] ns (apart, h) = apart
AreDifferent-after n (m ∷ ms) ns (apart, h) = AreDifferent-after n ms ns h

all_apart : (n : ℕ) (ns : List ℕ) → ¬ Contains ns n → AllByRecursion (λ m. eqb n m ≡ false) ns
all_apart n [] h = tt
all_apart n (m ∷ ns) h = (ne_eqb n m (λ e. h (0, omega arith, sym e)), all_apart n ns (λ k. h (Contains-after m ns n k)))

pub IsDistinct-from_different : (ns : List ℕ) → AreDifferent ns → IsDistinct eqb ns
unfolding IsDistinct
IsDistinct-from_different [] h = tt
IsDistinct-from_different (n ∷ ns) (apart, h) = IsDistinct-cons eqb n ns (all_apart n ns apart) (IsDistinct-from_different ns h)

Contains-from_any : (n : ℕ) (ns : List ℕ) → list_any (eqb n) ns ≡ true → Contains ns n
Contains-from_any n [] h = cc
Contains-from_any n (m ∷ ns) h = by_test (Contains-from_any n ns) (eqb n m) refl h
  where
    by_test : (list_any (eqb n) ns ≡ true → Contains ns n) → (b : Bool) → eqb n m ≡ b → (b || list_any (eqb n) ns) ≡ true → Contains (m ∷ ns) n
    by_test rest true e k = (0, omega arith, sym (eqb-true n m e))
    by_test rest false e k = Contains-after m ns n (rest k)

-- different numbers up to a limit are few
pub AreDifferent-few : (ns : List ℕ) (limit : ℕ) → AreDifferent ns → ((n : ℕ) → Contains ns n → n ≤ limit) → length ns ≤ suc limit
AreDifferent-few ns limit h low =
    length-le_from_distinct_below ns (suc limit) (IsDistinct-from_different ns h) (λ n k. omega (arith, low n (Contains-from_any n ns k)))
