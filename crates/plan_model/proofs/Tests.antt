-- Tests of every member of a list, and of every number below another.
use Rattle.plan_model.proofs.Words.{◌≡◌, ◌≢◌, ℕ, ◌<◌, Bool, true, false, ◌||◌, eqb, List, [], ◌∷◌, length, get_or, refl, zero, suc, arith, and_parts, and_from}
use Rattle.plan_model.proofs.Words.{eqb-true, length-range_with_len, get_or-range_with_len, list_all_at, list_all, range_with_len, eqb-false}

pub true_at : {X : Type 0} (p : X → Bool) (xs : List X) (i : ℕ) (d : X) → list_all p xs ≡ true → i < length xs → p (get_or xs i d) ≡ true
true_at p [] i d h l = absurd (omega arith)
true_at p (x ∷ xs) zero d h l = (and_parts (p x) (list_all p xs) h).0
true_at p (x ∷ xs) (suc i) d h l = true_at p xs i d (and_parts (p x) (list_all p xs) h).1 (omega arith)

pub true_of_all : {X : Type 0} (p : X → Bool) (xs : List X) (d : X) → ((i : ℕ) → i < length xs → p (get_or xs i d) ≡ true) → list_all p xs ≡ true
true_of_all p [] d h = refl
true_of_all p (x ∷ xs) d h = and_from (p x) (list_all p xs) (h 0 (omega arith)) (true_of_all p xs d (λ i l. h (suc i) (omega arith)))

-- a test of every number below n
pub true_below : (p : ℕ → Bool) (n : ℕ) → list_all p (range_with_len 0 n) ≡ true → (k : ℕ) → k < n → p k ≡ true
true_below p n h k l =
    let at : get_or (range_with_len 0 n) k 0 ≡ k = omega (arith, get_or-range_with_len 0 n k 0 l) in
    rw at at (true_at p (range_with_len 0 n) k 0 h (omega (arith, length-range_with_len 0 n)))

pub true_of_below : (p : ℕ → Bool) (n : ℕ) → ((k : ℕ) → k < n → p k ≡ true) → list_all p (range_with_len 0 n) ≡ true
true_of_below p n h =
    true_of_all p (range_with_len 0 n) 0 (λ i l.
    let small : i < n = omega (arith, length-range_with_len 0 n) in
    let at : get_or (range_with_len 0 n) i 0 ≡ i = omega (arith, get_or-range_with_len 0 n i 0 small) in
    rw at (h i small))

pub false_below : (p : ℕ → Bool) (n k : ℕ) → k < n → p k ≡ false → list_all p (range_with_len 0 n) ≡ false
false_below p n k l h =
    let at : get_or (range_with_len 0 n) k 0 ≡ k = omega (arith, get_or-range_with_len 0 n k 0 l) in
    list_all_at p (range_with_len 0 n) k 0 (omega (arith, length-range_with_len 0 n)) (rw at h)

-- the last of three tests, of which the first two fail
pub last_true : (k i j : ℕ) (b : Bool) → (eqb k i || (eqb k j || b)) ≡ true → k ≢ i → k ≢ j → b ≡ true
last_true k i j b h p q = by (eqb k i) (eqb k j) refl refl h
  where
    by : (s t : Bool) → eqb k i ≡ s → eqb k j ≡ t → (s || (t || b)) ≡ true → b ≡ true
    by true t e f g = absurd (p (eqb-true k i e))
    by false true e f g = absurd (q (eqb-true k j f))
    by false false e f g = g

-- three tests, of which one holds
pub one_true : (k i j : ℕ) (b : Bool) → (k ≢ i → k ≢ j → b ≡ true) → (eqb k i || (eqb k j || b)) ≡ true
one_true k i j b h = by (eqb k i) (eqb k j) refl refl
  where
    by : (s t : Bool) → eqb k i ≡ s → eqb k j ≡ t → (s || (t || b)) ≡ true
    by true t e f = refl
    by false true e f = refl
    by false false e f = h (eqb-false k i e) (eqb-false k j f)
