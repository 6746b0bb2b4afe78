-- The order of pairs (key, number) is total, and the least of some numbers is only one.
use Rattle.plan_model.proofs.Words.{◌≡◌, ℕ, zero, suc, ◌+◌, ◌<◌, ◌≤◌, ltb, Bool, true, false, cond, ◌∷◌, Option, Some, None, arith, refl, ap, subst, inl, inr}
use Rattle.plan_model.proofs.Words.{◌⊎◌, IsTrue, range_with_len, cases_order, ltb-true, ltb-false, IsNotAbove, IsFirstLeast, lesser, first_least}
use Rattle.std.specs.Prelude.{filter}

-- ---- the order

-- no pair is above itself
pub IsNotAbove-refl : (key : ℕ → ℕ) (n : ℕ) → IsNotAbove key n n
IsNotAbove-refl key n = record { least = omega arith; first = λ e. omega arith }

-- a lesser key comes first
pub IsNotAbove-lesser : (key : ℕ → ℕ) (m n : ℕ) → key m < key n → IsNotAbove key m n
IsNotAbove-lesser key m n h = record { least = omega arith; first = λ e. absurd (omega arith) }

-- if one pair is not above a second, and that not above a third, the first is not above the third
pub IsNotAbove-trans : (key : ℕ → ℕ) (l m n : ℕ) → IsNotAbove key l m → IsNotAbove key m n → IsNotAbove key l n
IsNotAbove-trans key l m n f g = record {
  least = omega (arith, f.least, g.least);
  first = λ e.
      let k : key m ≡ key l = omega (arith, f.least, g.least) in
      let h : key n ≡ key m = omega (arith, f.least, g.least) in
      omega (arith, f.first k, g.first h);
}

-- of two pairs one is not above the other
pub IsNotAbove-total : (key : ℕ → ℕ) (m n : ℕ) → IsNotAbove key m n ⊎ IsNotAbove key n m
IsNotAbove-total key m n =
    elim (cases_order (key m) (key n)) [
      | inl e ↦ (
          elim (cases_order m n) [
            | inl f ↦ inl (record { least = omega arith; first = λ g. omega arith })
            | inr (inl f) ↦ inl (record { least = omega arith; first = λ g. omega arith })
            | inr (inr f) ↦ inr (record { least = omega arith; first = λ g. omega arith })
          ])
      | inr (inl l) ↦ inl (record { least = omega arith; first = λ g. absurd (omega arith) })
      | inr (inr l) ↦ inr (record { least = omega arith; first = λ g. absurd (omega arith) })
    ]

-- two numbers whose pairs are not above one another are the same
pub IsNotAbove-antisym : (key : ℕ → ℕ) (m n : ℕ) → IsNotAbove key m n → IsNotAbove key n m → m ≡ n
IsNotAbove-antisym key m n f g =
    let k : key m ≡ key n = omega (arith, f.least, g.least) in
    let h : key n ≡ key m = omega arith in
    omega (arith, f.first h, g.first k)

-- at most one number has the least pair
pub IsFirstLeast-unique : (key : ℕ → ℕ) (among : ℕ → Type 0) (m n : ℕ) → IsFirstLeast key among m → IsFirstLeast key among n → m ≡ n
IsFirstLeast-unique key among m n f g = IsNotAbove-antisym key m n (f.not_above n g.member) (g.not_above m f.member)

-- the least pair goes by what is among the numbers and not by how that is said
pub IsFirstLeast-among :
    (key : ℕ → ℕ) (one other : ℕ → Type 0) (m : ℕ) → ((i : ℕ) → one i → other i) → ((i : ℕ) → other i → one i)
    → IsFirstLeast key one m → IsFirstLeast key other m
IsFirstLeast-among key one other m to from h = record { member = to m h.member; not_above = λ i own. h.not_above i (from i own) }

-- ---- the first least of those that pass a test

-- i is one of the n numbers from k on, and passes the test
record IsPassing (p : ℕ → Bool) (k n i : ℕ) : Type 0 where
  low : k ≤ i
  high : i < k + n
  passes : IsTrue (p i)

-- the result is the first least of the numbers that pass, and none if none passes
IsLeastOf : (key : ℕ → ℕ) (p : ℕ → Bool) (k n : ℕ) → Option ℕ → Type 0
IsLeastOf key p k n None = (i : ℕ) → ¬ IsPassing p k n i
IsLeastOf key p k n (Some m) = IsFirstLeast key (IsPassing p k n) m

-- a number that passes is the first, or one of the others
passing_cases : (p : ℕ → Bool) (k n i : ℕ) → IsPassing p k (suc n) i → (i ≡ k) ⊎ IsPassing p (k + 1) n i
passing_cases p k n i h =
    elim (cases_order k i) [
      | inl e ↦ inl (omega arith)
      | inr (inl l) ↦ inr (record { low = omega arith; high = omega (arith, h.high); passes = h.passes })
      | inr (inr l) ↦ absurd (omega (arith, h.low))
    ]

-- a number of the later ones that passes is one of all
passing_later : (p : ℕ → Bool) (k n i : ℕ) → IsPassing p (k + 1) n i → IsPassing p k (suc n) i
passing_later p k n i h = record { low = omega (arith, h.low); high = omega (arith, h.high); passes = h.passes }

-- if the first fails, a number that passes is one of the others
passing_others : (p : ℕ → Bool) (k n i : ℕ) → p k ≡ false → IsPassing p k (suc n) i → IsPassing p (k + 1) n i
passing_others p k n i e h =
    elim (passing_cases p k n i h) [
      | inl f ↦ (let g : p i ≡ p k = ap p f in let t : p i ≡ true = h.passes in cc)
      | inr later ↦ later
    ]

-- the first is one of all if it passes
passing_first : (p : ℕ → Bool) (k n : ℕ) → p k ≡ true → IsPassing p k (suc n) k
passing_first p k n e = record { low = omega arith; high = omega arith; passes = e }

-- the first of the numbers against the least of the others
first_against :
    (key : ℕ → ℕ) (p : ℕ → Bool) (k n : ℕ) → p k ≡ true → (best : Option ℕ) → IsLeastOf key p (k + 1) n best
    → IsFirstLeast key (IsPassing p k (suc n)) (lesser key k best)
unfolding IsLeastOf
first_against key p k n e None h = record {
  member = passing_first p k n e;
  not_above = λ i own.
      elim (passing_cases p k n i own) [
        | inl f ↦ record { least = omega (arith, ap key f); first = λ g. omega arith }
        | inr later ↦ absurd (h i later)
      ];
}
first_against key p k n e (Some m) h = second_wins (ltb (key m) (key k)) refl
  where
    second_wins : (b : Bool) → ltb (key m) (key k) ≡ b → IsFirstLeast key (IsPassing p k (suc n)) (cond b m k)
    second_wins true f = record {
      member = passing_later p k n m h.member;
      not_above = λ i own.
          let below : key m < key k = ltb-true (key m) (key k) f in
          elim (passing_cases p k n i own) [
            | inl g ↦ record { least = omega (arith, ap key g); first = λ e. absurd (omega (arith, ap key g)) }
            | inr later ↦ h.not_above i later
          ];
    }
    second_wins false f = record {
      member = passing_first p k n e;
      not_above = λ i own.
          let above : key k ≤ key m = ltb-false (key m) (key k) f in
          elim (passing_cases p k n i own) [
            | inl g ↦ record { least = omega (arith, ap key g); first = λ e. omega arith }
            | inr later ↦ record { least = omega (arith, (h.not_above i later).least); first = λ e. omega (arith, later.low) }
          ];
    }

-- a number that fails the test changes nothing
skip_first :
    (key : ℕ → ℕ) (p : ℕ → Bool) (k n : ℕ) → p k ≡ false → (best : Option ℕ) → IsLeastOf key p (k + 1) n best → IsLeastOf key p k (suc n) best
unfolding IsLeastOf
skip_first key p k n e None h = λ i own. h i (passing_others p k n i e own)
skip_first key p k n e (Some m) h =
    IsFirstLeast-among key (IsPassing p (k + 1) n) (IsPassing p k (suc n)) m (passing_later p k n) (λ i own. passing_others p k n i e own) h

-- what `first_least` gives for a range
least_of_range : (key : ℕ → ℕ) (p : ℕ → Bool) (k n : ℕ) → IsLeastOf key p k n (first_least key (filter p (range_with_len k n)))
unfolding IsLeastOf
least_of_range key p k zero = λ i h. absurd (omega (arith, h.low, h.high))
least_of_range key p k (suc n) = of_both (p k) refl (least_of_range key p (k + 1) n)
  where
    of_both :
        (b : Bool) → p k ≡ b → IsLeastOf key p (k + 1) n (first_least key (filter p (range_with_len (k + 1) n)))
        → IsLeastOf key p k (suc n) (first_least key (cond b (k ∷ filter p (range_with_len (k + 1) n)) (filter p (range_with_len (k + 1) n))))
    of_both true e later = first_against key p k n e (first_least key (filter p (range_with_len (k + 1) n))) later
    of_both false e later = skip_first key p k n e (first_least key (filter p (range_with_len (k + 1) n))) later

-- ---- the same of the numbers below n

-- i is below n and passes the test
abbrev pub IsBelowPassing : (ℕ → Bool) → ℕ → ℕ → Type 0
IsBelowPassing p n i = (i < n) × IsTrue (p i)

-- to say the same of a range from 0 on, and back
from_below : (p : ℕ → Bool) (n i : ℕ) → IsBelowPassing p n i → IsPassing p 0 n i
from_below p n i h = record { low = omega arith; high = omega (arith, h.0); passes = h.1 }

to_below : (p : ℕ → Bool) (n i : ℕ) → IsPassing p 0 n i → IsBelowPassing p n i
to_below p n i h = (omega (arith, h.high), h.passes)

-- the first least of the numbers below n that pass the test has the least pair among them
pub first_least-some :
    (key : ℕ → ℕ) (p : ℕ → Bool) (n m : ℕ) → first_least key (filter p (range_with_len 0 n)) ≡ Some m
    → IsFirstLeast key (IsBelowPassing p n) m
unfolding IsLeastOf
first_least-some key p n m e =
    IsFirstLeast-among key (IsPassing p 0 n) (IsBelowPassing p n) m (to_below p n) (from_below p n) (subst (IsLeastOf key p 0 n) e (least_of_range key p 0 n))

-- there is none only if no number below n passes the test
pub first_least-none :
    (key : ℕ → ℕ) (p : ℕ → Bool) (n : ℕ) → first_least key (filter p (range_with_len 0 n)) ≡ None → (i : ℕ) → ¬ IsBelowPassing p n i
unfolding IsLeastOf
first_least-none key p n e i h = subst (IsLeastOf key p 0 n) e (least_of_range key p 0 n) i (from_below p n i h)

-- the number with the least pair is the first least
pub first_least-from_least :
    (key : ℕ → ℕ) (p : ℕ → Bool) (n m : ℕ) → IsFirstLeast key (IsBelowPassing p n) m → first_least key (filter p (range_with_len 0 n)) ≡ Some m
first_least-from_least key p n m h = of_answer (first_least key (filter p (range_with_len 0 n))) refl
  where
    of_answer : (best : Option ℕ) → first_least key (filter p (range_with_len 0 n)) ≡ best → best ≡ Some m
    of_answer None e = absurd (first_least-none key p n e m h.member)
    of_answer (Some l) e = ap Some (IsFirstLeast-unique key (IsBelowPassing p n) l m (first_least-some key p n l e) h)

-- if no number below n passes the test, there is none
pub first_least-from_none :
    (key : ℕ → ℕ) (p : ℕ → Bool) (n : ℕ) → ((i : ℕ) → ¬ IsBelowPassing p n i) → first_least key (filter p (range_with_len 0 n)) ≡ None
first_least-from_none key p n h = of_answer (first_least key (filter p (range_with_len 0 n))) refl
  where
    of_answer : (best : Option ℕ) → first_least key (filter p (range_with_len 0 n)) ≡ best → best ≡ None
    of_answer None e = refl
    of_answer (Some l) e = absurd (h l (first_least-some key p n l e).member)
