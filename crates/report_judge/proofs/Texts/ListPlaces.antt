-- What stands at a place of a list that is made of two.
use Rattle.report_judge.proofs.Words.{◌≡◌, ℕ, zero, suc, ◌+◌, ◌<◌, List, [], ◌∷◌, ◌++◌, length, length-append, Some, arith, refl, sym, ap, ◌∙◌, subst, inl, inr}
use Rattle.report_judge.proofs.Words.{slice_get, cases_lt, slice_get_within, below_more, get_or, get_or_append_left, get_or_push}

pub slice_get-left : {A : Type 0} → (xs ys : List A) (i : ℕ) → i < length xs → slice_get (xs ++ ys) i ≡ slice_get xs i
slice_get-left [] ys i h = absurd (omega (arith, h))
slice_get-left (x ∷ xs) ys zero h = refl
slice_get-left (x ∷ xs) ys (suc i) h = slice_get-left xs ys i (omega (arith, h))

pub slice_get-seam : {A : Type 0} → (xs : List A) (y : A) (ys : List A) → slice_get (xs ++ y ∷ ys) (length xs) ≡ Some y
slice_get-seam [] y ys = refl
slice_get-seam (x ∷ xs) y ys = slice_get-seam xs y ys

pub slice_get-right : {A : Type 0} → (xs ys : List A) (i : ℕ) → slice_get (xs ++ ys) (length xs + i) ≡ slice_get ys i
slice_get-right [] ys i = let none : 0 + i ≡ i = omega arith in ap (slice_get ys) none
slice_get-right (x ∷ xs) ys i =
    let next : suc (length xs) + i ≡ suc (length xs + i) = omega arith in ap (slice_get (x ∷ (xs ++ ys))) next ∙ slice_get-right xs ys i

-- what is said of each member of a list and of one more
pub pushed_each : {A : Type 0} → (P : ℕ → A → Type 0) (xs : List A) (x : A) → ((i : ℕ) (own : A) → slice_get xs i ≡ Some own → P i own)
    → P (length xs) x → (i : ℕ) (own : A) → slice_get (xs ++ x ∷ []) i ≡ Some own → P i own
pushed_each P xs x each last i own is =
    elim (cases_lt i (length xs)) [
      | inl low ↦ each i own (sym (slice_get-left xs (x ∷ []) i low) ∙ is)
      | inr past ↦ (
          let within = slice_get_within (xs ++ x ∷ []) i own is in
          let place : i ≡ length xs = omega (arith, within, past, length-append xs (x ∷ [])) in
          let both : Some x ≡ Some own = sym (slice_get-seam xs x []) ∙ ap (slice_get (xs ++ x ∷ [])) (sym place) ∙ is in
          let same : x ≡ own = cc in
          subst (P i) same (subst (λ n. P n x) (sym place) last))
    ]

-- the same of numbers in place of members
pub pushed_below : (P : ℕ → ℕ → Type 0) (keys : List ℕ) (own n : ℕ) → length keys ≡ n → ((k : ℕ) → k < n → P k (get_or keys k 0)) → P n own
    → (k : ℕ) → k < n + 1 → P k (get_or (keys ++ own ∷ []) k 0)
pushed_below P keys own n long each last =
    below_more (λ k. P k (get_or (keys ++ own ∷ []) k 0)) n
    (λ k low. subst (P k) (sym (get_or_append_left keys (own ∷ []) 0 k (omega (arith, low, long)))) (each k low))
    (subst (P n) (sym (get_or_push keys own 0 n long)) last)
