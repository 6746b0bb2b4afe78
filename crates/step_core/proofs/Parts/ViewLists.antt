-- Sums and greatest numbers over a list in which one element changes, and what holds of each view then.
use Rattle.step_core.proofs.Words.{◌≡◌, ◌≢◌, ◌⊎◌, ◌+◌, ◌≤◌, [], ◌∷◌, ◌++◌, ◌∙◌, ℕ, zero, suc, List, map, set, refl, sym, ap, subst, inl, inr, arith, sum_by}
use Rattle.step_core.proofs.Words.{cases_eq, sum_by-cons, some, some-ne-none, some-injective, get_elem?, EachView, maximum, View}

module _ {A : Type 0} where
  -- ---- one element

  pub at-set : (l : List A) (i : ℕ) (a b : A) → get_elem? l i ≡ some a → get_elem? (set l i b) i ≡ some b
  at-set [] i a b e = absurd (some-ne-none a (sym e))
  at-set (x ∷ l) zero a b e = refl
  at-set (x ∷ l) (suc i) a b e = at-set l i a b e

  -- elements at two places are one if the places are
  pub same-at : (l : List A) (i j : ℕ) (a b : A) → get_elem? l i ≡ some a → get_elem? l j ≡ some b → ((i ≡ j) × (a ≡ b)) ⊎ (i ≢ j)
  same-at l i j a b e d =
      elim (cases_eq i j) [
        | inl same ↦ inl (same, some-injective a b (sym e ∙ ap (get_elem? l) same ∙ d))
        | inr apart ↦ inr apart
      ]

  -- an element after another was set
  pub at-after_set :
      (l : List A) (i j : ℕ) (a b : A) → get_elem? (set l i a) j ≡ some b → ((j ≡ i) × (a ≡ b)) ⊎ ((j ≢ i) × (get_elem? l j ≡ some b))
  at-after_set [] i j a b e = absurd (some-ne-none b (sym e))
  at-after_set (x ∷ l) zero zero a b e = inl (refl, some-injective a b e)
  at-after_set (x ∷ l) zero (suc j) a b e = inr ((λ h. omega (arith, h)), e)
  at-after_set (x ∷ l) (suc i) zero a b e = inr ((λ h. omega (arith, h)), e)
  at-after_set (x ∷ l) (suc i) (suc j) a b e =
      elim (at-after_set l i j a b e) [
        | inl here ↦ inl (ap suc here.0, here.1)
        | inr there ↦ inr ((λ h. there.0 (omega (arith, h))), there.1)
      ]

  -- an element after one was pushed
  pub at-after_push : (l : List A) (a b : A) (j : ℕ) → get_elem? (l ++ a ∷ []) j ≡ some b → (get_elem? l j ≡ some b) ⊎ (a ≡ b)
  at-after_push [] a b zero e = inr (some-injective a b e)
  at-after_push [] a b (suc j) e = absurd (some-ne-none b (sym e))
  at-after_push (x ∷ l) a b zero e = inl e
  at-after_push (x ∷ l) a b (suc j) e = at-after_push l a b j e

  -- the elements before it stay
  pub at-push : (l : List A) (a b : A) (j : ℕ) → get_elem? l j ≡ some b → get_elem? (l ++ a ∷ []) j ≡ some b
  at-push [] a b j e = absurd (some-ne-none b (sym e))
  at-push (x ∷ l) a b zero e = e
  at-push (x ∷ l) a b (suc j) e = at-push l a b j e

  -- an element that is not set
  pub at-set_other : (l : List A) (i j : ℕ) (a : A) → j ≢ i → get_elem? (set l i a) j ≡ get_elem? l j
  at-set_other [] i j a apart = refl
  at-set_other (x ∷ l) zero zero a apart = absurd (apart refl)
  at-set_other (x ∷ l) zero (suc j) a apart = refl
  at-set_other (x ∷ l) (suc i) zero a apart = refl
  at-set_other (x ∷ l) (suc i) (suc j) a apart = at-set_other l i j a (λ h. apart (ap suc h))

  -- ---- sums

  -- one element for another
  pub sum-set : (f : A → ℕ) (l : List A) (i : ℕ) (a b : A) → get_elem? l i ≡ some a → sum_by f (set l i b) + f a ≡ sum_by f l + f b
  sum-set f [] i a b e = absurd (some-ne-none a (sym e))
  sum-set f (x ∷ l) zero a b e =
      let same : x ≡ a = some-injective x a e in omega (arith, sum_by-cons f x l, sum_by-cons f b l, ap f same)
  sum-set f (x ∷ l) (suc i) a b e = omega (arith, sum-set f l i a b e, sum_by-cons f x l, sum_by-cons f x (set l i b))

  -- one element is at most the sum
  pub sum-one : (f : A → ℕ) (l : List A) (i : ℕ) (a : A) → get_elem? l i ≡ some a → f a ≤ sum_by f l
  sum-one f [] i a e = absurd (some-ne-none a (sym e))
  sum-one f (x ∷ l) zero a e = let same : x ≡ a = some-injective x a e in omega (arith, sum_by-cons f x l, ap f same)
  sum-one f (x ∷ l) (suc i) a e = omega (arith, sum-one f l i a e, sum_by-cons f x l)

  -- and so are two
  pub sum-two :
      (f : A → ℕ) (l : List A) (i j : ℕ) (a b : A) → i ≢ j → get_elem? l i ≡ some a → get_elem? l j ≡ some b → f a + f b ≤ sum_by f l
  sum-two f [] i j a b apart e d = absurd (some-ne-none a (sym e))
  sum-two f (x ∷ l) zero zero a b apart e d = absurd (apart refl)
  sum-two f (x ∷ l) zero (suc j) a b apart e d =
      let same : x ≡ a = some-injective x a e in omega (arith, sum-one f l j b d, sum_by-cons f x l, ap f same)
  sum-two f (x ∷ l) (suc i) zero a b apart e d =
      let same : x ≡ b = some-injective x b d in omega (arith, sum-one f l i a e, sum_by-cons f x l, ap f same)
  sum-two f (x ∷ l) (suc i) (suc j) a b apart e d = omega (arith, sum-two f l i j a b (λ h. apart (ap suc h)) e d, sum_by-cons f x l)

  -- a sum of nothing but 0
  pub sum-zero : (f : A → ℕ) (l : List A) → ((i : ℕ) (a : A) → get_elem? l i ≡ some a → f a ≡ 0) → sum_by f l ≡ 0
  sum-zero f [] h = refl
  sum-zero f (x ∷ l) h = omega (arith, sum_by-cons f x l, h 0 x refl, sum-zero f l (λ i. h (suc i)))

  -- numbers that are the same have one sum
  pub sum-each : (f g : A → ℕ) (l : List A) → ((i : ℕ) (a : A) → get_elem? l i ≡ some a → f a ≡ g a) → sum_by f l ≡ sum_by g l
  sum-each f g [] h = refl
  sum-each f g (x ∷ l) h = omega (arith, sum_by-cons f x l, sum_by-cons g x l, h 0 x refl, sum-each f g l (λ i. h (suc i)))

  -- ---- the greatest

  pub maximum-one : (f : A → ℕ) (l : List A) (i : ℕ) (a : A) → get_elem? l i ≡ some a → f a ≤ maximum (map f l)
  maximum-one f [] i a e = absurd (some-ne-none a (sym e))
  maximum-one f (x ∷ l) zero a e = let same : x ≡ a = some-injective x a e in omega (arith, ap f same)
  maximum-one f (x ∷ l) (suc i) a e = omega (arith, maximum-one f l i a e)

  -- it does not fall if one element does not
  pub maximum-set :
      (f : A → ℕ) (l : List A) (i : ℕ) (a b : A) → get_elem? l i ≡ some a → f a ≤ f b → maximum (map f l) ≤ maximum (map f (set l i b))
  maximum-set f [] i a b e h = absurd (some-ne-none a (sym e))
  maximum-set f (x ∷ l) zero a b e h = let same : x ≡ a = some-injective x a e in omega (arith, ap f same, h)
  maximum-set f (x ∷ l) (suc i) a b e h = omega (arith, maximum-set f l i a b e h)

  pub maximum-push : (f : A → ℕ) (l : List A) (b : A) → maximum (map f l) ≤ maximum (map f (l ++ b ∷ []))
  maximum-push f [] b = omega arith
  maximum-push f (x ∷ l) b = omega (arith, maximum-push f l b)

  -- it is at most what each is at most
  pub maximum-most : (f : A → ℕ) (l : List A) (n : ℕ) → ((i : ℕ) (a : A) → get_elem? l i ≡ some a → f a ≤ n) → maximum (map f l) ≤ n
  maximum-most f [] n h = omega arith
  maximum-most f (x ∷ l) n h = omega (arith, h 0 x refl, maximum-most f l n (λ i. h (suc i)))

-- ---- each view

-- one view for another
pub each-set :
    (views : List View) (id : ℕ) (after : View) (has : View → Type 0)
    → ((i : ℕ) (view : View) → i ≢ id → get_elem? views i ≡ some view → has view) → has after → EachView (set views id after) has
each-set views id after has others own i view e =
    elim (at-after_set views id i after view e) [
      | inl own_place ↦ subst has own_place.1 own
      | inr other ↦ others i view other.0 other.1
    ]

-- one view more
pub each-push : (views : List View) (more : View) (has : View → Type 0) → EachView views has → has more → EachView (views ++ more ∷ []) has
each-push views more has others own i view e =
    elim (at-after_push views more view i e) [
      | inl there ↦ others i view there
      | inr same ↦ subst has same own
    ]
