-- Decisions of what is said of numbers, lists and points: whether a worked value is as it says is computed.
use Rattle.plan_model_tests.proofs.Words.{◌≡◌, ℕ, zero, suc, ◌<◌, ◌≤◌, Bool, true, false, Option, Some, None, List, length, refl, sym, ap, ◌∙◌, arith, subst}
use Rattle.plan_model_tests.proofs.Words.{inl, inr, ◌⊎◌, Contains, IsTrue, slice_index_or, eqb-true, eqb-false, cases_eq, true≢false, get_or_default, is_some}
use Rattle.plan_model_tests.proofs.Words.{Point}
use Rattle.std.proofs.lemmas.Bool.{leb-true, leb-false}
use lib.Dec.{leb, eqb}

-- ---- what a decision tells
abbrev pub holds : {P : Type 0} → Dec P → Bool
holds (yes p) = true
holds (no n) = false

pub shown : {P : Type 0} (d : Dec P) → holds d ≡ true → P
shown (yes p) e = p
shown (no n) e = absurd (true≢false (sym e))

pub refuted : {P : Type 0} (d : Dec P) → holds d ≡ false → ¬ P
refuted (yes p) e = absurd (true≢false e)
refuted (no n) e = n

-- ---- of parts
abbrev pub by_test : {P : Type 0} (b : Bool) → (b ≡ true → P) → (b ≡ false → ¬ P) → Dec P
by_test true f g = yes (f refl)
by_test false f g = no (g refl)

abbrev pub like : {P Q : Type 0} → (P → Q) → (Q → P) → Dec P → Dec Q
like f g (yes p) = yes (f p)
like f g (no n) = no (λ q. n (g q))

-- field by field: if the field is so, as the rest
abbrev pub given : {P Q : Type 0} → Dec P → (Q → P) → (P → Dec Q) → Dec Q
given (yes p) field rest = rest p
given (no n) field rest = no (λ q. n (field q))

abbrev pub both : {P Q : Type 0} → Dec P → Dec Q → Dec (P × Q)
both (yes p) (yes q) = yes (p, q)
both (yes p) (no n) = no (λ h. n h.1)
both (no n) d = no (λ h. n h.0)

abbrev pub either : {P Q : Type 0} → Dec P → Dec Q → Dec (P ⊎ Q)
either (yes p) d = yes (inl p)
either (no n) (yes q) = yes (inr q)
either (no n) (no m) = no (λ h. elim h [ inl p ↦ n p | inr q ↦ m q ])

abbrev pub implied : {P Q : Type 0} → Dec P → Dec Q → Dec (P → Q)
implied (no n) d = yes (λ p. absurd (n p))
implied (yes p) (yes q) = yes (λ _. q)
implied (yes p) (no n) = no (λ f. n (f p))

abbrev pub denied : {P : Type 0} → Dec P → Dec (¬ P)
denied (yes p) = no (λ n. n p)
denied (no n) = yes n

-- of what is equal
abbrev pub as_of : {T : Type 0} (P : T → Type 0) {a b : T} → a ≡ b → Dec (P b) → Dec (P a)
as_of P e d = like (λ p. subst P (sym e) p) (λ p. subst P e p) d

-- what is so goes on, or nothing is said
abbrev pub if_so : {P Q : Type 0} → Dec P → (P → Option Q) → Option Q
if_so (yes p) next = next p
if_so (no n) next = None

-- what is there goes on, or nothing is said
abbrev pub if_there : {P Q : Type 0} → Option P → (P → Option Q) → Option Q
if_there None next = None
if_there (Some p) next = next p

-- what is there
abbrev pub value_of : {T : Type 0} (o : Option T) → is_some o ≡ true → T
value_of None e = absurd (true≢false (sym e))
value_of (Some t) e = t

-- ---- of numbers
pub above-not : (a b : ℕ) → leb a b ≡ false → ¬ (a ≤ b)
above-not a b e h = omega (arith, leb-false a b e)

abbrev pub is_at_most : (a b : ℕ) → Dec (a ≤ b)
is_at_most a b = by_test (leb a b) (leb-true a b) (above-not a b)

abbrev pub are_equal : (a b : ℕ) → Dec (a ≡ b)
are_equal a b = by_test (eqb a b) (eqb-true a b) (eqb-false a b)

abbrev pub is_true : (b : Bool) → Dec (IsTrue b)
is_true b = by_test b (λ e. e) (λ e h. true≢false (sym h ∙ e))

-- ---- of all numbers, and of one
module _ (P : ℕ → Type 0) where
  pub all-more : (n : ℕ) → P n × ((k : ℕ) → k < n → P k) → (k : ℕ) → k < suc n → P k
  all-more n h k below = elim (cases_eq k n) [ inl e ↦ subst P (sym e) h.0 | inr apart ↦ h.1 k (omega (arith, below, apart)) ]

  pub all-fewer : (n : ℕ) → ((k : ℕ) → k < suc n → P k) → P n × ((k : ℕ) → k < n → P k)
  all-fewer n h = (h n (omega arith), λ k below. h k (omega (arith, below)))

  abbrev pub each_below : ((k : ℕ) → Dec (P k)) → (n : ℕ) → Dec ((k : ℕ) → k < n → P k)
  each_below test zero = yes (λ k below. absurd (omega (arith, below)))
  each_below test (suc n) = like (all-more n) (all-fewer n) (both (test n) (each_below test n))

  pub some-here : (n : ℕ) → P n → (k : ℕ) × (k < suc n) × P k
  some-here n p = (n, omega arith, p)

  pub some-more : (n : ℕ) → (k : ℕ) × (k < n) × P k → (k : ℕ) × (k < suc n) × P k
  some-more n (k, below, p) = (k, omega (arith, below), p)

  pub none-more : (n : ℕ) → ¬ P n → ¬ ((k : ℕ) × (k < n) × P k) → ¬ ((k : ℕ) × (k < suc n) × P k)
  none-more n apart none (k, below, p) =
      elim (cases_eq k n) [ inl e ↦ apart (subst P e p) | inr other ↦ none (k, omega (arith, below, other), p) ]

  pub none-below : ¬ ((k : ℕ) × (k < 0) × P k)
  none-below (k, below, p) = omega (arith, below)

  abbrev pub either_below : (n : ℕ) → Dec (P n) → Dec ((k : ℕ) × (k < n) × P k) → Dec ((k : ℕ) × (k < suc n) × P k)
  either_below n (yes p) d = yes (some-here n p)
  either_below n (no apart) (yes h) = yes (some-more n h)
  either_below n (no apart) (no none) = no (none-more n apart none)

  abbrev pub some_below : ((k : ℕ) → Dec (P k)) → (n : ℕ) → Dec ((k : ℕ) × (k < n) × P k)
  some_below test zero = no none-below
  some_below test (suc n) = either_below n (test n) (some_below test n)

-- of each number of which something is said that is said of none from n on
abbrev pub each_of : (A P : ℕ → Type 0) (n : ℕ) → ((k : ℕ) → A k → k < n) → ((k : ℕ) → Dec (A k → P k)) → Dec ((k : ℕ) → A k → P k)
each_of A P n few test = like (λ f k a. f k (few k a) a) (λ g k below. g k) (each_below (λ k. A k → P k) test n)

-- ---- of options
module _ {T : Type 0} (P : T → Type 0) where
  pub of-some : (t : T) → P t → (s : T) → Some t ≡ Some s → P s
  of-some t p s e = subst P (let own : t ≡ s = cc in own) p

  pub of-none : (s : T) → None ≡ Some s → P s
  of-none s e = cc

  abbrev pub in_option : (o : Option T) → ((t : T) → Dec (P t)) → Dec ((t : T) → o ≡ Some t → P t)
  in_option None test = yes of-none
  in_option (Some t) test = like (of-some t) (λ h. h t refl) (test t)

-- ---- of points
pub point-by : (a b : Point) → (a.x ≡ b.x) × (a.y ≡ b.y) → a ≡ b
point-by a b h = λ i. record { x = h.0 i; y = h.1 i }

abbrev pub is_point : (o : Option Point) (p : Point) → Dec (o ≡ Some p)
is_point None p = no (of-none (λ _. ⊥) p)
is_point (Some q) p =
    like (λ h. ap Some (point-by q p h)) (λ e. of-some (λ r. (q.x ≡ r.x) × (q.y ≡ r.y)) q (refl, refl) p e) (both (are_equal q.x p.x) (are_equal q.y p.y))

-- ---- of members
module _ (xs : List ℕ) (P : ℕ → Type 0) where
  -- what is said of each member, by its place
  pub of-places : ((k : ℕ) → k < length xs → P (slice_index_or xs k 0)) → (x : ℕ) → Contains xs x → P x
  of-places h x c = subst P (get_or_default xs c.0 0 x c.1 ∙ c.2) (h c.0 c.1)

  pub of-members : ((x : ℕ) → Contains xs x → P x) → (k : ℕ) → k < length xs → P (slice_index_or xs k 0)
  of-members h k below = h (slice_index_or xs k 0) (k, below, get_or_default xs k (slice_index_or xs k 0) 0 below)

  abbrev pub each_member : ((x : ℕ) → Dec (P x)) → Dec ((x : ℕ) → Contains xs x → P x)
  each_member test = like of-places of-members (each_below (λ k. P (slice_index_or xs k 0)) (λ k. test (slice_index_or xs k 0)) (length xs))

abbrev pub contains : (xs : List ℕ) (x : ℕ) → Dec (Contains xs x)
contains xs x = some_below (λ k. slice_index_or xs k x ≡ x) (λ k. are_equal (slice_index_or xs k x) x) (length xs)

-- ---- of tests and options
abbrev pub agree : (a b : Bool) → Dec (a ≡ b)
agree true true = yes refl
agree false false = yes refl
agree true false = no true≢false
agree false true = no (λ e. true≢false (sym e))

abbrev pub is_absent : {T : Type 0} (o : Option T) → Dec (o ≡ None)
is_absent None = yes refl
is_absent (Some t) = no (λ e. of-none (λ _. ⊥) t (sym e))
