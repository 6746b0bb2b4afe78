-- The numbers below a limit, and how many of them pass a test.
use Rattle.plan_model.proofs.Words.{◌≡◌, ℕ, zero, suc, ◌+◌, ◌-◌, ◌<◌, ◌≤◌, Bool, true, false, cond, eqb, [], ◌∷◌, ◌++◌, arith, refl, sym, ap, ◌∙◌, inl, inr}
use Rattle.plan_model.proofs.Words.{◌≢◌, count_by, range_with_len, cases_eq, cases_lt, cases_Bool, cond-true, cond-false, ne_eqb, map-id}
use Rattle.plan_model.proofs.Words.{map-range_with_len_more, sum_by_push}
use Rattle.std.specs.List.{sum_by}
use Rattle.std.proofs.lemmas.Bool.{eq-eqb}

-- one more number at the end
pub range-more : (n : ℕ) → range_with_len 0 (n + 1) ≡ range_with_len 0 n ++ n ∷ []
range-more n =
    sym (map-id (range_with_len 0 (n + 1))) ∙ map-range_with_len_more (λ (x : ℕ). x) 0 n n (omega arith)
    ∙ ap (λ ns. ns ++ n ∷ []) (map-id (range_with_len 0 n))

-- with a limit of one more, the number before it counts if it passes
pub count-more : (test : ℕ → Bool) (n : ℕ) → count_by test (range_with_len 0 (suc n)) ≡ count_by test (range_with_len 0 n) + cond (test n) 1 0
count-more test n =
    let own : ℕ → ℕ = λ k. cond (test k) 1 0 in
    let next : suc n ≡ n + 1 = omega arith in
    ap (λ m. count_by test (range_with_len 0 m)) next ∙ ap (sum_by own) (range-more n) ∙ sum_by_push own (range_with_len 0 n) n

-- the first number and the others
pub count-first : (test : ℕ → Bool) (n : ℕ)
    → count_by test (range_with_len 0 (suc n)) ≡ cond (test 0) 1 0 + count_by (λ k. test (suc k)) (range_with_len 0 n)
count-first test zero = omega (arith, count-more test 0)
count-first test (suc n) = omega (arith, count-more test (suc n), count-first test n, count-more (λ k. test (suc k)) n)

-- as many as the limit if all below pass
pub count-all : (test : ℕ → Bool) (n : ℕ) → ((i : ℕ) → i < n → test i ≡ true) → count_by test (range_with_len 0 n) ≡ n
count-all test zero all = refl
count-all test (suc n) all =
    let here : ◌≡◌ {A = ℕ} (cond (test n) 1 0) 1 = ap (λ b. cond {A = ℕ} b 1 0) (all n (omega arith)) in
    omega (arith, count-more test n, count-all test n (λ i below. all i (omega arith)), here)

-- as many pass two tests that agree below the limit
pub count-same :
    (one other : ℕ → Bool) (n : ℕ) → ((i : ℕ) → i < n → one i ≡ other i) → count_by one (range_with_len 0 n) ≡ count_by other (range_with_len 0 n)
count-same one other zero same = refl
count-same one other (suc n) same =
    let before = count-same one other n (λ i below. same i (omega arith)) in
    let here = ap (λ b. cond {A = ℕ} b 1 0) (same n (omega arith)) in
    omega (arith, count-more one n, count-more other n, before, here)

-- numbers that fail add nothing
count-past : (test : ℕ → Bool) (m d : ℕ) → ((i : ℕ) → m ≤ i → test i ≡ false) → count_by test (range_with_len 0 (m + d)) ≡ count_by test (range_with_len 0 m)
count-past test m zero fail = let none : m + 0 ≡ m = omega arith in ap (λ n. count_by test (range_with_len 0 n)) none
count-past test m (suc d) fail =
    let last : m + suc d ≡ suc (m + d) = omega arith in
    let none : ◌≡◌ {A = ℕ} (cond (test (m + d)) 1 0) 0 = ap (λ b. cond {A = ℕ} b 1 0) (fail (m + d) (omega arith)) in
    let longer = ap (λ n. count_by test (range_with_len 0 n)) last in
    omega (arith, longer, count-more test (m + d), none, count-past test m d fail)

-- all that pass are below a limit
abbrev pub ArePassedBelow : (ℕ → Bool) → ℕ → Type 0
ArePassedBelow test n = (i : ℕ) → test i ≡ true → i < n

fails_past : (test : ℕ → Bool) (n : ℕ) → ArePassedBelow test n → (i : ℕ) → n ≤ i → test i ≡ false
fails_past test n below i past = elim (cases_Bool (test i)) [ inl passes ↦ absurd (omega (arith, below i passes)) | inr fails ↦ fails ]

-- a higher limit adds nothing if all that pass are below
pub count-longer : (test : ℕ → Bool) (m n : ℕ) → m ≤ n → ArePassedBelow test m → count_by test (range_with_len 0 n) ≡ count_by test (range_with_len 0 m)
count-longer test m n order below =
    let parts : n ≡ m + (n - m) = omega arith in
    ap (λ k. count_by test (range_with_len 0 k)) parts ∙ count-past test m (n - m) (fails_past test m below)

-- two limits have as many below them if all that pass are below both
pub count-limits :
    (test : ℕ → Bool) (m n : ℕ) → ((i : ℕ) → test i ≡ true → i < m) → ((i : ℕ) → test i ≡ true → i < n)
    → count_by test (range_with_len 0 m) ≡ count_by test (range_with_len 0 n)
count-limits test m n one other =
    elim (cases_lt m n) [
      | inl less ↦ sym (count-longer test m n (omega arith) one)
      | inr more ↦ count-longer test n m more other
    ]

-- ---- two tests

pub one_or_none : (a b : Bool) → (a ≡ true → b ≡ true) → cond a 1 0 ≤ cond b 1 0
one_or_none false b h = omega arith
one_or_none true b h =
    let here : ◌≡◌ {A = ℕ} (cond b 1 0) 1 = ap (λ t. cond {A = ℕ} t 1 0) (h refl) in
    omega (arith, here)

-- no fewer pass a test that passes all that another does
pub count-wider :
    (one other : ℕ → Bool) (n : ℕ) → ((i : ℕ) → one i ≡ true → other i ≡ true)
    → count_by one (range_with_len 0 n) ≤ count_by other (range_with_len 0 n)
count-wider one other zero wider = omega arith
count-wider one other (suc n) wider =
    omega (arith, count-more one n, count-more other n, count-wider one other n wider, one_or_none (one n) (other n) (wider n))

-- one more passes a test that passes one number more
pub count-one_more :
    (one other : ℕ → Bool) (n j : ℕ) → j < n → one j ≡ false → other j ≡ true → ((i : ℕ) → i ≢ j → other i ≡ one i)
    → count_by other (range_with_len 0 n) ≡ suc (count_by one (range_with_len 0 n))
count-one_more one other zero j below fails passes same = absurd (omega (arith, below))
count-one_more one other (suc n) j below fails passes same =
    elim (cases_eq j n) [
      | inl e ↦ (
          let none : ◌≡◌ {A = ℕ} (cond (one n) 1 0) 0 = ap (λ b. cond {A = ℕ} b 1 0) (ap one (sym e) ∙ fails) in
          let some : ◌≡◌ {A = ℕ} (cond (other n) 1 0) 1 = ap (λ b. cond {A = ℕ} b 1 0) (ap other (sym e) ∙ passes) in
          let before = count-same other one n (λ i low. same i (λ f. omega (arith, low, e, f))) in
          omega (arith, count-more one n, count-more other n, before, none, some))
      | inr apart ↦ (
          let before = count-one_more one other n j (omega (arith, below, apart)) fails passes same in
          let here = ap (λ b. cond {A = ℕ} b 1 0) (same n (λ f. apart (sym f))) in
          omega (arith, count-more one n, count-more other n, before, here))
    ]

-- a number below the limit fails one test and passes the other
pub record TellsApart (one other : ℕ → Bool) (n : ℕ) : Type 0 where
  pub number : ℕ
  pub below : number < n
  pub fails : one number ≡ false
  pub passes : other number ≡ true

fails_and_passes : (a b : Bool) → cond {A = ℕ} a 1 0 < cond {A = ℕ} b 1 0 → (a ≡ false) × (b ≡ true)
fails_and_passes false true h = (refl, refl)
fails_and_passes false false h = absurd (omega (arith, h))
fails_and_passes true false h = absurd (omega (arith, h))
fails_and_passes true true h = absurd (omega (arith, h))

-- there is one if fewer pass the one than the other
pub count-less :
    (one other : ℕ → Bool) (n : ℕ) → count_by one (range_with_len 0 n) < count_by other (range_with_len 0 n) → TellsApart one other n
count-less one other zero less = absurd (omega (arith, less))
count-less one other (suc n) less =
    elim (cases_lt (count_by one (range_with_len 0 n)) (count_by other (range_with_len 0 n))) [
      | inl before ↦ (
          let found = count-less one other n before in
          record { number = found.number; below = omega (arith, found.below); fails = found.fails; passes = found.passes })
      | inr no_fewer ↦ (
          let here = fails_and_passes (one n) (other n) (omega (arith, count-more one n, count-more other n, less, no_fewer)) in
          record { number = n; below = omega arith; fails = here.0; passes = here.1 })
    ]

-- ---- none, one, and several

-- none count if all below the limit fail
pub count-none : (test : ℕ → Bool) (n : ℕ) → ((i : ℕ) → i < n → test i ≡ false) → count_by test (range_with_len 0 n) ≡ 0
count-none test zero fail = refl
count-none test (suc n) fail =
    let here : ◌≡◌ {A = ℕ} (cond (test n) 1 0) 0 = ap (λ b. cond {A = ℕ} b 1 0) (fail n (omega arith)) in
    omega (arith, count-more test n, count-none test n (λ i below. fail i (omega arith)), here)

-- one counts if it alone passes
pub count-single :
    (test : ℕ → Bool) (n j : ℕ) → j < n → test j ≡ true → ((i : ℕ) → i ≢ j → test i ≡ false) → count_by test (range_with_len 0 n) ≡ 1
count-single test n j below passes alone =
    count-one_more (λ i. false) test n j below refl passes alone ∙ ap suc (count-none (λ i. false) n (λ i low. refl))

-- the test, with number j left out
except : ℕ → (ℕ → Bool) → ℕ → Bool
except j test i = cond (eqb i j) false (test i)

except-left_out : (j : ℕ) (test : ℕ → Bool) → except j test j ≡ false
unfolding except
except-left_out j test = cond-true (eqb j j) false (test j) (eq-eqb j j refl)

except-other : (j : ℕ) (test : ℕ → Bool) (i : ℕ) → i ≢ j → test i ≡ except j test i
unfolding except
except-other j test i apart = sym (cond-false (eqb i j) false (test i) (ne_eqb i j apart))

-- a number that passes counts beside the others
count_others :
    (test : ℕ → Bool) (n j : ℕ) → j < n → test j ≡ true
    → count_by test (range_with_len 0 n) ≡ suc (count_by (except j test) (range_with_len 0 n))
count_others test n j below passes = count-one_more (except j test) test n j below (except-left_out j test) passes (except-other j test)

-- some count if one passes
pub count-some : (test : ℕ → Bool) (n j : ℕ) → j < n → test j ≡ true → 0 < count_by test (range_with_len 0 n)
count-some test n j below passes = omega (arith, count_others test n j below passes)

-- and one passes if some count
pub count-found : (test : ℕ → Bool) (n : ℕ) → 0 < count_by test (range_with_len 0 n) → TellsApart (λ i. false) test n
count-found test n some = count-less (λ i. false) test n (omega (arith, some, count-none (λ i. false) n (λ i low. refl)))

-- at most one passes if no more count
pub count-unique :
    (test : ℕ → Bool) (n j k : ℕ) → j < n → k < n → test j ≡ true → test k ≡ true → count_by test (range_with_len 0 n) ≤ 1 → j ≡ k
count-unique test n j k low also one other most =
    elim (cases_eq j k) [
      | inl e ↦ e
      | inr apart ↦ (
          let passes = sym (except-other j test k (λ e. apart (sym e))) ∙ other in
          absurd (omega (arith, count_others test n j low one, count-some (except j test) n k also passes, most)))
    ]
