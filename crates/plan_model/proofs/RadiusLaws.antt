-- The greatest number up to a bound that passes a test.
use Rattle.plan_model.proofs.Words.{◌≡◌, ℕ, zero, suc, ◌≤◌, Bool, true, arith, inl, inr, greatest, cond_both, cases_eq, ap}

pub greatest-le : (test : ℕ → Bool) (n : ℕ) → greatest test n ≤ n
greatest-le test zero = omega arith
greatest-le test (suc n) =
    cond_both (test (suc n)) (suc n) (greatest test n) (λ k. k ≤ suc n) (λ e. omega arith) (λ e. omega (arith, greatest-le test n))

-- if 0 passes, the greatest passes
pub greatest-passes : (test : ℕ → Bool) (n : ℕ) → test 0 ≡ true → test (greatest test n) ≡ true
greatest-passes test zero h = h
greatest-passes test (suc n) h =
    cond_both (test (suc n)) (suc n) (greatest test n) (λ k. test k ≡ true) (λ e. e) (λ e. greatest-passes test n h)

-- no number up to the bound that passes is greater
pub greatest-most : (test : ℕ → Bool) (n r : ℕ) → r ≤ n → test r ≡ true → r ≤ greatest test n
greatest-most test zero r h passes = h
greatest-most test (suc n) r h passes =
    cond_both (test (suc n)) (suc n) (greatest test n) (λ k. r ≤ k) (λ e. h)
    (λ e. elim (cases_eq r (suc n)) [
      | inl same ↦ (let f : test r ≡ test (suc n) = ap test same in cc)
      | inr apart ↦ greatest-most test n r (omega (arith, h, apart)) passes
    ])

-- a number up to the bound that passes is the greatest, if no greater one passes
pub greatest-unique : (test : ℕ → Bool) (n r : ℕ) → test 0 ≡ true → r ≤ n → test r ≡ true
    → ((s : ℕ) → s ≤ n → test s ≡ true → s ≤ r) → r ≡ greatest test n
greatest-unique test n r start within passes most =
    omega (arith, greatest-most test n r within passes, most (greatest test n) (greatest-le test n) (greatest-passes test n start))
