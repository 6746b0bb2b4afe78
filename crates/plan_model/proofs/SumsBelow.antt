-- Sums over the numbers below a limit.
use Rattle.plan_model.proofs.Words.{◌≡◌, ◌≢◌, ℕ, zero, suc, ◌+◌, ◌<◌, ◌≤◌, arith, refl, sym, ap, ◌∙◌, inl, inr, range_with_len, cases_eq, sum_by_push}
use Rattle.std.specs.List.{sum_by}
use Rattle.plan_model.proofs.CountsBelow.{range-more}

-- with a limit of one more, one more is added
pub sum-more : (f : ℕ → ℕ) (n : ℕ) → sum_by f (range_with_len 0 (suc n)) ≡ sum_by f (range_with_len 0 n) + f n
sum-more f n =
    let next : suc n ≡ n + 1 = omega arith in
    ap (λ m. sum_by f (range_with_len 0 m)) next ∙ ap (sum_by f) (range-more n) ∙ sum_by_push f (range_with_len 0 n) n

-- sums of the same
pub sum-same : (f g : ℕ → ℕ) (n : ℕ) → ((k : ℕ) → k < n → f k ≡ g k) → sum_by f (range_with_len 0 n) ≡ sum_by g (range_with_len 0 n)
sum-same f g zero same = refl
sum-same f g (suc n) same = omega (arith, sum-more f n, sum-more g n, sum-same f g n (λ k low. same k (omega arith)), same n (omega arith))

-- sums of no more are no more
pub sum-le : (f g : ℕ → ℕ) (n : ℕ) → ((k : ℕ) → k < n → f k ≤ g k) → sum_by f (range_with_len 0 n) ≤ sum_by g (range_with_len 0 n)
sum-le f g zero less = omega arith
sum-le f g (suc n) less = omega (arith, sum-more f n, sum-more g n, sum-le f g n (λ k low. less k (omega arith)), less n (omega arith))

-- one is more by 1
pub sum-up :
    (f g : ℕ → ℕ) (n k : ℕ) → k < n → g k ≡ f k + 1 → ((i : ℕ) → i ≢ k → g i ≡ f i)
    → sum_by g (range_with_len 0 n) ≡ sum_by f (range_with_len 0 n) + 1
sum-up f g zero k low up others = absurd (omega (arith, low))
sum-up f g (suc n) k low up others =
    elim (cases_eq k n) [
      | inl last ↦ (
          let before = sum-same g f n (λ i below. others i (λ e. omega (arith, e, last, below))) in
          omega (arith, sum-more f n, sum-more g n, before, ap g last, ap f last, up))
      | inr apart ↦ omega (
        arith,
        sum-more f n,
        sum-more g n,
        sum-up f g n k (omega (arith, low, apart)) up others,
        others n (λ e. apart (sym e)),
      )
    ]

-- none is above 1
pub sum-most : (f : ℕ → ℕ) (n : ℕ) → ((k : ℕ) → k < n → f k ≤ 1) → sum_by f (range_with_len 0 n) ≤ n
sum-most f zero most = omega arith
sum-most f (suc n) most = omega (arith, sum-more f n, sum-most f n (λ k low. most k (omega arith)), most n (omega arith))
