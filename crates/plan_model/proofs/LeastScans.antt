-- Scans for the first least pair of key and number, one number after another.
use Rattle.plan_model.proofs.Words.{ℕ, ◌+◌, ◌<◌, ◌≤◌, arith, below_more, IsNotAbove, IsFirstLeast}

-- m has the least pair of itself and the members below the limit
pub record IsFirstLeastBelow (key : ℕ → ℕ) (among : ℕ → Type 0) (limit m : ℕ) : Type 0 where
  pub member : among m
  pub not_above : (i : ℕ) → i < limit → among i → IsNotAbove key m i
  pub below : m ≤ limit

module _ (key : ℕ → ℕ) (among : ℕ → Type 0) where
  -- before the scan
  pub IsFirstLeastBelow-first : among 0 → IsFirstLeastBelow key among 0 0
  IsFirstLeastBelow-first h = record { member = h; not_above = λ i l own. absurd (omega arith); below = omega arith }

  -- one more member, whose key is not less
  pub IsFirstLeastBelow-keeps : (limit m : ℕ) → IsFirstLeastBelow key among limit m → key m ≤ key limit → IsFirstLeastBelow key among (limit + 1) m
  IsFirstLeastBelow-keeps limit m h least = record {
    member = h.member;
    not_above = below_more (λ i. among i → IsNotAbove key m i) limit h.not_above (λ own. record { least = least; first = λ e. h.below });
    below = omega (arith, h.below);
  }

  -- one more member, whose key is less
  pub IsFirstLeastBelow-takes :
      (limit m : ℕ) → IsFirstLeastBelow key among limit m → among limit → key limit < key m → IsFirstLeastBelow key among (limit + 1) limit
  IsFirstLeastBelow-takes limit m h own less = record {
    member = own;
    not_above = below_more (λ i. among i → IsNotAbove key limit i) limit
        (λ i l p. record { least = omega (arith, (h.not_above i l p).least); first = λ e. absurd (omega (arith, (h.not_above i l p).least)) })
        (λ p. record { least = omega arith; first = λ e. omega arith });
    below = omega arith;
  }

  -- after the scan of all members
  pub IsFirstLeast-scanned : (limit m : ℕ) → IsFirstLeastBelow key among limit m → ((i : ℕ) → among i → i < limit) → IsFirstLeast key among m
  IsFirstLeast-scanned limit m h all = record { member = h.member; not_above = λ i own. h.not_above i (all i own) own }
