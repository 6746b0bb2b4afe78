-- The number of a list with the least pair of key and number, by the first so many of them.
use Rattle.seq_planner.proofs.Words.{◌≡◌, ℕ, ◌+◌, ◌<◌, List, get_or, length, take, ap, ◌∙◌, subst, sym, arith, All, Contains, take_all, All-contains, All-more}
use Rattle.seq_planner.proofs.Words.{All-weaker, Contains-get_or, IsFirstLeast, IsNotAbove, IsNotAbove-refl, IsNotAbove-trans}

-- it is in the list, and its pair is not above that of any of the first so many
pub record IsLeastOf (key : ℕ → ℕ) (numbers : List ℕ) (count best : ℕ) : Type 0 where
  pub member : Contains numbers best
  pub not_above : All (IsNotAbove key best) (take count numbers)

module _ (key : ℕ → ℕ) (numbers : List ℕ) where
  module _ (count best n : ℕ) (h : IsLeastOf key numbers count best) (below : count < length numbers) (is : n ≡ get_or numbers count 0) where
    -- one more that is not above it
    pub IsLeastOf-takes : IsNotAbove key n best → IsLeastOf key numbers (count + 1) n
    IsLeastOf-takes before = record {
      member = subst (Contains numbers) (sym is) (Contains-get_or numbers count 0 below);
      not_above =
          All-more (IsNotAbove key n) numbers count 0 below
          (All-weaker (IsNotAbove key best) (IsNotAbove key n) (λ i own. IsNotAbove-trans key n best i before own) (take count numbers) h.not_above)
          (subst (IsNotAbove key n) is (IsNotAbove-refl key n));
    }

    -- one more that it is not above
    pub IsLeastOf-keeps : IsNotAbove key best n → IsLeastOf key numbers (count + 1) best
    IsLeastOf-keeps before = record {
      member = h.member;
      not_above = All-more (IsNotAbove key best) numbers count 0 below h.not_above (subst (IsNotAbove key best) is before);
    }

  -- by all of them it is the least
  pub IsFirstLeast-all : (count best : ℕ) → count ≡ length numbers → IsLeastOf key numbers count best → IsFirstLeast key (Contains numbers) best
  IsFirstLeast-all count best all h =
      let whole : take count numbers ≡ numbers = ap (λ n. take n numbers) all ∙ take_all (length numbers) numbers (omega arith) in
      record {
        member = h.member;
        not_above = λ i own. All-contains (IsNotAbove key best) numbers i (subst (All (IsNotAbove key best)) whole h.not_above) own;
      }
