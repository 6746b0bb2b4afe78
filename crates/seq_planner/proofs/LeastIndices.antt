-- Scans of a list, index after index, for the first with the least key.
use Rattle.seq_planner.proofs.Words.{◌≡◌, ℕ, ◌+◌, ◌<◌, ◌≤◌, List, length, get_or, arith, ap, ◌∙◌, inl, inr, Contains, AllPairs, IsStrictlyIncreasing}
use Rattle.seq_planner.proofs.Words.{cases_order, get_or_default, AllPairs-from_increasing, IsFirstLeast, IsFirstLeastBelow, IsFirstLeastBelow-first}
use Rattle.seq_planner.proofs.Words.{IsFirstLeastBelow-keeps, IsFirstLeastBelow-takes, IsFirstLeast-scanned}

-- the best index is the first with the least key of itself and those before the limit, and has this key
pub record IsLeastIndex (key : ℕ → ℕ) (count limit best least : ℕ) : Type 0 where
  pub scanned : IsFirstLeastBelow key (λ index. index < count) limit best
  pub is : least ≡ key best

module _ (key : ℕ → ℕ) (count : ℕ) where
  -- before the scan
  pub IsLeastIndex-first : (least : ℕ) → 0 < count → least ≡ key 0 → IsLeastIndex key count 0 0 least
  IsLeastIndex-first least some is = record { scanned = IsFirstLeastBelow-first key (λ index. index < count) some; is = is }

  -- one more index, whose key is not less
  pub IsLeastIndex-keeps :
      (limit best least new : ℕ) → IsLeastIndex key count limit best least → least ≤ key limit → new ≡ least
      → IsLeastIndex key count (limit + 1) best new
  IsLeastIndex-keeps limit best least new h above is = record {
    scanned = IsFirstLeastBelow-keeps key (λ index. index < count) limit best h.scanned (omega (arith, h.is, above));
    is = is ∙ h.is;
  }

  -- one more index, whose key is less
  pub IsLeastIndex-takes :
      (limit best least new : ℕ) → IsLeastIndex key count limit best least → limit < count → new < least → new ≡ key limit
      → IsLeastIndex key count (limit + 1) limit new
  IsLeastIndex-takes limit best least new h below less is = record {
    scanned = IsFirstLeastBelow-takes key (λ index. index < count) limit best h.scanned below (omega (arith, h.is, less, is));
    is = is;
  }

  -- after the scan of all
  pub IsFirstLeast-index :
      (limit best least : ℕ) → IsLeastIndex key count limit best least → count ≤ limit → IsFirstLeast key (λ index. index < count) best
  IsFirstLeast-index limit best least h all =
      IsFirstLeast-scanned key (λ index. index < count) limit best h.scanned (λ i l. omega (arith, l, all))

-- later elements of a list in rising number are greater
later_rises : (ns : List ℕ) (i j : ℕ) → IsStrictlyIncreasing ns → i ≤ j → j < length ns → get_or ns i 0 ≤ get_or ns j 0
later_rises ns i j rising le below =
    let pairs : AllPairs (λ m n. m < n) ns = AllPairs-from_increasing ns rising in
    elim (cases_order i j) [
      | inl e ↦ omega (arith, ap (λ k. get_or ns k 0) e)
      | inr (inl before) ↦ omega (arith, pairs i j 0 before below)
      | inr (inr after) ↦ absurd (omega arith)
    ]

-- so the first index with the least key has the least pair of key and number
pub IsFirstLeast-listed :
    (key : ℕ → ℕ) (ns : List ℕ) (best : ℕ) → IsStrictlyIncreasing ns → IsFirstLeast (λ i. key (get_or ns i 0)) (λ i. i < length ns) best
    → IsFirstLeast key (Contains ns) (get_or ns best 0)
IsFirstLeast-listed key ns best rising h = record {
  member = (best, h.member, get_or_default ns best (get_or ns best 0) 0 h.member);
  not_above = λ n own. (
      let k : ℕ = own.0 in
      let number : get_or ns k 0 ≡ n = get_or_default ns k 0 n own.1 ∙ own.2 in
      record {
        least = omega (arith, ap key number, (h.not_above k own.1).least);
        first = λ e. omega (arith, number, later_rises ns best k rising ((h.not_above k own.1).first (ap key number ∙ e)) own.1);
      });
}
