-- Near nodes that were found in any order, each once, are the near nodes in rising number once they are sorted.
use Rattle.kd_shared.proofs.Words.{◌≡◌, ℕ, ◌+◌, ◌*◌, ◌≤◌, Bool, true, false, eqb, List, length, Option, Some, None, arith, refl, sym, ap, ◌∙◌, Contains, nat_le}
use Rattle.kd_shared.proofs.Words.{IsDistinct, range_with_len, IsNonDecreasing, IsPermutation, IsStrictlyIncreasing, nat_cmp, leb-false, leb-true, All-contains}
use Rattle.kd_shared.proofs.Words.{filter_passes, get_or-range_with_len, length-range_with_len, IsStrictlyIncreasing-filter, Contains-permutation}
use Rattle.kd_shared.proofs.Words.{IsPermutation-sym, IsDistinct-IsPermutation, IsStrictlyIncreasing-from_distinct, sorted_from_strictly_increasing}
use Rattle.kd_shared.proofs.Words.{IsStrictlySortedBy, Point, squared_distance, is_within, near, point_at, Sight, Contains-near, Contains-number, eqb-swap}
use Rattle.kd_shared.proofs.Words.{same_numbers, numbers_of, Found, AreGathered, AreNearSeen}

-- ---- near nodes

-- a point is within r if its squared distance is at most that of r,
pub is_within-near : (p : Point) (r : ℕ) (q : Point) → squared_distance q p ≤ r * r → is_within p r (Some q) ≡ true
is_within-near p r q close = by_test (nat_le (squared_distance q p) (r * r)) refl
  where
    by_test : (b : Bool) → nat_le (squared_distance q p) (r * r) ≡ b → nat_le (squared_distance q p) (r * r) ≡ true
    by_test true e = e
    by_test false e = absurd (omega (arith, close, leb-false (squared_distance q p) (r * r) e))

-- and only then
pub is_within-close : (p : Point) (r : ℕ) (o : Option Point) → is_within p r o ≡ true
    → (q : Point) × (o ≡ Some q) × (squared_distance q p ≤ r * r)
is_within-close p r None e = cc
is_within-close p r (Some q) e = (q, refl, leb-true (squared_distance q p) (r * r) e)

IsStrictlyIncreasing-range : (n : ℕ) → IsStrictlyIncreasing (range_with_len 0 n)
IsStrictlyIncreasing-range n = λ k l.
    let m = length-range_with_len 0 n in
    omega (arith, get_or-range_with_len 0 n k 0 (omega arith), get_or-range_with_len 0 n (k + 1) 0 (omega arith))

module _ (points : List (Option Point)) (p : Point) (r : ℕ) where
  pub near-increases : IsStrictlyIncreasing (near points p r)
  near-increases =
      IsStrictlyIncreasing-filter (λ n. is_within p r (point_at points n)) (range_with_len 0 (length points)) (IsStrictlyIncreasing-range (length points))

  near-rises : IsStrictlySortedBy nat_cmp (near points p r)
  near-rises = sorted_from_strictly_increasing (near points p r) near-increases

  pub near-within : (n : ℕ) → Contains (near points p r) n → is_within p r (point_at points n) ≡ true
  near-within n =
      All-contains (λ m. is_within p r (point_at points m) ≡ true) (near points p r) n
      (filter_passes (λ m. is_within p r (point_at points m)) (range_with_len 0 (length points)))

  -- Exactly the near nodes were found, each once; the list is sorted.
  pub near-sorted : (found list : List ℕ) → IsDistinct eqb found → IsPermutation found list → IsNonDecreasing list
      → ((n : ℕ) → Contains found n → is_within p r (point_at points n) ≡ true)
      → ((n : ℕ) → is_within p r (point_at points n) ≡ true → Contains found n) → list ≡ near points p r
  near-sorted found list once moved sorted only all =
      let distinct = IsDistinct-IsPermutation eqb eqb-swap found list moved once in
      let rising = IsStrictlyIncreasing-from_distinct list sorted distinct in
      same_numbers list (near points p r) (sorted_from_strictly_increasing list rising) near-rises
      (λ n own. Contains-near points p r n (only n (Contains-permutation list found n (IsPermutation-sym found list moved) own)))
      (λ n own. Contains-permutation found list n moved (all n (near-within n own)))

-- The list of what a search gathered, once it is sorted.
pub AreNearSeen-gathered : (before after : Sight) (p : Point) (r : ℕ) (found : List Found) (list : List ℕ) → AreGathered before after p r found
    → IsPermutation (numbers_of found) list → IsNonDecreasing list → AreNearSeen before after p r list
AreNearSeen-gathered before after p r found list h moved sorted = record {
  all = near-sorted after.seen.points p r (numbers_of found) list h.once moved sorted only h.all;
  swept = h.swept;
}
  where
    only : (n : ℕ) → Contains (numbers_of found) n → is_within p r (point_at after.seen.points n) ≡ true
    only n k =
        let own = Contains-number found n k in
        let here = h.only own.0 own.1 in
        ap (λ m. is_within p r (point_at after.seen.points m)) (sym own.2) ∙ ap (is_within p r) here.1
        ∙ is_within-near p r here.0 (omega (arith, here.2, here.3))
