-- Entries of the table of least rests.
use Rattle.std.proofs.Common.{◌≡◌, ℕ, suc, ◌+◌, ◌-◌, ◌<◌, ◌≤◌, ◌⊎◌, inl, inr, List, [], ◌∷◌, length, replicate, arith, refl, sym, ap, ◌∙◌, subst}
use Rattle.std.proofs.lemmas.Bool.{cases_lt}
use Rattle.std.proofs.lemmas.List.{get_or-replicate, length-replicate}
use Rattle.grown_runs.proofs.Common.{Point, ConfigurationSpace, cost_of, Clear, path_point, IsClearPath, cost_of_choice}
use Rattle.path_tools.specs.declared.rests.Rest.{Rest}
use Rattle.path_tools.specs.SmoothPaths.{HasRoom, IsLeastRest, IsRestBelow, rest_at, AreRestsFrom}
use Rattle.path_tools.proofs.RestLaws.{IsClearRest-inside, IsLeastRest-last, IsLeastRest-straight, IsLeastRest-first, IsLeastRest-takes}
use Rattle.path_tools.proofs.RestLaws.{IsLeastRest-keeps, IsLeastRest-blocked}

-- the way on from position i by position j, and by the rest from there
pub record GoesThrough (path : List Point) (i j : ℕ) (rest through : Rest) : Type 0 where
  pub cost : through.cost ≡ rest.cost + cost_of (path_point path j) (path_point path i)
  pub bound : through.cost < rest.cost + 536870912
  pub points : through.points ≡ rest.points + 1
  pub next : through.next ≡ j

-- whether it is less than another one
abbrev pub IsLess : List Point → ℕ → ℕ → Rest → Rest → Type 0
IsLess path i j rest best =
    (rest.cost + cost_of (path_point path j) (path_point path i) < best.cost)
    ⊎ ((rest.cost + cost_of (path_point path j) (path_point path i) ≡ best.cost) × (rest.points + 1 < best.points))

module _ (space : ConfigurationSpace) (path : List Point) where
  -- an entry of a later position fits, and one segment more
  pub HasRoom-later : (limit i : ℕ) (rest : Rest) → IsRestBelow space path limit i rest → length path ≤ 4294967295 → 0 < i → HasRoom rest
  HasRoom-later limit i rest h few later = record { cost = omega (arith, h.low, few); points = omega (arith, h.few, few, later, inside) }
    where
      inside : i < length path
      inside = IsClearRest-inside space path i h.positions h.least.clear

  pub low-entry : (limit i : ℕ) (rest : Rest) → IsRestBelow space path limit i rest → length path ≤ 4294967295 → rest.cost < 2305843009213693952
  low-entry limit i rest h few = omega (arith, h.low, few)

  -- the last position
  pub IsRestBelow-last : (last : ℕ) → suc last ≡ length path → IsRestBelow space path (length path) last (record { cost = 0; points = 1; next = 0 })
  IsRestBelow-last last is = record {
    positions = [];
    least = IsLeastRest-last space path last is;
    next = tt;
    cost = refl;
    points = refl;
    low = omega arith;
    few = omega (arith, is);
  }

  -- the entry of a way through position j
  entry-through : (limit i j : ℕ) (rest through : Rest) (h : IsRestBelow space path (length path) j rest) → i < j → GoesThrough path i j rest through
      → IsLeastRest space path limit i (j ∷ h.positions) → IsRestBelow space path limit i through
  entry-through limit i j rest through h before t least = record {
    positions = j ∷ h.positions;
    least = least;
    next = t.next;
    cost = omega (arith, t.cost, h.cost);
    points = omega (arith, t.points, h.points);
    low = omega (arith, t.bound, h.low, before, inside);
    few = omega (arith, t.points, h.few, before, inside);
  }
    where
      inside : j < length path
      inside = IsClearRest-inside space path j h.positions h.least.clear

  -- the straight segment to the end
  pub IsRestBelow-straight : (last i : ℕ) (rest through : Rest) → suc last ≡ length path → i < last → Clear space (path_point path i) (path_point path last)
      → IsRestBelow space path (length path) last rest → GoesThrough path i last rest through → IsRestBelow space path (length path) i through
  IsRestBelow-straight last i rest through is before clear h t = entry-through (length path) i last rest through h before t (of h.positions h.least)
    where
      of : (positions : List ℕ) → IsLeastRest space path (length path) last positions → IsLeastRest space path (length path) i (last ∷ positions)
      of [] least = IsLeastRest-straight space path last i is before clear
      of (j ∷ positions) least = absurd (omega (arith, is, least.clear.0, least.below))

  -- the next position alone
  pub IsRestBelow-first : (i : ℕ) (rest through : Rest) → Clear space (path_point path i) (path_point path (suc i))
      → IsRestBelow space path (length path) (suc i) rest → GoesThrough path i (suc i) rest through → IsRestBelow space path (suc (suc i)) i through
  IsRestBelow-first i rest through clear h t =
      entry-through (suc (suc i)) i (suc i) rest through h (omega arith) t (IsLeastRest-first space path i h.positions h.least clear)

  -- one position more, to which the segment is not clear
  pub IsRestBelow-blocked : (limit i : ℕ) (best : Rest) → IsRestBelow space path limit i best → ¬ Clear space (path_point path i) (path_point path limit)
      → IsRestBelow space path (suc limit) i best
  IsRestBelow-blocked limit i best b blocked = record {
    positions = b.positions;
    least = IsLeastRest-blocked space path limit i b.positions b.least blocked;
    next = b.next;
    cost = b.cost;
    points = b.points;
    low = b.low;
    few = b.few;
  }

  module _ (limit i : ℕ) (best rest : Rest) (b : IsRestBelow space path limit i best) where
    -- one that is not less
    pub IsRestBelow-keeps : i < limit → IsRestBelow space path (length path) limit rest → ¬ IsLess path i limit rest best
        → IsRestBelow space path (suc limit) i best
    IsRestBelow-keeps before h none = record {
      positions = b.positions;
      least = of b.positions b.least b.cost b.points;
      next = b.next;
      cost = b.cost;
      points = b.points;
      low = b.low;
      few = b.few;
    }
      where
        of : (positions : List ℕ) → IsLeastRest space path limit i positions → best.cost ≡ cost_of_choice path (i ∷ positions)
            → best.points ≡ length (i ∷ positions) → IsLeastRest space path (suc limit) i positions
        of [] least cost points = absurd (omega (arith, least.clear, before, IsClearRest-inside space path limit h.positions h.least.clear))
        of (j ∷ positions) least cost points = IsLeastRest-keeps space path limit i j positions h.positions least h.least (λ less. none (less_by less))
          where
            less_by : (cost_of_choice path (i ∷ limit ∷ h.positions) < cost_of_choice path (i ∷ j ∷ positions))
                ⊎ ((cost_of_choice path (i ∷ limit ∷ h.positions) ≡ cost_of_choice path (i ∷ j ∷ positions))
                × (length (i ∷ limit ∷ h.positions) < length (i ∷ j ∷ positions)))
                → IsLess path i limit rest best
            less_by (inl less) = inl (omega (arith, less, cost, h.cost))
            less_by (inr fewer) = inr (omega (arith, fewer.0, cost, h.cost), omega (arith, fewer.1, points, h.points))

    -- one that is less, to which the segment is clear
    pub IsRestBelow-takes : (through : Rest) → i < limit → IsRestBelow space path (length path) limit rest → IsLess path i limit rest best
        → Clear space (path_point path i) (path_point path limit) → GoesThrough path i limit rest through → IsRestBelow space path (suc limit) i through
    IsRestBelow-takes through before h less clear t =
        entry-through (suc limit) i limit rest through h before t
        (IsLeastRest-takes space path limit i b.positions h.positions b.least h.least before clear (less_by less))
      where
        less_by : IsLess path i limit rest best
            → (cost_of_choice path (i ∷ limit ∷ h.positions) < cost_of_choice path (i ∷ b.positions))
            ⊎ ((cost_of_choice path (i ∷ limit ∷ h.positions) ≡ cost_of_choice path (i ∷ b.positions))
            × (length (i ∷ limit ∷ h.positions) < length (i ∷ b.positions)))
        less_by (inl less) = inl (omega (arith, less, b.cost, h.cost))
        less_by (inr fewer) = inr (omega (arith, fewer.0, b.cost, h.cost), omega (arith, fewer.1, b.points, h.points))

  -- the next position, of a clear path
  pub first-entry : (i j limit : ℕ) (rest through : Rest) → suc i ≡ j → suc j ≡ limit → IsClearPath space path → j < length path
      → IsRestBelow space path (length path) j rest → GoesThrough path i j rest through → IsRestBelow space path limit i through
  first-entry i j limit rest through one two path_clear inside h t =
      subst (λ m. IsRestBelow space path m i through) two (at j one h t)
    where
      at : (k : ℕ) → suc i ≡ k → IsRestBelow space path (length path) k rest → GoesThrough path i k rest through → IsRestBelow space path (suc k) i through
      at k e =
          subst (λ k. IsRestBelow space path (length path) k rest → GoesThrough path i k rest through → IsRestBelow space path (suc k) i through) e
          (λ r t. IsRestBelow-first i rest through (path_clear.clear i (omega (arith, one, inside))) r t)

  -- all positions but the last, to which the segment is not clear
  pub end-entry : (last i limit : ℕ) (best : Rest) → suc last ≡ length path → IsClearPath space path → i < last
      → ¬ Clear space (path_point path i) (path_point path last) → (suc (suc i) ≤ last → limit ≡ last)
      → IsRestBelow space path limit i best → IsRestBelow space path (length path) i best
  end-entry last i limit best is path_clear before blocked at b =
      elim (cases_lt (suc i) last) [
        | inl far ↦ (
            subst (λ n. IsRestBelow space path n i best) is
            (IsRestBelow-blocked last i best (subst (λ n. IsRestBelow space path n i best) (at (omega (arith, far))) b) blocked))
        | inr near ↦ (
            let next : suc i ≡ last = omega (arith, near, before) in
            absurd (blocked (subst (λ k. Clear space (path_point path i) (path_point path k)) next (path_clear.clear i (omega (arith, is, before))))))
      ]

  -- the table before it has an entry but the last one
  pub AreRestsFrom-last : (rests : List Rest) → 0 < length path → rests ≡ replicate (length path) (record { cost = 0; points = 1; next = 0 })
      → AreRestsFrom space path (length path - 1) rests
  AreRestsFrom-last rests some is = (ap length is ∙ length-replicate (length path) _, entries)
    where
      entries : (k : ℕ) → length path - 1 ≤ k → k < length path → IsRestBelow space path (length path) k (rest_at rests k)
      entries k low inside =
          let last : suc k ≡ length path = omega (arith, low, inside) in
          let here : rest_at rests k ≡ record { cost = 0; points = 1; next = 0 } =
          ap (λ rs. rest_at rs k) is ∙ get_or-replicate (length path) k _ _ inside in
          subst (IsRestBelow space path (length path) k) (sym here) (IsRestBelow-last k last)
