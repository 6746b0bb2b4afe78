-- Clear choices of positions, as clear rests of the first one, and points of clear paths.
use Rattle.std.proofs.Common.{◌≡◌, ℕ, zero, suc, ◌<◌, List, [], ◌∷◌, length, arith, refl, sym, subst}
use Rattle.grown_runs.proofs.Common.{Point, ConfigurationSpace, IsBounded, Clear, path_point, IsClearPath, RiseToLast, kept_points}
use Rattle.swept_check.proofs.BoundedSegments.{IsBounded-clear}
use Rattle.path_tools.specs.SmoothPaths.{IsClearChoice, IsLeastChoice, IsChoiceNotAbove, IsClearRest, IsLeastRest}
use Rattle.path_tools.proofs.RestLaws.{BeginsBelow-inside}

module _ (space : ConfigurationSpace) where
  -- the first segment of a clear path, and the others
  IsClearPath-parts : (p q : Point) (path : List Point) → IsClearPath space (p ∷ q ∷ path) → Clear space p q × IsClearPath space (q ∷ path)
  IsClearPath-parts p q path h = (h.clear 0 (omega arith), record { clear = λ i low. h.clear (suc i) (omega (arith, low)) })

  IsClearPath-more : (p q : Point) (path : List Point) → Clear space p q → IsClearPath space (q ∷ path) → IsClearPath space (p ∷ q ∷ path)
  IsClearPath-more p q path edge h = record { clear = clear }
    where
      clear : (i : ℕ) → suc i < length (p ∷ q ∷ path) → Clear space (path_point (p ∷ q ∷ path) i) (path_point (p ∷ q ∷ path) (suc i))
      clear zero low = edge
      clear (suc i) low = h.clear i (omega (arith, low))

  -- each point of a clear path is within bounds, if there are two
  pub IsBounded-on_path : (path : List Point) → IsBounded space.room → IsClearPath space path → 1 < length path → (k : ℕ) → k < length path
      → IsBounded (path_point path k)
  IsBounded-on_path path room h two zero low = (IsBounded-clear space (path_point path 0) (path_point path 1) room (h.clear 0 two)).0
  IsBounded-on_path path room h two (suc k) low = (IsBounded-clear space (path_point path k) (path_point path (suc k)) room (h.clear k low)).1

module _ (space : ConfigurationSpace) (path : List Point) where
  IsClearRest-chosen : (i : ℕ) (rest : List ℕ) → RiseToLast (length path) i rest → IsClearPath space (kept_points path (i ∷ rest))
      → IsClearRest space path i rest
  IsClearRest-chosen i [] h clear = h
  IsClearRest-chosen i (j ∷ rest) h clear =
      let parts = IsClearPath-parts space (path_point path i) (path_point path j) (kept_points path rest) clear in
      (h.0, parts.0, IsClearRest-chosen j rest h.1 parts.1)

  RiseToLast-clear : (i : ℕ) (rest : List ℕ) → IsClearRest space path i rest → RiseToLast (length path) i rest
  RiseToLast-clear i [] h = h
  RiseToLast-clear i (j ∷ rest) h = (h.0, RiseToLast-clear j rest h.2)

  IsClearPath-clear : (i : ℕ) (rest : List ℕ) → IsClearRest space path i rest → IsClearPath space (kept_points path (i ∷ rest))
  IsClearPath-clear i [] h = record { clear = λ k low. absurd (omega (arith, low)) }
  IsClearPath-clear i (j ∷ rest) h =
      IsClearPath-more space (path_point path i) (path_point path j) (kept_points path rest) h.1 (IsClearPath-clear j rest h.2)

  -- the least rest of the first position gives the least choice
  pub IsLeastChoice-rest : (rest : List ℕ) → IsLeastRest space path (length path) 0 rest → IsLeastChoice space path (0 ∷ rest)
  IsLeastChoice-rest rest h = record {
    member = record { chosen = (refl, RiseToLast-clear 0 rest h.clear); clear = IsClearPath-clear 0 rest h.clear };
    not_above = not_above;
  }
    where
      not_above : (other : List ℕ) → IsClearChoice space path other → IsChoiceNotAbove path (0 ∷ rest) other
      not_above [] clear = absurd clear.chosen
      not_above (i ∷ other) clear =
          let on = IsClearRest-chosen i other clear.chosen.1 clear.clear in
          let same : 0 ≡ i = sym clear.chosen.0 in
          let from_first = subst (λ k. IsClearRest space path k other) clear.chosen.0 on in
          subst (λ k. IsChoiceNotAbove path (0 ∷ rest) (k ∷ other)) same
          (h.not_above other from_first (BeginsBelow-inside space path 0 other from_first))
