-- From the first position of a path along the least rests to its end.
use Rattle.std.proofs.Common.{◌≡◌, ℕ, suc, ◌-◌, ◌<◌, List, [], ◌∷◌, ◌++◌, length, get_or, arith, refl, sym, ap, ◌∙◌, subst, append_assoc}
use Rattle.std.proofs.lemmas.List.{map-append, append-nil, get_or_read}
use Rattle.grown_runs.proofs.Common.{Point, ConfigurationSpace, path_point, kept_points, cost_of_choice, length_of_path}
use Rattle.path_tools.specs.declared.rests.Rest.{Rest}
use Rattle.path_tools.specs.SmoothPaths.{IsLeastChoice, IsSmoothed, BeginsWith, IsLeastRest, IsRestBelow, AreRestsFrom}
use Rattle.path_tools.proofs.RestLaws.{IsClearRest-inside, IsLeastRest-same, IsLeastRest-next}
use Rattle.path_tools.proofs.ClearRests.{IsLeastChoice-rest}

-- the points so far are those of the positions so far, and with the least rest from here on these are the least choice
pub record HasWalked (space : ConfigurationSpace) (path points : List Point) (at cost : ℕ) : Type 0 where
  pub behind : List ℕ
  pub ahead : List ℕ
  pub kept : points ≡ kept_points path behind
  pub onward : IsLeastRest space path (length path) at ahead
  pub least : IsLeastChoice space path (behind ++ ahead)
  pub costs : cost ≡ cost_of_choice path (behind ++ ahead)

-- a step along an entry: it leads on, and on the path
pub record Steps (space : ConfigurationSpace) (path points : List Point) (at next cost : ℕ) : Type 0 where
  pub onward : at < next
  pub inside : next < length path
  pub walked : HasWalked space path (points ++ path_point path next ∷ []) next cost

module _ (space : ConfigurationSpace) (path : List Point) where
  pub HasWalked-start : (rest : Rest) → IsRestBelow space path (length path) 0 rest → HasWalked space path (path_point path 0 ∷ []) 0 rest.cost
  HasWalked-start rest h = record {
    behind = 0 ∷ [];
    ahead = h.positions;
    kept = refl;
    onward = h.least;
    least = IsLeastChoice-rest space path h.positions h.least;
    costs = h.cost;
  }

  Steps-by : (points : List Point) (at cost j : ℕ) (behind rest : List ℕ) → points ≡ kept_points path behind
      → IsLeastRest space path (length path) at (j ∷ rest) → IsLeastChoice space path (behind ++ j ∷ rest)
      → cost ≡ cost_of_choice path (behind ++ j ∷ rest) → Steps space path points at j cost
  Steps-by points at cost j behind rest kept onward least costs =
      let all : behind ++ j ∷ rest ≡ (behind ++ j ∷ []) ++ rest = sym (append_assoc behind (j ∷ []) rest) in
      record {
        onward = onward.clear.0;
        inside = onward.below;
        walked = record {
          behind = behind ++ j ∷ [];
          ahead = rest;
          kept = ap (λ ps. ps ++ path_point path j ∷ []) kept ∙ sym (map-append (path_point path) behind (j ∷ []));
          onward = IsLeastRest-next space path at j rest onward;
          least = subst (IsLeastChoice space path) all least;
          costs = costs ∙ ap (cost_of_choice path) all;
        };
      }

  pub Steps-on : (points : List Point) (at cost : ℕ) (rest : Rest) → HasWalked space path points at cost → IsRestBelow space path (length path) at rest
      → ¬ (suc at ≡ length path) → Steps space path points at rest.next cost
  Steps-on points at cost rest w h inner = along h.positions h.least h.next (IsLeastRest-same space path (length path) at w.ahead h.positions w.onward h.least)
    where
      along : (positions : List ℕ) → IsLeastRest space path (length path) at positions → BeginsWith rest.next positions → w.ahead ≡ positions
          → Steps space path points at rest.next cost
      along [] least next same = absurd (inner least.clear)
      along (j ∷ positions) least next same =
          subst (λ k. Steps space path points at k cost) (sym next)
          (Steps-by points at cost j w.behind positions w.kept least (subst (λ c. IsLeastChoice space path (w.behind ++ c)) same w.least)
          (w.costs ∙ ap (λ c. cost_of_choice path (w.behind ++ c)) same))

  -- the same by an entry that was read in a table
  pub Steps-read : (rests : List Rest) (points : List Point) (at cost : ℕ) (entry : Rest) → AreRestsFrom space path 0 rests
      → HasWalked space path points at cost → ¬ (at ≡ length path - 1) → entry ≡ get_or rests at entry → Steps space path points at entry.next cost
  Steps-read rests points at cost entry table w inner is =
      let inside = IsClearRest-inside space path at w.ahead w.onward.clear in
      let read = get_or_read rests at entry (omega (arith, inside, table.0)) is (record { cost = 0; points = 0; next = 0 }) in
      Steps-on points at cost entry w (subst (IsRestBelow space path (length path) at) (sym read) (table.1 at (omega arith) inside))
      (λ end. inner (omega (arith, end)))

  -- at the end
  pub HasWalked-end : (points : List Point) (at cost : ℕ) → HasWalked space path points at cost → suc at ≡ length path
      → IsSmoothed space path points × (cost ≡ length_of_path points)
  HasWalked-end points at cost w is = by w.ahead w.onward w.least w.costs
    where
      by : (ahead : List ℕ) → IsLeastRest space path (length path) at ahead → IsLeastChoice space path (w.behind ++ ahead)
          → cost ≡ cost_of_choice path (w.behind ++ ahead) → IsSmoothed space path points × (cost ≡ length_of_path points)
      by [] onward least costs =
          let all = append-nil w.behind in (
            record { choice = w.behind; least = subst (IsLeastChoice space path) all least; kept = w.kept },
            costs ∙ ap (cost_of_choice path) all ∙ ap length_of_path (sym w.kept),
          )
      by (j ∷ ahead) onward least costs = absurd (omega (arith, is, onward.clear.0, onward.below))
