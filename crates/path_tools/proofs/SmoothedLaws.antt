-- The smoothed path is one, and it is clear.
use Rattle.std.proofs.Common.{◌≡◌, List, sym, ap, ◌∙◌, subst}
use Rattle.grown_runs.proofs.Common.{Point, ConfigurationSpace, IsClearPath, kept_points}
use Rattle.path_tools.specs.SmoothPaths.{IsSmoothed}
use Rattle.path_tools.proofs.RestLaws.{IsChoiceNotAbove-same}

pub IsSmoothed-same : (space : ConfigurationSpace) (path a b : List Point) → IsSmoothed space path a → IsSmoothed space path b → a ≡ b
IsSmoothed-same space path a b one other =
    let first = one.least.not_above other.choice other.least.member in
    let second = other.least.not_above one.choice one.least.member in
    one.kept ∙ ap (kept_points path) (IsChoiceNotAbove-same path one.choice other.choice first second) ∙ sym other.kept

pub IsClearPath-smoothed : (space : ConfigurationSpace) (path smoothed : List Point) → IsSmoothed space path smoothed → IsClearPath space smoothed
IsClearPath-smoothed space path smoothed h = subst (IsClearPath space) (sym h.kept) h.least.member.clear
