-- Where a node of a list stands in the tree of the list.
use Rattle.report_judge.proofs.Words.{◌≡◌, ℕ, List, Option, Some, None, sym, ap, ◌∙◌, is_some, option_map, slice_index_or, Goal, Point, Record, Knot}
use Rattle.report_judge.proofs.Words.{is_goal_point, lies_in_goals, IsPresent, StandsAt, point_at, point_of, IsPresent-stands, point_of-stands, state_of_lists}
use Rattle.report_judge.proofs.Words.{point_at-lists, refl, Bool, [], cond, false, true}

-- the point of a node of the list
abbrev point_in : Option Knot → Option Point
point_in o = option_map (λ (knot : Knot). knot.point) o

is_some-point_in : (o : Option Knot) → is_some (point_in o) ≡ is_some o
is_some-point_in None = refl
is_some-point_in (Some knot) = refl

-- a present node is one of the list
pub record IsListed (knots : List (Option Knot)) (n : ℕ) : Type 0 where
  pub knot : Knot
  pub at : slice_index_or knots n None ≡ Some knot

module _ (knots : List (Option Knot)) (records : List Record) (n : ℕ) where
  abbrev points : List (Option Point)
  points = (state_of_lists knots records).points

  pub stands-listed : (knot : Knot) → slice_index_or knots n None ≡ Some knot → StandsAt points n knot.point
  stands-listed knot e = point_at-lists knots n ∙ ap point_in e

  pub present-listed : (knot : Knot) → slice_index_or knots n None ≡ Some knot → IsPresent points n
  present-listed knot e = IsPresent-stands points n knot.point (stands-listed knot e)

  pub point_of-listed : (knot : Knot) → slice_index_or knots n None ≡ Some knot → point_of points n ≡ knot.point
  point_of-listed knot e = point_of-stands points n knot.point (stands-listed knot e)

  pub same-listed : (knot : Knot) (p : Point) → slice_index_or knots n None ≡ Some knot → StandsAt points n p → knot.point ≡ p
  same-listed knot p e stands = let both : Some knot.point ≡ Some p = sym (stands-listed knot e) ∙ stands in cc

  absent-listed : slice_index_or knots n None ≡ None → point_at points n ≡ None
  absent-listed e = point_at-lists knots n ∙ ap point_in e

  pub none-stands : (p : Point) → slice_index_or knots n None ≡ None → StandsAt points n p → ⊥
  none-stands p e stands = let gone = sym (absent-listed e) ∙ stands in cc

  pub none-present : slice_index_or knots n None ≡ None → IsPresent points n → ⊥
  none-present e here = let gone = sym here ∙ ap is_some (absent-listed e) in cc

  pub some-listed : is_some (point_at points n) ≡ is_some (slice_index_or knots n None)
  some-listed = ap is_some (point_at-lists knots n) ∙ is_some-point_in (slice_index_or knots n None)

  pub listed : IsPresent points n → IsListed knots n
  listed here = by_knot (slice_index_or knots n None) refl
    where
      by_knot : (o : Option Knot) → slice_index_or knots n None ≡ o → IsListed knots n
      by_knot None e = absurd (none-present e here)
      by_knot (Some knot) e = record { knot = knot; at = e }

  pub goal-listed : (goals : List Goal) (knot : Knot) → slice_index_or knots n None ≡ Some knot
      → lies_in_goals goals knot.point ≡ is_goal_point goals (point_at points n)
  goal-listed goals knot e = ap (is_goal_point goals) (sym (stands-listed knot e))

  pub goal-none : (goals : List Goal) → slice_index_or knots n None ≡ None → is_goal_point goals (point_at points n) ≡ is_goal_point goals None
  goal-none goals e = ap (is_goal_point goals) (absent-listed e)

-- a point lies in a goal by which marks are skipped only if the scene is informed
pub informed_by_goal : (informed : Bool) (goals : List Goal) (o : Option Point) → is_goal_point (cond informed goals []) o ≡ true → informed ≡ true
informed_by_goal true goals o h = refl
informed_by_goal false goals None h = cc
informed_by_goal false goals (Some p) h = cc
