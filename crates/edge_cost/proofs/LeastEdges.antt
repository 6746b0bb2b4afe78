-- The point of the first so many goals that is nearest to a point, by its squared distance.
use Rattle.edge_cost.proofs.Words.{◌≡◌, ℕ, ◌+◌, ◌*◌, ◌<◌, ◌≤◌, List, get_or, length, take, arith, sym, ap, ◌∙◌, subst, inl, inr, All, IsTrue, min, max}
use Rattle.edge_cost.proofs.Words.{abs_diff, cases_lt, take_all, All-more, All-weaker, Any-from_list_any, list_any_at, Goal, Point, IsBoundedBox, cost_of}
use Rattle.edge_cost.proofs.Words.{squared_distance, is_in_goal, lies_in_goals, bound_of-is, cost_of-le, squared_distance-le, in_goal_parts}
use Rattle.plan_model.specs.Geometry.Lengths.{root_ceiling}
use Rattle.plan_model.specs.Trees.BestNode.{bound_of}

-- ---- one goal

-- a number moved into a range
abbrev pub moved : ℕ → ℕ → ℕ → ℕ
moved low high n = min (max n low) high

moved-nearest : (low high n m : ℕ) → low ≤ high → low ≤ m → m ≤ high → abs_diff n (moved low high n) ≤ abs_diff n m
moved-nearest low high n m range l h = omega arith

-- the point of a box with both coordinates moved into their ranges
abbrev pub moved_into : Goal → Point → Point
moved_into goal p = record { x = moved goal.low.x goal.high.x p.x; y = moved goal.low.y goal.high.y p.y }

pub moved_into-nearest :
    (goal : Goal) (p : Point) → IsBoundedBox goal → (z : Point) → IsTrue (is_in_goal goal z)
    → squared_distance p (moved_into goal p) ≤ squared_distance p z
moved_into-nearest goal p box z h =
    let inside = in_goal_parts goal z h in
    squared_distance-le p (moved_into goal p) z (moved-nearest goal.low.x goal.high.x p.x z.x box.across inside.left inside.right)
    (moved-nearest goal.low.y goal.high.y p.y z.y box.up inside.bottom inside.top)

-- ---- all goals

-- no point of the goal is nearer than that
abbrev pub IsNoFarther : Point → ℕ → Goal → Type 0
IsNoFarther p least goal = (z : Point) → IsTrue (is_in_goal goal z) → least ≤ squared_distance p z

-- It is the squared distance to a point of the goals, and no point of the first so many goals is nearer.
pub record IsLeastOfFirst (goals : List Goal) (p : Point) (count least : ℕ) : Type 0 where
  pub at : Point
  pub inside : IsTrue (lies_in_goals goals at)
  pub reached : least ≡ squared_distance p at
  pub below : All (IsNoFarther p least) (take count goals)

-- one goal more, with its nearest point
pub IsLeastOfFirst-next :
    (goals : List Goal) (p at : Point) (count : ℕ) (none : Goal) (least : ℕ) → count < length goals → IsTrue (is_in_goal (get_or goals count none) at)
    → IsNoFarther p (squared_distance p at) (get_or goals count none) → IsLeastOfFirst goals p count least
    → IsLeastOfFirst goals p (count + 1) (min least (squared_distance p at))
IsLeastOfFirst-next goals p at count none least below inside nearest h =
    let least_of : (n : ℕ) → n ≤ least → n ≤ squared_distance p at → All (IsNoFarther p n) (take (count + 1) goals) =
    λ n l m. All-more (IsNoFarther p n) goals count none below
    (All-weaker (IsNoFarther p least) (IsNoFarther p n) (λ goal own z i. omega (arith, own z i, l)) (take count goals) h.below)
    (λ z i. omega (arith, nearest z i, m)) in
    elim (cases_lt least (squared_distance p at)) [
      | inl less ↦ record {
        at = h.at;
        inside = h.inside;
        reached = omega (arith, h.reached, less);
        below = least_of (min least (squared_distance p at)) (omega arith) (omega arith);
      }
      | inr more ↦ record {
        at = at;
        inside = list_any_at (λ goal. is_in_goal goal at) goals count none below inside;
        reached = omega (arith, more);
        below = least_of (min least (squared_distance p at)) (omega arith) (omega arith);
      }
    ]

-- after all goals it gives the bound
pub bound_of-scanned :
    (start : Point) (goals : List Goal) (p : Point) (count least : ℕ) → count ≡ length goals → IsLeastOfFirst goals p count least
    → bound_of start goals p ≡ cost_of start p + root_ceiling (65536 * least)
bound_of-scanned start goals p count least all h =
    let whole : take count goals ≡ goals = ap (λ n. take n goals) all ∙ take_all (length goals) goals (omega arith) in
    let below : All (IsNoFarther p least) goals = subst (All (IsNoFarther p least)) whole h.below in
    let nearest : (z : Point) → IsTrue (lies_in_goals goals z) → cost_of p h.at ≤ cost_of p z =
    λ z i.
    let own = Any-from_list_any (λ goal. is_in_goal goal z) goals i in
    let goal : Goal = own.1 in
    let here : least ≤ squared_distance p z = (subst (IsNoFarther p least) own.3 (below own.0 own.1 own.2)) z own.4 in
    cost_of-le p h.at z (omega (arith, here, h.reached)) in
    bound_of-is start goals p h.at h.inside nearest ∙ ap (λ (d : ℕ). cost_of start p + root_ceiling (65536 * d)) (sym h.reached)
