-- The best node of a tree: the cheapest of those that lie in a goal.
use Rattle.plan_model.specs.Terms.{ConfigurationSpace, Contains, Goal, Point, list_any}
use Rattle.plan_model.specs.Spaces.Clearance.{Clear}
use Rattle.plan_model.specs.Trees.NodeLists.{point_of, point_at}
use Rattle.std.specs.Prelude.{ℕ, suc, ◌+◌, ◌-◌, List, [], ◌∷◌, map, min, ◌&&◌, nat_le, Bool, false, IsTrue, Option, Some, None, filter}
use Rattle.std.specs.List.{range_with_len, flat_map}
use Rattle.plan_model.specs.Geometry.Lengths.{cost_of}
use Rattle.plan_model.specs.declared.scenes.Scene.{Scene}
use Rattle.plan_model.specs.Trees.Nearness.{IsFirstLeast, first_least}
use Rattle.plan_model.specs.Trees.TreeStates.{TreeState, sum_in}

-- ---- Nodes that an edge may lead from to a point.
-- one of some nodes with a clear edge to p
pub record IsOpenTo (space : ConfigurationSpace) (points : List (Option Point)) (p : Point) (candidates : List ℕ) (i : ℕ) : Type 0 where
  pub among : Contains candidates i
  pub clear : Clear space (point_of points i) p

-- ---- The bound of a mark: the least cost of any way over it into a goal, as the heuristic of Informed RRT* (Gammell, Srinivasa and Barfoot, IROS
-- 2014), here over the lattice points of boxes. That a mark is tested by it, and not drawn by it, is this project's own.
-- the whole numbers from one to another, both with them
abbrev pub numbers_between : ℕ → ℕ → List ℕ
numbers_between low high = range_with_len low (suc high - low)

-- the lattice points of a closed box
abbrev pub points_of_goal : Goal → List Point
points_of_goal goal =
    flat_map (λ x. map (λ y. record { x = x; y = y }) (numbers_between goal.low.y goal.high.y)) (numbers_between goal.low.x goal.high.x)

-- the least of some numbers (asked only where there is one)
abbrev pub least_of : List ℕ → ℕ
least_of [] = 0
least_of (n ∷ []) = n
least_of (n ∷ m ∷ ns) = min n (least_of (m ∷ ns))

-- The bound of p: what an edge from the start to p costs, and the least that an edge from p to a lattice point of a goal costs.
unfoldable pub bound_of : Point → List Goal → Point → ℕ
bound_of start goals p = cost_of start p + least_of (map (cost_of p) (flat_map points_of_goal goals))

-- ---- best node
-- the point lies in the closed box
abbrev pub is_in_goal : Goal → Point → Bool
is_in_goal goal p = (nat_le goal.low.x p.x && nat_le p.x goal.high.x) && (nat_le goal.low.y p.y && nat_le p.y goal.high.y)

-- the point lies in one of the closed boxes
abbrev pub lies_in_goals : List Goal → Point → Bool
lies_in_goals goals p = list_any (λ goal. is_in_goal goal p) goals

-- there is a point, and it lies in one of the goals
abbrev pub is_goal_point : List Goal → Option Point → Bool
is_goal_point goals None = false
is_goal_point goals (Some p) = lies_in_goals goals p

-- the goals of a scene
abbrev pub goals_of : Scene → List Goal
goals_of scene = scene.goals

-- node n is present and lies in a goal
abbrev pub IsGoalNode : List Goal → List (Option Point) → ℕ → Type 0
IsGoalNode goals points n = IsTrue (is_goal_point goals (point_at points n))

-- n is the goal node with the least pair of sum and number
abbrev pub IsBestNode : List Goal → TreeState → ℕ → Type 0
IsBestNode goals state n = IsFirstLeast (sum_in state) (IsGoalNode goals state.points) n

-- the nodes from 0 to the limit that lie in a goal, in rising number
abbrev pub goal_nodes : List Goal → ℕ → List (Option Point) → List ℕ
goal_nodes goals limit points = filter (λ n. is_goal_point goals (point_at points n)) (range_with_len 0 (suc limit))

-- the best of the nodes from 0 to the limit, if one lies in a goal
abbrev pub best_node : List Goal → ℕ → TreeState → Option ℕ
best_node goals limit state = first_least (sum_in state) (goal_nodes goals limit state.points)
