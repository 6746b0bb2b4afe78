-- The best node of a tree is the goal node with the least pair of sum and number, and there is one if there is a goal node.
use Rattle.plan_model.proofs.Words.{◌≡◌, ℕ, suc, ◌<◌, List, Option, Some, None, arith, refl, Bool, IsTrue, IsSome, Point, Goal, point_at, AreNumberedTo}
use Rattle.plan_model.proofs.Words.{TreeState, sum_in, is_goal_point, IsGoalNode, IsBestNode, best_node}
use Rattle.plan_model.proofs.LeastPairLaws.{
  IsBelowPassing,
  IsFirstLeast-among,
  first_least-some,
  first_least-none,
  first_least-from_least,
  first_least-from_none,
}

-- a goal node is present
pub IsPresent-goal : (goals : List Goal) (o : Option Point) → IsTrue (is_goal_point goals o) → IsSome o
IsPresent-goal goals None h = cc
IsPresent-goal goals (Some p) h = refl

-- a goal node is among the numbers up to the limit, if all nodes are
IsGoalNode-below :
    (goals : List Goal) (limit : ℕ) (points : List (Option Point)) (n : ℕ) → AreNumberedTo limit points → IsGoalNode goals points n → n < suc limit
IsGoalNode-below goals limit points n numbered h = omega (arith, numbered n (IsPresent-goal goals (point_at points n) h))

-- node n lies in the goal, as a test
goal_test : List Goal → TreeState → ℕ → Bool
goal_test goals state n = is_goal_point goals (point_at state.points n)

-- the best node has the least pair among the goal nodes
pub best_node-some : (goals : List Goal) (limit : ℕ) (state : TreeState) (n : ℕ) → AreNumberedTo limit state.points
    → best_node goals limit state ≡ Some n → IsBestNode goals state n
unfolding goal_test
best_node-some goals limit state n numbered e =
    IsFirstLeast-among (sum_in state) (IsBelowPassing (goal_test goals state) (suc limit)) (IsGoalNode goals state.points) n
    (λ i h. h.1) (λ i h. (IsGoalNode-below goals limit state.points i numbered h, h))
    (first_least-some (sum_in state) (goal_test goals state) (suc limit) n e)

-- there is none only if no node lies in the goal
pub best_node-none : (goals : List Goal) (limit : ℕ) (state : TreeState) → AreNumberedTo limit state.points
    → best_node goals limit state ≡ None → (n : ℕ) → ¬ IsGoalNode goals state.points n
unfolding goal_test
best_node-none goals limit state numbered e n h =
    first_least-none (sum_in state) (goal_test goals state) (suc limit) e n (IsGoalNode-below goals limit state.points n numbered h, h)

-- the goal node with the least pair is the best node
pub best_node-from_best : (goals : List Goal) (limit : ℕ) (state : TreeState) (n : ℕ) → AreNumberedTo limit state.points
    → IsBestNode goals state n → best_node goals limit state ≡ Some n
unfolding goal_test
best_node-from_best goals limit state n numbered h =
    first_least-from_least (sum_in state) (goal_test goals state) (suc limit) n
    (IsFirstLeast-among (sum_in state) (IsGoalNode goals state.points) (IsBelowPassing (goal_test goals state) (suc limit)) n
    (λ i own. (IsGoalNode-below goals limit state.points i numbered own, own)) (λ i own. own.1) h)

-- if no node lies in the goal, there is none
pub best_node-from_none :
    (goals : List Goal) (limit : ℕ) (state : TreeState) → ((n : ℕ) → ¬ IsGoalNode goals state.points n) → best_node goals limit state ≡ None
unfolding goal_test
best_node-from_none goals limit state h =
    first_least-from_none (sum_in state) (goal_test goals state) (suc limit) (λ n own. h n own.1)
