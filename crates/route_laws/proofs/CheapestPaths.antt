-- A run with a goal node that costs so much at most has a best node whose sum is no more: where a route of near links leads into a goal, and
-- where a mark is skipped.
use Rattle.route_laws.proofs.Words.{◌≡◌, inl, inr, ℕ, ◌≤◌, Bool, true, false, cond, List, [], length, map, Option, Some, arith, refl, sym, subst, IsTrue}
use Rattle.route_laws.proofs.Words.{EndApart, IsNearLink, cost_of_route, end_of, IsRoute}
use Rattle.route_laws.proofs.Common.{Goal, Point, Scene, Skipped, Record, ending_as, IsClosed, mark_at, HasLawfulEnding, IsOfTextbookRun, Setup, setup_of}
use Rattle.route_laws.proofs.Common.{mark_points, ClearAt, space_of, IsGoalNode, best_node, goals_of, is_goal_point, lies_in_goals, point_at}
use Rattle.route_laws.proofs.Common.{IsSettled, TreeState, sum_in, IsPresent-goal, numbers-closed, no_goal_node}
use Rattle.route_laws.proofs.Common.{IsClosed-of_textbook, IsSettled-of_textbook}
use Rattle.plan_model.specs.Trees.BestNode.{bound_of}
use Rattle.route_laws.proofs.ChainCosts.{best_within}
use Rattle.route_laws.proofs.FollowedPaths.{IsGoalNode-skipping}
use Rattle.route_laws.proofs.RouteCosts.{CostsWithin-route}

-- where there are goals to skip by, they are those of the scene
lies_to_skip : (informed : Bool) (goals : List Goal) (points : List (Option Point)) (z : Point) → IsTrue (lies_in_goals goals z) → (g : ℕ)
    → IsGoalNode (cond informed goals []) points g → IsTrue (lies_in_goals (cond informed goals []) z)
lies_to_skip true goals points z lies g goal = lies
lies_to_skip false goals points z lies g goal = absurd (no_goal_node points g goal)

-- a goal node that costs so much at most in a settled run, and the best one
best_settled :
    (setup : Setup) (marks : List Point) (limit : ℕ) (state : TreeState) → IsClosed setup marks limit state → IsSettled state
    → (goals : List Goal) (n : ℕ) → IsGoalNode goals state.points n → (total : ℕ) → state.cost n ≤ total
    → (best : ℕ) × (best_node goals limit state ≡ Some best) × (sum_in state best ≤ total)
best_settled setup marks limit state closed settled goals n goal total within =
    best_within goals limit state (numbers-closed setup marks limit state closed) n goal total
    (omega (arith, settled n (IsPresent-goal goals (point_at state.points n) goal), within))

module _
    (scene : Scene) (state : TreeState) (numbers : List ℕ) (clear : ClearAt (space_of scene) scene.start)
    (of_run : IsOfTextbookRun (setup_of scene) (mark_points scene) state)
    (route : IsRoute (setup_of scene) (mark_points scene) (IsNearLink (setup_of scene) (mark_points scene)) numbers)
    (apart : EndApart state.record_of numbers)
    (lies : IsTrue (lies_in_goals (goals_of scene) (end_of scene.start (map (mark_at (mark_points scene)) numbers)))) where
  abbrev limit : ℕ
  limit = length (mark_points scene)

  abbrev total : ℕ
  total = cost_of_route (setup_of scene) (mark_points scene) numbers

  -- a goal node that costs no more than the route
  cheap_goal_node : (n : ℕ) × IsGoalNode (goals_of scene) state.points n × (state.cost n ≤ total)
  cheap_goal_node =
      let z : Point = end_of scene.start (map (mark_at (mark_points scene)) numbers) in
      let costs =
      CostsWithin-route (setup_of scene) (mark_points scene) state clear of_run numbers route apart
      (lies_to_skip scene.informed scene.goals state.points z lies) in
      elim (costs.place) [
        | inl stands ↦ (costs.node, subst (λ o. IsTrue (is_goal_point (goals_of scene) o)) (sym stands) lies, costs.within)
        | inr goal ↦ (costs.node, IsGoalNode-skipping scene.informed scene.goals state.points costs.node goal, costs.within)
      ]

  pub best_within_route : (best : ℕ) × (best_node (goals_of scene) limit state ≡ Some best) × (sum_in state best ≤ total)
  best_within_route =
      best_settled (setup_of scene) (mark_points scene) limit state (IsClosed-of_textbook (setup_of scene) (mark_points scene) state clear of_run)
      (IsSettled-of_textbook (setup_of scene) (mark_points scene) state clear of_run) (goals_of scene) cheap_goal_node.0 cheap_goal_node.1 total
      cheap_goal_node.2

-- ---- a skipped mark

-- the bound by the goals to skip by is that by the goals of the scene, if there is a node in one
bound_to_skip : (informed : Bool) (goals : List Goal) (start p : Point) (points : List (Option Point)) (g : ℕ)
    → IsGoalNode (cond informed goals []) points g → bound_of start (cond informed goals []) p ≡ bound_of start goals p
bound_to_skip true goals start p points g goal = refl
bound_to_skip false goals start p points g goal = absurd (no_goal_node points g goal)

pub best_within_bound :
    (scene : Scene) (limit : ℕ) (state : TreeState) (k : ℕ) (entry : Record) → IsClosed (setup_of scene) (mark_points scene) limit state
    → IsSettled state → state.record_of k ≡ Some entry → entry.outcome ≡ Skipped
    → (best : ℕ) × (best_node (goals_of scene) limit state ≡ Some best)
    × (sum_in state best ≤ bound_of scene.start (goals_of scene) (mark_at (mark_points scene) k))
best_within_bound scene limit state k entry closed settled recorded skipped =
    let mark : Point = mark_at (mark_points scene) k in
    let lawful = subst (λ o. HasLawfulEnding (setup_of scene) state k mark entry (ending_as entry o)) skipped (closed.lawful k entry recorded) in
    let bound = bound_to_skip scene.informed scene.goals scene.start mark state.points entry.nearest lawful.goal in
    let in_goal = IsGoalNode-skipping scene.informed scene.goals state.points entry.nearest lawful.goal in
    best_settled (setup_of scene) (mark_points scene) limit state closed settled (goals_of scene) entry.nearest in_goal
    (bound_of scene.start (goals_of scene) mark) (omega (arith, lawful.within, bound))
