-- Where there are no goals there is no goal node. Goal nodes stay while a tree grows, and what was present lies in a goal later only
-- if it did.
use Rattle.plan_model.proofs.Words.{◌≡◌, ℕ, List, [], Option, Some, None, sym, subst, IsTrue, Goal, Point, IsGoalNode, is_goal_point, MayBeCheaper, Setup}
use Rattle.plan_model.proofs.Words.{IsPresent, point_at, GrowsInto, TreeState}
use Rattle.plan_model.proofs.BestNodeLaws.{IsPresent-goal}
use Rattle.plan_model.proofs.TreeStateLaws.{point_at-grows}

-- a node lies in none of no goals
pub no_goal_node : (points : List (Option Point)) (n : ℕ) → ¬ IsGoalNode [] points n
no_goal_node points n goal = none (point_at points n) goal
  where
    none : (o : Option Point) → ¬ IsTrue (is_goal_point [] o)
    none None h = cc
    none (Some p) h = cc

-- so a path over any mark may be cheaper
pub MayBeCheaper-not_skipping :
    (setup : Setup) (costs : ℕ → ℕ) (points : List (Option Point)) (mark : Point) → setup.goals ≡ [] → MayBeCheaper setup costs points mark
MayBeCheaper-not_skipping setup costs points mark none i goal = absurd (no_goal_node points i (subst (λ goals. IsGoalNode goals points i) none goal))

module _ (goals : List Goal) (before after : TreeState) (grows : GrowsInto before after) (n : ℕ) where
  -- goal nodes stay
  pub IsGoalNode-grows : IsGoalNode goals before.points n → IsGoalNode goals after.points n
  IsGoalNode-grows goal =
      subst (λ o. IsTrue (is_goal_point goals o))
      (sym (point_at-grows before after grows n (IsPresent-goal goals (point_at before.points n) goal))) goal

  -- a node that was present was a goal node if it is one
  pub IsGoalNode-before : IsPresent before.points n → IsGoalNode goals after.points n → IsGoalNode goals before.points n
  IsGoalNode-before here goal = subst (λ o. IsTrue (is_goal_point goals o)) (point_at-grows before after grows n here) goal
