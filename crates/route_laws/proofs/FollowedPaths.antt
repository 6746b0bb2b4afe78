-- A textbook run with a node at a point in a goal has a best node, and its report begins with the line of the path to it.
use Rattle.route_laws.proofs.Words.{◌≡◌, inl, inr, ℕ, Bool, true, false, cond, List, [], ◌++◌, length, Option, Some, None, refl, sym, ap, ◌∙◌, subst}
use Rattle.route_laws.proofs.Words.{append_assoc, Contains, IsTrue, All-contains, ShowsPath, HasGoalNode, IsOpenLink, IsReached, IsRoute}
use Rattle.route_laws.proofs.Common.{Goal, Point, Scene, mark_at, IsOfTextbookRun, setup_of, mark_points, ClearAt, space_of, IsGoalNode, best_node, goals_of}
use Rattle.route_laws.proofs.Common.{is_goal_point, lies_in_goals, AreNumberedTo, TreeState, sum_in, best_node-none, best_node-some, no_goal_node}
use Rattle.route_laws.proofs.Common.{numbers-closed, IsClosed-of_textbook}
use Rattle.plan_model.specs.Reports.ReportText.{best_path, counts_line, head_line, mark_lines, node_lines, path_line, path_to}
use Rattle.plan_model.specs.Reports.ReportText.{point_lines, report_text, short_report}
use Rattle.route_laws.proofs.FollowedRoutes.{IsReached-open_route}

-- the goals to skip by are goals of the scene
pub IsGoalNode-skipping : (informed : Bool) (goals : List Goal) (points : List (Option Point)) (n : ℕ) → IsGoalNode (cond informed goals []) points n
    → IsGoalNode goals points n
IsGoalNode-skipping true goals points n h = h
IsGoalNode-skipping false goals points n h = absurd (no_goal_node points n h)

module _
    (scene : Scene) (state : TreeState) (numbers : List ℕ) (k : ℕ) (clear : ClearAt (space_of scene) scene.start)
    (of_run : IsOfTextbookRun (setup_of scene) (mark_points scene) state)
    (route : IsRoute (setup_of scene) (mark_points scene) (IsOpenLink (setup_of scene)) numbers)
    (on_route : Contains numbers k) (in_goal : IsTrue (lies_in_goals (goals_of scene) (mark_at (mark_points scene) k))) where
  abbrev marks : List Point
  marks = mark_points scene

  pub HasGoalNode-route : HasGoalNode (goals_of scene) state.points
  HasGoalNode-route =
      elim (IsReached-open_route (setup_of scene) (mark_points scene) state clear of_run numbers route) [
        | inl all ↦ (
            let reached = All-contains (IsReached (mark_points scene) state.points) numbers k all on_route in
            (reached.0, subst (λ o. IsTrue (is_goal_point (goals_of scene) o)) (sym reached.2) in_goal))
        | inr goal ↦ (goal.0, IsGoalNode-skipping scene.informed scene.goals state.points goal.0 goal.1)
      ]

  numbered : AreNumberedTo (length marks) state.points
  numbered =
      numbers-closed (setup_of scene) (mark_points scene) (length marks) state
      (IsClosed-of_textbook (setup_of scene) (mark_points scene) state clear of_run)

  -- what the report begins with if node n is the best one, and what follows
  module _ (n : ℕ) (best : best_node (goals_of scene) (length marks) state ≡ Some n) where
    abbrev line : List ℕ
    line = path_line (path_to state n) (sum_in state n)

    begins_short : (rest : List ℕ) × (short_report scene (length marks) state ≡ line ++ rest)
    begins_short = (
      point_lines (best_path state (Some n)) ++ counts_line scene (length marks) state,
      ap (λ o. (head_line state o ++ point_lines (best_path state o)) ++ counts_line scene (length marks) state) best
          ∙ append_assoc line (point_lines (best_path state (Some n))) (counts_line scene (length marks) state),
    )

    begins : (full : Bool) → (rest : List ℕ) × (report_text full scene (length marks) state ≡ line ++ rest)
    begins false = begins_short
    begins true =
        let short = begins_short in (
          (short.0 ++ node_lines (length marks) state) ++ mark_lines (length marks) state,
          ap (λ text. (text ++ node_lines (length marks) state) ++ mark_lines (length marks) state) short.1
              ∙ ap (λ text. text ++ mark_lines (length marks) state) (append_assoc line short.0 (node_lines (length marks) state))
              ∙ append_assoc line (short.0 ++ node_lines (length marks) state) (mark_lines (length marks) state),
        )

    shows_best : (full : Bool) → ShowsPath full scene (length marks) state
    shows_best full = record {
      node = n;
      best = best_node-some (goals_of scene) (length marks) state n numbered best;
      rest = (begins full).0;
      begins = (begins full).1;
    }

  pub ShowsPath-route : (full : Bool) → ShowsPath full scene (length marks) state
  ShowsPath-route full = by_best (best_node (goals_of scene) (length marks) state) refl
    where
      by_best : (o : Option ℕ) → best_node (goals_of scene) (length marks) state ≡ o → ShowsPath full scene (length marks) state
      by_best None e =
          absurd (best_node-none (goals_of scene) (length marks) state numbered e HasGoalNode-route.0 HasGoalNode-route.1)
      by_best (Some n) e = shows_best n e full
