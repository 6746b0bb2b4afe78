-- The best node, and reports of small trees, for every scene with the goal that is named.
use Rattle.std.specs.Prelude.{ℕ, ◌≡◌, true, false, Option, Some, None, List, [], ◌∷◌, ◌++◌, codes}
use Rattle.plan_model.specs.declared.records.Record.{Record}
use Rattle.plan_model.specs.Runs.Endings.{NewNode, SameNode, NoWay, Steered, SkippedBy, record_of_ending}
use Rattle.plan_model.specs.Terms.{Goal, Twig}
use Rattle.plan_model.specs.declared.scenes.Scene.{Scene}
use Rattle.plan_model.specs.Trees.TreeStates.{state_of}
use Rattle.plan_model.specs.Trees.BestNode.{is_in_goal, lies_in_goals, goals_of, best_node}
use Rattle.plan_model.specs.Reports.ReportText.{short_report, full_report}
use Rattle.plan_model.specs.Vectors.Geometry.{at}

-- ---- Records of worked runs: each by its worker, the worker's turn and what became of the mark.
-- of a mark that was placed
abbrev pub placed_by : ℕ → ℕ → ℕ → ℕ → ℕ → ℕ → Record
placed_by worker turn nearest parent cost class =
    record_of_ending worker turn (Steered nearest (NewNode (record { parent = parent; cost = cost; class = class })))

-- by worker 0 in its turn k: of one that was placed, that ended where node j stands, that was blocked, and that was skipped by goal node g
abbrev pub placed_record : ℕ → ℕ → ℕ → ℕ → ℕ → Record
placed_record k nearest parent cost class = placed_by 0 k nearest parent cost class

abbrev pub same_record : ℕ → ℕ → ℕ → Record
same_record k nearest j = record_of_ending 0 k (Steered nearest (SameNode j))

abbrev pub blocked_record : ℕ → ℕ → Record
blocked_record k nearest = record_of_ending 0 k (Steered nearest NoWay)

abbrev pub skipped_record : ℕ → ℕ → Record
skipped_record k g = record_of_ending 0 k (SkippedBy g)

-- ---- reports
-- the start, and a node that has it as its parent
abbrev pub two_nodes : List (Option Twig)
two_nodes = Some (record { point = at 0 0; parent = 0 }) ∷ Some (record { point = at 30 40; parent = 0 }) ∷ []

-- the record of the second node
abbrev pub one_placed : List Record
one_placed = placed_record 0 0 0 12800 1 ∷ []

-- two nodes as far from the start, and none between them
abbrev pub two_branches : List (Option Twig)
two_branches = Some (record { point = at 0 0; parent = 0 }) ∷ Some (record { point = at 30 40; parent = 0 })
    ∷ None ∷ Some (record { point = at 40 30; parent = 0 }) ∷ []

-- a node for the first of three marks
abbrev pub one_of_three : List (Option Twig)
one_of_three = Some (record { point = at 0 0; parent = 0 }) ∷ Some (record { point = at 30 40; parent = 0 }) ∷ None ∷ None ∷ []

-- a mark of each outcome
abbrev pub three_records : List Record
three_records = placed_record 0 0 0 12800 1 ∷ same_record 1 1 1 ∷ blocked_record 2 1 ∷ []

-- the start alone, and the record of a mark that was skipped by it
abbrev pub the_start : List (Option Twig)
the_start = Some (record { point = at 0 0; parent = 0 }) ∷ []

abbrev pub one_skipped : List Record
one_skipped = skipped_record 0 0 ∷ []

-- the box with these corners
abbrev pub box : ℕ → ℕ → ℕ → ℕ → Goal
box x0 y0 x1 y1 = record { low = at x0 y0; high = at x1 y1 }

-- the goal is the second node's point alone
abbrev pub goal_point : Goal
goal_point = record { low = at 30 40; high = at 30 40 }

pub record ReportVectors : Type 0 where
  pub best : (scene : Scene) → scene.goals ≡ goal_point ∷ [] → best_node (goals_of scene) 1 (state_of two_nodes one_placed) ≡ Some 1
  -- a number past the limit is not looked at
  pub past_the_limit : (scene : Scene) → scene.goals ≡ goal_point ∷ [] → best_node (goals_of scene) 0 (state_of two_nodes one_placed) ≡ None
  pub report :
      (scene : Scene) → scene.goals ≡ goal_point ∷ [] → scene.informed ≡ false → short_report scene 1 (state_of two_nodes one_placed)
      ≡ codes "path 2 cost 12800\n0 0\n30 40\nnodes 2 placed 1 same 0 blocked 0\n"
  -- the box is closed
  pub low_corner : is_in_goal (box 1 2 3 4) (at 1 2) ≡ true
  pub high_corner : is_in_goal (box 1 2 3 4) (at 3 4) ≡ true
  pub left_of_it : is_in_goal (box 1 2 3 4) (at 0 2) ≡ false
  pub above_it : is_in_goal (box 1 2 3 4) (at 3 5) ≡ false
  pub right_of_it : is_in_goal (box 1 2 3 4) (at 4 4) ≡ false
  pub below_it : is_in_goal (box 1 2 3 4) (at 1 1) ≡ false
  -- one of several goals is enough
  pub in_second_goal : lies_in_goals (box 1 2 3 4 ∷ box 5 5 6 6 ∷ []) (at 5 6) ≡ true
  pub between_goals : lies_in_goals (box 1 2 3 4 ∷ box 5 5 6 6 ∷ []) (at 4 5) ≡ false
  pub without_goals : lies_in_goals [] (at 4 5) ≡ false
  pub least_of_two_goals : best_node (box 40 30 40 30 ∷ box 30 40 30 40 ∷ []) 3 (state_of two_branches []) ≡ Some 1
  pub second_goal_alone : best_node (box 41 41 50 50 ∷ box 40 30 40 30 ∷ []) 3 (state_of two_branches []) ≡ Some 3
  -- of two nodes with the same sum, the one with the lesser number
  pub tied : (scene : Scene) → scene.goals ≡ box 30 30 40 40 ∷ [] → best_node (goals_of scene) 3 (state_of two_branches []) ≡ Some 1
  pub none_reached : (scene : Scene) → scene.goals ≡ box 41 41 50 50 ∷ [] → best_node (goals_of scene) 3 (state_of two_branches []) ≡ None
  pub no_path :
      (scene : Scene) → scene.goals ≡ box 41 41 50 50 ∷ [] → scene.informed ≡ false → short_report scene 1 (state_of two_nodes one_placed)
      ≡ codes "no path\nnodes 2 placed 1 same 0 blocked 0\n"
  pub start_in_goal :
      (scene : Scene) → scene.goals ≡ box 0 0 9 9 ∷ [] → scene.informed ≡ false → short_report scene 0 (state_of two_nodes [])
      ≡ codes "path 1 cost 0\n0 0\nnodes 2 placed 0 same 0 blocked 0\n"
  -- absent nodes have no line
  pub in_full :
      (scene : Scene) → scene.goals ≡ box 41 41 50 50 ∷ [] → scene.informed ≡ false → full_report scene 3 (state_of one_of_three three_records)
      ≡ codes "no path\nnodes 2 placed 1 same 1 blocked 1\nnode 0 at 0 0 parent 0 cost 0\nnode 1 at 30 40 parent 0 cost 12800\n"
      ++ codes "mark 0 worker 0 turn 0 nearest 0 placed class 1 first 0 12800\n"
      ++ codes "mark 1 worker 0 turn 1 nearest 1 same 1\nmark 2 worker 0 turn 2 nearest 1 blocked\n"
  -- in an informed scene skipped marks are counted, also if there is none
  pub none_skipped :
      (scene : Scene) → scene.goals ≡ box 41 41 50 50 ∷ [] → scene.informed ≡ true → short_report scene 1 (state_of two_nodes one_placed)
      ≡ codes "no path\nnodes 2 placed 1 same 0 blocked 0 skipped 0\n"
  pub skipped_in_full :
      (scene : Scene) → scene.goals ≡ box 0 0 9 9 ∷ [] → scene.informed ≡ true → full_report scene 1 (state_of the_start one_skipped)
      ≡ codes "path 1 cost 0\n0 0\nnodes 1 placed 0 same 0 blocked 0 skipped 1\nnode 0 at 0 0 parent 0 cost 0\n"
      ++ codes "mark 0 worker 0 turn 0 skipped by 0\n"
