-- Bounds, records of skipped marks and beside goal nodes, each lawful or breaking one clause, and a run of which the last mark is skipped.
use Rattle.std.specs.Prelude.{◌≡◌, ℕ, true, Some, None, List, [], ◌∷◌, ◌++◌, codes}
use Rattle.plan_model_tests.specs.Terms.{Goal, IsLawfulRecord, IsTextbookRun, Nodes, Point, Record, Same, Scene, Skipped, TreeState, at, bound_of, box}
use Rattle.plan_model_tests.specs.Terms.{full_report, open_setup_to, placed_by, rewired_records, rewired_tree, skipped_record, state_of, unplaced_record}
use Rattle.plan_model_tests.specs.UnlawfulRecords.{nodes_with}

pub record BoundVectors : Type 0 where
  pub to_a_point : bound_of (at 0 0) (box 40 79 40 79 ∷ []) (at 40 30) ≡ 25344
  -- what an edge to the start adds is nothing where the point is the start; the box is closed, and its nearest lattice point may be on a
  -- side, at a corner, or the point itself
  pub to_a_side : bound_of (at 35 50) (box 20 40 30 60 ∷ []) (at 35 50) ≡ 1280
  pub to_a_corner : bound_of (at 33 64) (box 20 40 30 60 ∷ []) (at 33 64) ≡ 1280
  pub inside : bound_of (at 25 50) (box 20 40 30 60 ∷ []) (at 25 50) ≡ 0
  -- of two goals the nearer one
  pub to_the_second : bound_of (at 35 50) (box 90 40 99 60 ∷ box 20 40 30 60 ∷ []) (at 35 50) ≡ 1280

-- ---- records
-- the goal where node 2 of the worked runs stands
abbrev pub goal_of_2 : List Goal
goal_of_2 = box 40 79 40 79 ∷ []

-- Worker 0 placed node 1. Node 2 lies in the goal: this worker placed it at this first cost, and it costs this much now. Worker 1 placed node
-- 3 where mark 3 is, of which worker 0 has this record.
abbrev pub goal_reached : ℕ → ℕ → ℕ → Record → TreeState
goal_reached worker first kept entry = nodes_with (Some (at 0 0) ∷ Some (at 0 50) ∷ Some (at 40 79) ∷ Some (at 40 30) ∷ [])
    (0 ∷ 12800 ∷ kept ∷ 12800 ∷ []) (placed_by 0 0 0 0 12800 1 ∷ placed_by worker 1 1 1 first 2 ∷ placed_by 1 0 0 0 12800 1 ∷ entry ∷ [])

-- the record is lawful for mark 3, with these goals to skip by; the bound of the mark is 25344 by the goal of node 2
abbrev pub IsFourth : List Goal → (Record → TreeState) → Record → Type 0
IsFourth goals state entry = IsLawfulRecord (open_setup_to goals) (state entry) 3 (at 40 30) entry

-- the record of a mark that is skipped, by this node
abbrev pub skipped_by : ℕ → Record
skipped_by n = unplaced_record 0 2 n Skipped

-- the record of a mark at which node 3 stands
abbrev pub at_node_3 : Record
at_node_3 = unplaced_record 0 2 3 (Same 3)

pub record SkippedRecordVectors : Type 0 where
  pub at_the_bound : IsFourth goal_of_2 (goal_reached 0 25449 25344) (skipped_by 2)
  pub above_the_bound : ¬ IsFourth goal_of_2 (goal_reached 0 25449 25345) (skipped_by 2)
  -- another worker may have placed it
  pub by_node_of_another : IsFourth goal_of_2 (goal_reached 1 25449 25344) (skipped_by 2)
  pub by_no_goal_node : ¬ IsFourth goal_of_2 (goal_reached 0 25449 25344) (skipped_by 1)
  pub by_absent_node : ¬ IsFourth goal_of_2 (goal_reached 0 25449 25344) (skipped_by 9)
  pub not_informed : ¬ IsFourth [] (goal_reached 0 25449 25344) (skipped_by 2)
  -- a second goal, that no node has reached, is nearer to the mark
  pub another_goal_is_nearer : ¬ IsFourth (box 40 79 40 79 ∷ box 40 40 50 50 ∷ []) (goal_reached 0 25449 25344) (skipped_by 2)
  -- a mark that is not skipped, by what the worker's own goal nodes cost at first
  pub first_above_the_bound : IsFourth goal_of_2 (goal_reached 0 25345 25344) at_node_3
  pub first_at_the_bound : ¬ IsFourth goal_of_2 (goal_reached 0 25344 25344) at_node_3
  pub first_of_another : IsFourth goal_of_2 (goal_reached 1 25344 25344) at_node_3

-- ---- a run
-- the marks of the rewired run, and the last of them once more
abbrev pub marks_to_skip : List Point
marks_to_skip = at 0 50 ∷ at 40 79 ∷ at 40 30 ∷ at 40 30 ∷ []

abbrev pub skipped_tree : Nodes
skipped_tree = rewired_tree ++ None ∷ []

abbrev pub skipped_records : List Record
skipped_records = rewired_records ++ skipped_record 3 2 ∷ []

-- its report in full
abbrev pub skipped_text : List ℕ
skipped_text = codes "path 3 cost 25344\n0 0\n40 30\n40 79\nnodes 4 placed 3 same 0 blocked 0 skipped 1\n"
    ++ (codes "node 0 at 0 0 parent 0 cost 0\nnode 1 at 0 50 parent 0 cost 12800\n"
    ++ (codes "node 2 at 40 79 parent 3 cost 25344\nnode 3 at 40 30 parent 0 cost 12800\n"
    ++ (codes "mark 0 worker 0 turn 0 nearest 0 placed class 1 first 0 12800\n"
    ++ (codes "mark 1 worker 0 turn 1 nearest 1 placed class 2 first 1 25449\n"
    ++ (codes "mark 2 worker 0 turn 2 nearest 1 placed class 2 first 0 12800\n"
    ++ codes "mark 3 worker 0 turn 3 skipped by 2\n")))))

pub record SkippedRunVectors : Type 0 where
  pub run : IsTextbookRun (open_setup_to goal_of_2) marks_to_skip skipped_tree skipped_records
  pub report : (scene : Scene) → scene.goals ≡ goal_of_2 → scene.informed ≡ true
      → full_report scene 4 (state_of skipped_tree skipped_records) ≡ skipped_text
