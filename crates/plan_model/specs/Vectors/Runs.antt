-- Textbook runs of three marks in an empty room, and their reports: one in which a node is rewired, and one in which its cost is equal.
use Rattle.std.specs.Prelude.{◌≡◌, Option, Some, None, List, [], ◌∷◌, ◌++◌, ℕ, false, codes}
use Rattle.plan_model.specs.Terms.{Goal, Point, Twig}
use Rattle.plan_model.specs.Trees.NodeLists.{point_of, points_of, chain, sum_of}
use Rattle.plan_model.specs.Trees.Nearness.{near}
use Rattle.plan_model.specs.Vectors.Geometry.{at}
use Rattle.plan_model.specs.declared.scenes.Scene.{Scene}
use Rattle.plan_model.specs.declared.records.Record.{Record}
use Rattle.plan_model.specs.Spaces.ConfigurationSpace.{empty_room}
use Rattle.plan_model.specs.Trees.TreeStates.{state_of}
use Rattle.plan_model.specs.Runs.Textbook.{Nodes, Setup, IsTextbookRun}
use Rattle.plan_model.specs.Vectors.Reports.{placed_record, box}
use Rattle.plan_model.specs.Reports.ReportText.{short_report, full_report}
use Rattle.plan_model.specs.Spaces.Clearance.{IsChoice, cost_of_choice, kept_points}

-- ---- Chains, sums and near nodes of small trees.
-- the start, an absent node, and a node below the start
abbrev pub gapped : List (Option Twig)
gapped = Some (record { point = at 0 0; parent = 0 }) ∷ None ∷ Some (record { point = at 30 40; parent = 0 }) ∷ []

abbrev pub gapped_further : List (Option Twig)
gapped_further = gapped ++ None ∷ None ∷ []

-- the start, and a node that is its own parent; no run makes one
abbrev pub circular : List (Option Twig)
circular = Some (record { point = at 0 0; parent = 0 }) ∷ Some (record { point = at 5 5; parent = 1 }) ∷ []

pub record TreeVectors : Type 0 where
  pub start : chain gapped 0 ≡ 0 ∷ []
  pub child : chain gapped 2 ≡ 2 ∷ 0 ∷ []
  -- a node that is absent, and a number beyond the last, count as below the start and at the origin
  pub absent : chain gapped 1 ≡ 1 ∷ 0 ∷ []
  pub beyond : chain gapped 9 ≡ 9 ∷ 0 ∷ []
  pub nowhere : point_of (points_of gapped) 1 ≡ at 0 0
  -- as many members as nodes are present
  pub in_a_circle : chain circular 1 ≡ 1 ∷ 1 ∷ []
  pub no_tree : chain [] 0 ≡ []
  pub sum_of_start : sum_of gapped 0 ≡ 0
  pub sum_of_child : sum_of gapped 2 ≡ 12800
  -- absent nodes at the end change neither chain nor sum
  pub longer : chain gapped_further 2 ≡ 2 ∷ 0 ∷ []
  pub sum_of_longer : sum_of gapped_further 2 ≡ 12800
  -- near: as far as the radius, not near: absent or further
  pub within : near (points_of gapped) (at 30 40) 50 ≡ 0 ∷ 2 ∷ []
  pub too_far : near (points_of gapped) (at 30 40) 49 ≡ 2 ∷ []
  pub at_radius_0 : near (points_of gapped) (at 30 40) 0 ≡ 2 ∷ []
  pub none_near : near (points_of gapped) (at 30 41) 0 ≡ []

-- ---- runs
-- a point body in the corner of an empty room, and goals by which marks are skipped; with this gamma the radius is the step for the first three nodes
abbrev pub open_setup_to : List Goal → Setup
open_setup_to goals = record { space = empty_room (at 100 100); start = at 0 0; step = 50; gamma = 1000; goals = goals }

-- the same, in which no mark is skipped
abbrev pub open_setup : Setup
open_setup = open_setup_to []

-- the node at p with this parent
abbrev pub node : Point → ℕ → Option Twig
node p parent = Some (record { point = p; parent = parent })

-- Node 2 was placed below node 1. Node 3 gives it a cheaper way.
abbrev pub marks_to_rewire : List Point
marks_to_rewire = at 0 50 ∷ at 40 79 ∷ at 40 30 ∷ []

abbrev pub rewired_tree : Nodes
rewired_tree = node (at 0 0) 0 ∷ node (at 0 50) 0 ∷ node (at 40 79) 3 ∷ node (at 40 30) 0 ∷ []

abbrev pub rewired_records : List Record
rewired_records = placed_record 0 0 0 12800 1 ∷ placed_record 1 1 1 25449 2 ∷ placed_record 2 1 0 12800 2 ∷ []

-- Node 2 stands one step higher, and both ways cost the same.
abbrev pub marks_to_keep : List Point
marks_to_keep = at 0 50 ∷ at 40 80 ∷ at 40 30 ∷ []

abbrev pub kept_tree : Nodes
kept_tree = node (at 0 0) 0 ∷ node (at 0 50) 0 ∷ node (at 40 80) 1 ∷ node (at 40 30) 0 ∷ []

abbrev pub kept_records : List Record
kept_records = placed_record 0 0 0 12800 1 ∷ placed_record 1 1 1 25600 2 ∷ placed_record 2 1 0 12800 2 ∷ []

-- the full report of the first run, if the goal is where node 2 stands
abbrev pub rewired_text : List ℕ
rewired_text = codes "path 3 cost 25344\n0 0\n40 30\n40 79\nnodes 4 placed 3 same 0 blocked 0\n"
    ++ (codes "node 0 at 0 0 parent 0 cost 0\nnode 1 at 0 50 parent 0 cost 12800\n"
    ++ (codes "node 2 at 40 79 parent 3 cost 25344\nnode 3 at 40 30 parent 0 cost 12800\n"
    ++ (codes "mark 0 worker 0 turn 0 nearest 0 placed class 1 first 0 12800\n"
    ++ (codes "mark 1 worker 0 turn 1 nearest 1 placed class 2 first 1 25449\n"
    ++ codes "mark 2 worker 0 turn 2 nearest 1 placed class 2 first 0 12800\n"))))

-- the short report of the second, likewise
abbrev pub kept_text : List ℕ
kept_text = codes "path 3 cost 25600\n0 0\n0 50\n40 80\nnodes 4 placed 3 same 0 blocked 0\n"

pub record RunVectors : Type 0 where
  pub rewired : IsTextbookRun open_setup marks_to_rewire rewired_tree rewired_records
  pub cost_of_rewired : sum_of rewired_tree 2 ≡ 25344
  pub report_of_rewired : (scene : Scene) → scene.goals ≡ box 40 79 40 79 ∷ [] → scene.informed ≡ false
      → full_report scene 3 (state_of rewired_tree rewired_records) ≡ rewired_text
  pub kept : IsTextbookRun open_setup marks_to_keep kept_tree kept_records
  pub cost_of_kept : sum_of kept_tree 2 ≡ 25600
  pub report_of_kept : (scene : Scene) → scene.goals ≡ box 40 80 40 80 ∷ [] → scene.informed ≡ false
      → short_report scene 3 (state_of kept_tree kept_records) ≡ kept_text

-- ---- Choices from a path of three points.
-- two sides of a right triangle
abbrev pub two_sides : List Point
two_sides = at 0 0 ∷ at 30 0 ∷ at 30 40 ∷ []

pub record ChoiceVectors : Type 0 where
  pub all : IsChoice two_sides (0 ∷ 1 ∷ 2 ∷ [])
  pub ends : IsChoice two_sides (0 ∷ 2 ∷ [])
  pub single : IsChoice (at 5 5 ∷ []) (0 ∷ [])
  -- not without an end, no position twice or past the last, none of no points
  pub no_first : ¬ IsChoice two_sides (1 ∷ 2 ∷ [])
  pub no_last : ¬ IsChoice two_sides (0 ∷ 1 ∷ [])
  pub twice : ¬ IsChoice two_sides (0 ∷ 1 ∷ 1 ∷ 2 ∷ [])
  pub past : ¬ IsChoice two_sides (0 ∷ 3 ∷ [])
  pub nothing : ¬ IsChoice two_sides []
  pub of_nothing : ¬ IsChoice [] (0 ∷ [])
  -- both sides, or the third
  pub kept : kept_points two_sides (0 ∷ 2 ∷ []) ≡ at 0 0 ∷ at 30 40 ∷ []
  pub cost_of_whole : cost_of_choice two_sides (0 ∷ 1 ∷ 2 ∷ []) ≡ 17920
  pub cost_of_ends : cost_of_choice two_sides (0 ∷ 2 ∷ []) ≡ 12800
  pub cost_of_single : cost_of_choice (at 5 5 ∷ []) (0 ∷ []) ≡ 0
