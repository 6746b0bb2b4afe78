-- Nodes with and without a clear edge to a point, paths whose edges are clear and paths with one that is not; and scenes with the same run.
use Rattle.plan_model_tests.specs.Terms.{ConfigurationSpace, Covers, Drawn, Format, HaveSameInputs, IsBounded, IsClearPath, IsCost, IsInRoom, IsOfTextbookRun}
use Rattle.plan_model_tests.specs.Terms.{IsOpenTo, IsRootCeiling, IsStep, Key, Listed, Point, Scene, at, empty_room, marks_to_rewire, open_setup}
use Rattle.plan_model_tests.specs.Terms.{rewired_records, rewired_tree, state_of, whole_format}
use Rattle.std.specs.Prelude.{◌≡◌, ◌==◌, Bool, true, false, [], ◌∷◌, codes, map, Option, Some, List}
use Rattle.plan_model.specs.Texts.Keys.{fault_words}
use Rattle.plan_model.specs.declared.text_terms.Key.TheVariants as keys
use Rattle.plan_model.specs.declared.text_terms.Kind.TheVariants as kinds

-- ---- Points, roots, costs and steps at the limit of a definition, and just beyond it.
pub record BoundaryVectors : Type 0 where
  pub bounded : IsBounded (at 1048575 1048575)
  pub too_far_right : ¬ IsBounded (at 1048576 0)
  pub too_far_up : ¬ IsBounded (at 0 1048576)
  pub root_of_16 : IsRootCeiling 16 4
  pub root_of_17 : IsRootCeiling 17 5
  pub square_below : ¬ IsRootCeiling 17 4
  pub not_least : ¬ IsRootCeiling 16 5
  pub cost_of_diagonal : IsCost (at 0 0) (at 1 1) 363
  pub less_than_cost : ¬ IsCost (at 0 0) (at 1 1) 362
  pub more_than_cost : ¬ IsCost (at 0 0) (at 1 1) 364
  -- a step of 50, in the box of its two points
  pub step : IsStep (at 60 80) (at 0 0) 50 (at 30 40)
  pub step_along_the_box : IsStep (at 10 10) (at 90 10) 50 (at 60 10)
  pub step_too_long : ¬ IsStep (at 0 0) (at 60 80) 50 (at 31 40)
  pub left_of_the_box : ¬ IsStep (at 10 10) (at 90 90) 50 (at 9 10)
  pub right_of_the_box : ¬ IsStep (at 10 10) (at 12 90) 50 (at 13 12)
  pub below_the_box : ¬ IsStep (at 10 10) (at 90 90) 50 (at 10 9)
  pub above_the_box : ¬ IsStep (at 10 10) (at 90 12) 50 (at 12 13)
  pub corner_of_room : IsInRoom (at 10 20) (at 10 20)
  pub right_of_room : ¬ IsInRoom (at 10 20) (at 11 20)
  pub above_room : ¬ IsInRoom (at 10 20) (at 10 21)

-- ---- Which formats cover the canonical text of a scene, and which do not.
-- version 1 alone, with every key
abbrev pub first_version : Format
first_version = record { reads = λ version. version == 1; built = λ key. true }

-- each key but `informed`
abbrev pub is_not_informed : Key → Bool
is_not_informed keys.Informed = false
is_not_informed key = true

-- both versions, with each key but `informed`
abbrev pub uninformed : Format
uninformed = record { reads = λ version. true; built = is_not_informed }

pub record CoveringVectors : Type 0 where
  pub all : (scene : Scene) → Covers whole_format scene
  pub key_left_out : (scene : Scene) → scene.informed ≡ true → ¬ Covers uninformed scene
  pub version_left_out : (scene : Scene) → scene.version ≡ 2 → ¬ Covers first_version scene

-- ---- The words that name a fault, for each kind.
pub record FaultWordVectors : Type 0 where
  pub of_each_kind : map (fault_words 20)
      (kinds.Version ∷ kinds.Key ∷ kinds.Words ∷ kinds.Number ∷ kinds.Range ∷ kinds.Repeat ∷ kinds.Corners ∷ kinds.Many ∷ kinds.Missing ∷ kinds.Unbuilt ∷ [])
      ≡ (codes "line" ∷ codes "20" ∷ codes "kind" ∷ codes "1" ∷ codes "Version" ∷ [])
      ∷ (codes "line" ∷ codes "20" ∷ codes "kind" ∷ codes "2" ∷ codes "Key" ∷ [])
      ∷ (codes "line" ∷ codes "20" ∷ codes "kind" ∷ codes "3" ∷ codes "Words" ∷ [])
      ∷ (codes "line" ∷ codes "20" ∷ codes "kind" ∷ codes "4" ∷ codes "Number" ∷ [])
      ∷ (codes "line" ∷ codes "20" ∷ codes "kind" ∷ codes "5" ∷ codes "Range" ∷ [])
      ∷ (codes "line" ∷ codes "20" ∷ codes "kind" ∷ codes "6" ∷ codes "Repeat" ∷ [])
      ∷ (codes "line" ∷ codes "20" ∷ codes "kind" ∷ codes "7" ∷ codes "Corners" ∷ [])
      ∷ (codes "line" ∷ codes "20" ∷ codes "kind" ∷ codes "8" ∷ codes "Many" ∷ [])
      ∷ (codes "line" ∷ codes "20" ∷ codes "kind" ∷ codes "9" ∷ codes "Missing" ∷ [])
      ∷ (codes "line" ∷ codes "20" ∷ codes "kind" ∷ codes "10" ∷ codes "Unbuilt" ∷ []) ∷ []

-- ---- open paths
-- 100 wide and 50 high
abbrev pub low_room : ConfigurationSpace
low_room = empty_room (at 100 50)

-- node 1 is past the wall
abbrev pub start_and_one_outside : List (Option Point)
start_and_one_outside = Some (at 0 0) ∷ Some (at 0 51) ∷ []

pub record OpenPathVectors : Type 0 where
  pub from_start : IsOpenTo low_room start_and_one_outside (at 10 50) (1 ∷ 0 ∷ []) 0
  pub none_of_them : ¬ IsOpenTo low_room start_and_one_outside (at 10 50) (1 ∷ []) 0
  pub begins_outside : ¬ IsOpenTo low_room start_and_one_outside (at 10 50) (1 ∷ 0 ∷ []) 1
  pub leads_outside : ¬ IsOpenTo low_room start_and_one_outside (at 10 51) (1 ∷ 0 ∷ []) 0
  pub clear : IsClearPath low_room (at 0 0 ∷ at 0 50 ∷ at 10 10 ∷ [])
  pub without_edges : IsClearPath low_room (at 0 51 ∷ [])
  pub first_edge_not_clear : ¬ IsClearPath low_room (at 0 51 ∷ at 0 50 ∷ at 10 10 ∷ [])
  pub last_edge_not_clear : ¬ IsClearPath low_room (at 0 0 ∷ at 0 50 ∷ at 10 51 ∷ [])

pub record SameInputVectors : Type 0 where
  -- of scenes that are not informed nothing is asked of the goals, and of none of the seed and the strips, nor how a plan without marks is given
  pub without_marks : (one other : Scene) → one.room ≡ other.room → one.body ≡ other.body → one.obstacles ≡ other.obstacles
      → one.clearance ≡ other.clearance → one.start ≡ other.start → one.step ≡ other.step → one.gamma ≡ other.gamma → one.informed ≡ false
      → other.informed ≡ false → one.plan ≡ Listed [] → other.plan ≡ Drawn 0 → HaveSameInputs one other
  pub of_a_run : IsOfTextbookRun open_setup marks_to_rewire (state_of rewired_tree rewired_records)
