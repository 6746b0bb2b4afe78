-- A tree at two moments, trees that differ in one thing and are no later moment, or not the same run, and kept costs along parents.
use Rattle.std.specs.Prelude.{◌≡◌, ℕ, Option, Some, None, List, [], ◌∷◌, slice_get, slice_index_or}
use Rattle.plan_model_tests.specs.Terms.{AreSameRuns, AreTight, ChangesCosts, CostsFall, GrowsInto, IsBranchLowered, KeepsFirstCosts, Point, Record}
use Rattle.plan_model_tests.specs.Terms.{TreeState, Twig, at, gapped, placed_by, without_costs}
use Rattle.plan_model_tests.specs.UnlawfulRecords.{room_to, three_points}

-- nodes with these parents and costs, which are 0 past the lists; each was written with this cost when it was placed; the records of the marks
abbrev pub moment_of : List (Option Point) → List ℕ → List ℕ → ℕ → List Record → TreeState
moment_of points parents costs written records = record {
  points = points;
  parent = λ n. slice_index_or parents n 0;
  cost = λ n. slice_index_or costs n 0;
  written_cost = λ n. written;
  record_of = slice_get records;
}

-- the record of node 1, by its worker and its first cost
abbrev pub first_by : ℕ → ℕ → Record
first_by worker cost = placed_by worker 0 0 0 cost 1

-- the record of node 2, by its first cost
abbrev pub second_at : ℕ → Record
second_at cost = placed_by 0 1 1 1 cost 2

-- Node 2 hangs below node 1, as it was placed; its mark has no record yet.
abbrev pub before : TreeState
before = moment_of three_points (0 ∷ 0 ∷ 1 ∷ []) (0 ∷ 12803 ∷ 23043 ∷ []) 23043 (first_by 0 12803 ∷ [])

abbrev pub four_points : List (Option Point)
four_points = Some (at 0 0) ∷ Some (at 0 50) ∷ Some (at 0 10) ∷ Some (at 40 0) ∷ []

-- It has moved below the start, its mark has its record, and a node has come.
abbrev pub after_with : List (Option Point) → List ℕ → List ℕ → List Record → TreeState
after_with points parents costs records = moment_of points parents costs 10240 records

abbrev pub both_records : List Record
both_records = first_by 0 12803 ∷ second_at 23043 ∷ []

pub record GrownTreeVectors : Type 0 where
  pub later : GrowsInto before (after_with four_points [] (0 ∷ 12803 ∷ 2560 ∷ 10240 ∷ []) both_records)
  pub node_gone : ¬ GrowsInto before (after_with (Some (at 0 0) ∷ Some (at 0 50) ∷ []) [] (0 ∷ 12803 ∷ 2560 ∷ []) both_records)
  pub node_elsewhere : ¬ GrowsInto before (after_with (Some (at 0 0) ∷ Some (at 0 50) ∷ Some (at 0 11) ∷ []) [] (0 ∷ 12803 ∷ 2560 ∷ []) both_records)
  pub other_first_cost : ¬ GrowsInto before (after_with four_points [] (0 ∷ 12803 ∷ 2560 ∷ []) (first_by 0 12803 ∷ second_at 23042 ∷ []))
  pub cost_rose : ¬ GrowsInto before (after_with four_points [] (0 ∷ 12804 ∷ 2560 ∷ []) both_records)
  pub moved_at_the_same_cost : ¬ GrowsInto before (after_with four_points [] (0 ∷ 12803 ∷ 23043 ∷ []) both_records)
  pub other_record : ¬ GrowsInto before (after_with four_points [] (0 ∷ 12803 ∷ 2560 ∷ []) (first_by 1 12803 ∷ second_at 23043 ∷ []))
  -- costs alone
  pub other_costs : ChangesCosts before (moment_of three_points (0 ∷ 0 ∷ 1 ∷ []) (0 ∷ 12800 ∷ 30000 ∷ []) 23043 (first_by 0 12803 ∷ []))
  pub node_too : ¬ ChangesCosts before (moment_of four_points (0 ∷ 0 ∷ 1 ∷ []) (0 ∷ 12803 ∷ 23043 ∷ []) 23043 (first_by 0 12803 ∷ []))
  pub parent_too : ¬ ChangesCosts before (moment_of three_points [] (0 ∷ 12803 ∷ 23043 ∷ []) 23043 (first_by 0 12803 ∷ []))
  pub written_cost_too : ¬ ChangesCosts before (moment_of three_points (0 ∷ 0 ∷ 1 ∷ []) (0 ∷ 12803 ∷ 23043 ∷ []) 23042 (first_by 0 12803 ∷ []))
  pub record_too : ¬ ChangesCosts before (moment_of three_points (0 ∷ 0 ∷ 1 ∷ []) (0 ∷ 12803 ∷ 23043 ∷ []) 23043 [])
  -- the same run, whatever is said of a number without a node, and of written costs
  pub same : AreSameRuns before
      (moment_of (Some (at 0 0) ∷ Some (at 0 50) ∷ Some (at 0 10) ∷ None ∷ []) (0 ∷ 0 ∷ 1 ∷ 2 ∷ []) (0 ∷ 12803 ∷ 23043 ∷ 7 ∷ []) 0
      (first_by 0 12803 ∷ []))
  pub one_node_more : ¬ AreSameRuns before (moment_of four_points (0 ∷ 0 ∷ 1 ∷ []) (0 ∷ 12803 ∷ 23043 ∷ []) 23043 (first_by 0 12803 ∷ []))
  pub other_parent : ¬ AreSameRuns before (moment_of three_points [] (0 ∷ 12803 ∷ 23043 ∷ []) 23043 (first_by 0 12803 ∷ []))
  pub other_cost : ¬ AreSameRuns before (moment_of three_points (0 ∷ 0 ∷ 1 ∷ []) (0 ∷ 12803 ∷ 23042 ∷ []) 23043 (first_by 0 12803 ∷ []))
  pub record_more : ¬ AreSameRuns before (moment_of three_points (0 ∷ 0 ∷ 1 ∷ []) (0 ∷ 12803 ∷ 23043 ∷ []) 23043 both_records)
  -- the bound for three nodes is 25600
  pub keeps_first_costs : KeepsFirstCosts (room_to 50 (at 0 0)) before
  pub above_first_cost :
      ¬ KeepsFirstCosts (room_to 50 (at 0 0)) (moment_of three_points (0 ∷ 0 ∷ 1 ∷ []) (0 ∷ 12804 ∷ 23043 ∷ []) 23043 (first_by 0 12803 ∷ []))
  pub first_cost_above_the_bound :
      ¬ KeepsFirstCosts (room_to 50 (at 0 0)) (moment_of three_points (0 ∷ 0 ∷ 1 ∷ []) (0 ∷ 12803 ∷ 23043 ∷ []) 25601 (first_by 0 12803 ∷ []))

-- node 1 costs less by this much, and its child from these costs to those
abbrev pub IsLowered : ℕ → List ℕ → List ℕ → Type 0
IsLowered fall costs later =
    IsBranchLowered three_points (λ n. slice_index_or (0 ∷ 0 ∷ 1 ∷ []) n 0) 1 fall (λ n. slice_index_or costs n 0) (λ n. slice_index_or later n 0)

-- these costs, by number
abbrev pub costs_of : List ℕ → ℕ → ℕ
costs_of costs n = slice_index_or costs n 0

-- a node below a number without a node
abbrev pub below_none : List (Option Twig)
below_none = Some (record { point = at 0 0; parent = 0 }) ∷ Some (record { point = at 30 40; parent = 2 }) ∷ []

pub record KeptCostVectors : Type 0 where
  pub lowered : IsLowered 3 (0 ∷ 12803 ∷ 23043 ∷ []) (0 ∷ 12800 ∷ 23040 ∷ [])
  pub top_by_less : ¬ IsLowered 3 (0 ∷ 12803 ∷ 23043 ∷ []) (0 ∷ 12801 ∷ 23041 ∷ [])
  pub start_too : ¬ IsLowered 3 (5 ∷ 12803 ∷ 23043 ∷ []) (4 ∷ 12800 ∷ 23040 ∷ [])
  pub child_stays : ¬ IsLowered 3 (0 ∷ 12803 ∷ 23043 ∷ []) (0 ∷ 12800 ∷ 23043 ∷ [])
  -- number 3 has no node
  pub other_rises : ¬ IsLowered 3 (0 ∷ 12803 ∷ 23043 ∷ []) (0 ∷ 12800 ∷ 23040 ∷ 1 ∷ [])
  -- a start, and a node of a longest edge below it
  pub tight : AreTight (costs_of (0 ∷ 0 ∷ 12800 ∷ [])) gapped
  pub start_at_a_cost : ¬ AreTight (costs_of (1 ∷ 0 ∷ 12801 ∷ [])) gapped
  pub above_its_edge : ¬ AreTight (costs_of (0 ∷ 0 ∷ 12801 ∷ [])) gapped
  pub fall : CostsFall (costs_of (5 ∷ 0 ∷ 6 ∷ [])) gapped
  pub no_fall : ¬ CostsFall (costs_of (6 ∷ 0 ∷ 6 ∷ [])) gapped
  pub no_start : ¬ CostsFall (costs_of []) []
  pub no_parent : ¬ CostsFall (costs_of (0 ∷ 6 ∷ [])) below_none
  pub nodes_alone : without_costs (Some (record { point = at 3 4; parent = 7; cost = 1280 }) ∷ None ∷ [])
      ≡ Some (record { point = at 3 4; parent = 7 }) ∷ None ∷ []
