-- Records that a pass may make of the mark in its hand by what it has seen; a cost that is lowered, and changes that are more; points at
-- which a node stood.
use Rattle.std.specs.Prelude.{ℕ, Option, Some, None, List, [], ◌∷◌, slice_get, slice_index_or}
use Rattle.shared_tree_tests.specs.Terms.{CostsInstead, Counted, MayRecord, Point, Record, TreeState, View, WasFree, at, empty_room, new_hand, placed_by}
use Rattle.shared_tree_tests.specs.Terms.{unplaced_record, words_of_run}
use Rattle.plan_model.specs.declared.records.Outcome.TheVariants.{Blocked, Same}
use Rattle.shared_tree_tests.specs.SmallRuns.SmallWorlds.{claimed_table, hand_at, handling, linked_table, mark_node, never, table, small_run, start_above}

-- ---- records
-- a view that has counted its node, and has seen so many nodes
abbrev pub counter_of : ℕ → ℕ → View
counter_of cost count = handling (hand_at Counted 0 cost) (table count 1 (start_above 1) mark_node 0)

-- the mark is claimed, in a room so high
abbrev pub claimer_in : ℕ → View
claimer_in height = record (handling (new_hand 0) claimed_table) { run = record small_run { space = empty_room (at 100 height) } }

-- the mark is at the start
abbrev pub claimer_at_start : View
claimer_at_start = record (handling (new_hand 0) claimed_table) { run = record small_run { marks = at 5 5 ∷ [] } }

pub record AllowedRecordVectors : Type 0 where
  pub placed : MayRecord (counter_of 1280 1) (hand_at Counted 0 1280) (placed_by 0 0 0 0 1280 1)
  pub blocked : MayRecord (claimer_in 8) (new_hand 0) (unplaced_record 0 0 0 Blocked)
  pub same : MayRecord claimer_at_start (new_hand 0) (unplaced_record 0 0 0 (Same 0))
  -- the radius of class 12 is 3, so the start is no neighbour
  pub dearer_past_the_radius : MayRecord (counter_of 2000 2048) (hand_at Counted 0 2000) (placed_by 0 0 0 0 2000 12)

-- ---- one cost, and free points
-- parents, costs, the cost that was written of each, and records
abbrev pub tree_by : List (Option Point) → List ℕ → List ℕ → ℕ → List Record → TreeState
tree_by points parents costs written entries = record {
  points = points;
  parent = λ n. slice_index_or parents n 0;
  cost = λ n. slice_index_or costs n 0;
  written_cost = λ n. written;
  record_of = slice_get entries;
}

abbrev pub two_nodes : List (Option Point)
two_nodes = Some (at 5 5) ∷ Some (at 8 9) ∷ []

abbrev pub entries : List Record
entries = placed_by 0 0 0 0 1281 1 ∷ []

-- node 1 costs 1281
abbrev pub dearer : TreeState
dearer = tree_by two_nodes (0 ∷ 0 ∷ []) (0 ∷ 1281 ∷ []) 1281 entries

pub record LoweredCostVectors : Type 0 where
  pub lowered : CostsInstead dearer (tree_by two_nodes (0 ∷ 0 ∷ []) (0 ∷ 1280 ∷ []) 1281 entries) 1 1280
  pub not_lowered : ¬ CostsInstead dearer dearer 1 1280
  pub other_cost_too : ¬ CostsInstead dearer (tree_by two_nodes (0 ∷ 0 ∷ []) (1 ∷ 1280 ∷ []) 1281 entries) 1 1280
  pub node_gone : ¬ CostsInstead dearer (tree_by (Some (at 5 5) ∷ None ∷ []) (0 ∷ 0 ∷ []) (0 ∷ 1280 ∷ []) 1281 entries) 1 1280
  pub parent_too : ¬ CostsInstead dearer (tree_by two_nodes (0 ∷ 1 ∷ []) (0 ∷ 1280 ∷ []) 1281 entries) 1 1280
  pub written_cost_too : ¬ CostsInstead dearer (tree_by two_nodes (0 ∷ 0 ∷ []) (0 ∷ 1280 ∷ []) 1280 entries) 1 1280
  pub record_gone : ¬ CostsInstead dearer (tree_by two_nodes (0 ∷ 0 ∷ []) (0 ∷ 1280 ∷ []) 1281 []) 1 1280

pub record FreePointVectors : Type 0 where
  -- node 1 stood there already
  pub not_free_since : ¬ WasFree small_run (words_of_run small_run linked_table) (words_of_run small_run linked_table) (at 8 9)
  -- in a world node 0 is counted
  pub no_world_before : ¬ WasFree small_run (words_of_run small_run never) (words_of_run small_run never) (at 8 9)
