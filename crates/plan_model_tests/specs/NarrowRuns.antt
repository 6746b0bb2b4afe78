-- Textbook runs of four marks whose radius is below the step: one in which it falls, and one in which the first near node that is rewired decides
-- that the next one stays.
use Rattle.std.specs.Prelude.{◌≡◌, List, [], ◌∷◌, map, Some, slice_get, slice_index_or}
use Rattle.plan_model_tests.specs.Terms.{IsClosed, IsTextbookRun, Nodes, Point, Record, Setup, TreeState, at, early_record, empty_room, marks_to_rewire, node}
use Rattle.plan_model_tests.specs.Terms.{open_setup, overlapped, placed_by, placed_record, radius_of, same_record, sum_of}

-- a point body in the corner of an empty room; with this gamma the radius is 40 before the fourth mark, and 34 at it
abbrev pub narrow_setup : Setup
narrow_setup = record { space = empty_room (at 100 100); start = at 0 0; step = 50; gamma = 40; goals = [] }

-- The start is between 36 and 37 away from node 3 and from node 4. So it is near node 3, and is its parent, as the cheapest way; it is
-- not near node 4. Node 2, more than 42 away from node 3 and 36 from node 4, is near neither. With a radius of 40 for node 4 too, the
-- start would be its parent, and it that of node 2.
abbrev pub falling_marks : List Point
falling_marks = at 45 5 ∷ at 50 50 ∷ at 35 10 ∷ at 30 20 ∷ []

abbrev pub falling_tree : Nodes
falling_tree = node (at 0 0) 0 ∷ node (at 45 5) 0 ∷ node (at 50 50) 1 ∷ node (at 35 10) 0 ∷ node (at 30 20) 3 ∷ []

abbrev pub falling_records : List Record
falling_records = placed_record 0 0 0 11591 1 ∷ placed_record 1 1 1 23182 2 ∷ placed_record 2 1 0 9319 2 ∷ placed_record 3 3 3 12182 3 ∷ []

-- Node 3 hangs below node 2, and node 4 stands on their line. Node 2 moves below node 4. Then the way of node 3, through node 2, costs as
-- much as that through node 4, so it stays, though its sum before the mark was greater.
abbrev pub marks_in_line : List Point
marks_in_line = at 0 45 ∷ at 35 25 ∷ at 45 25 ∷ at 20 25 ∷ []

abbrev pub tree_in_line : Nodes
tree_in_line = node (at 0 0) 0 ∷ node (at 0 45) 0 ∷ node (at 35 25) 4 ∷ node (at 45 25) 2 ∷ node (at 20 25) 0 ∷ []

abbrev pub records_in_line : List Record
records_in_line = placed_record 0 0 0 11520 1 ∷ placed_record 1 1 1 21840 2 ∷ placed_record 2 2 2 24400 2 ∷ placed_record 3 2 0 8196 3 ∷ []

pub record FallingRadiusVectors : Type 0 where
  pub radii : map (radius_of 50 40) (1 ∷ 2 ∷ 3 ∷ 4 ∷ []) ≡ 40 ∷ 40 ∷ 40 ∷ 34 ∷ []
  pub run : IsTextbookRun narrow_setup falling_marks falling_tree falling_records
  -- what node 2 and node 4 cost in the end
  pub cost_of_kept : sum_of falling_tree 2 ≡ 23182
  pub cost_of_last : sum_of falling_tree 4 ≡ 12182

pub record RewiredInTurnVectors : Type 0 where
  pub run : IsTextbookRun narrow_setup marks_in_line tree_in_line records_in_line
  -- what node 2 and node 3 cost in the end
  pub cost_of_moved : sum_of tree_in_line 2 ≡ 12036
  pub cost_of_kept : sum_of tree_in_line 3 ≡ 14596

-- ---- States that differ in one number, of the closed run of two workers or of a run of one mark, and break one clause of the closed law.
-- the tree of the closed run, with these records
abbrev pub overlapped_with : List Record → TreeState
overlapped_with records = record {
  points = overlapped.points;
  parent = overlapped.parent;
  cost = overlapped.cost;
  written_cost = overlapped.written_cost;
  record_of = slice_get records;
}

-- the closed run with the start below node 1
abbrev pub start_below_a_node : TreeState
start_below_a_node = record {
  points = overlapped.points;
  parent = λ n. slice_index_or (1 ∷ []) n 0;
  cost = overlapped.cost;
  written_cost = overlapped.written_cost;
  record_of = overlapped.record_of;
}

-- the closed run with one node more
abbrev pub one_node_more : TreeState
one_node_more = record {
  points = Some (at 0 0) ∷ Some (at 0 50) ∷ Some (at 22 44) ∷ Some (at 40 30) ∷ Some (at 10 0) ∷ [];
  parent = λ n. 0;
  cost = λ n. slice_index_or (0 ∷ 12800 ∷ 12594 ∷ 12800 ∷ 2560 ∷ []) n 0;
  written_cost = λ n. 0;
  record_of = overlapped.record_of;
}

-- the start alone, at which a mark ended
abbrev pub ended_at_start : TreeState
ended_at_start =
    record { points = Some (at 0 0) ∷ []; parent = λ n. 0; cost = λ n. 0; written_cost = λ n. 0; record_of = slice_get (same_record 0 0 0 ∷ []) }

-- each of these is closed but for what its name says; `overlapping_marks` shows that the run itself is
pub record UnclosedRunVectors : Type 0 where
  -- the second mark of worker 0 is its turn 1
  pub turn_twice : ¬ IsClosed open_setup marks_to_rewire 3
      (overlapped_with (early_record ∷ placed_by 1 0 0 0 12594 1 ∷ placed_by 0 0 2 0 12800 2 ∷ []))
  pub turn_left_out : ¬ IsClosed open_setup marks_to_rewire 3
      (overlapped_with (early_record ∷ placed_by 1 0 0 0 12594 1 ∷ placed_by 0 2 2 0 12800 2 ∷ []))
  pub record_too_many : ¬ IsClosed open_setup marks_to_rewire 2 overlapped
  pub record_too_few : ¬ IsClosed open_setup (at 0 50 ∷ at 40 79 ∷ at 40 30 ∷ at 9 9 ∷ []) 4 overlapped
  -- workers have numbers from 0 to 63
  pub worker_past_the_last : ¬ IsClosed open_setup marks_to_rewire 3
      (overlapped_with (early_record ∷ placed_by 64 0 0 0 12594 1 ∷ placed_by 0 1 2 0 12800 2 ∷ []))
  -- two nodes stood by its worker's own records, whose class is 2
  pub record_not_lawful : ¬ IsClosed open_setup marks_to_rewire 3
      (overlapped_with (early_record ∷ placed_by 1 0 0 0 12594 1 ∷ placed_by 0 1 2 0 12800 1 ∷ []))
  pub order_not_kept : ¬ IsClosed open_setup marks_to_rewire 3 start_below_a_node
  pub node_without_a_record : ¬ IsClosed open_setup marks_to_rewire 3 one_node_more
  -- of a mark past the last the point is the origin
  pub one_mark : IsClosed open_setup (at 0 0 ∷ []) 1 ended_at_start
  pub limit_past_the_marks : ¬ IsClosed open_setup [] 1 ended_at_start
