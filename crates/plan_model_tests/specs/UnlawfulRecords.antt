-- A record that is lawful, and records that differ from a lawful one in one number, of the record or of its tree, and break one clause of the record
-- law.
use Rattle.std.specs.Prelude.{ℕ, Option, Some, List, [], ◌∷◌, slice_get, slice_index_or, ◌≡◌, None, map}
use Rattle.plan_model_tests.specs.Terms.{Blocked, IsLawfulRecord, KeepsOrder, Point, Record, Same, Setup, TreeState, at, empty_room, most_cost_of, placed_by}
use Rattle.plan_model_tests.specs.Terms.{unplaced_record}

-- a point body in an empty room that is 100 wide and so high, with this step and gamma
abbrev pub room_by : ℕ → ℕ → ℕ → Setup
room_by height step gamma = record { space = empty_room (at 100 height); start = at 0 0; step = step; gamma = gamma; goals = [] }

-- nodes at these points and costs, each below the start, and the records of the marks
abbrev pub nodes_with : List (Option Point) → List ℕ → List Record → TreeState
nodes_with points costs records =
    record { points = points; parent = λ n. 0; cost = λ n. slice_index_or costs n 0; written_cost = λ n. 0; record_of = slice_get records }

-- ---- placed marks
-- Worker 0 placed mark 0 as node 1, at 12800; node 1 stands here, and costs this much now. Worker 1 placed mark 1 as node 2, at this cost.
-- Then worker 0 placed mark 2 as node 3, with this record; node 3 costs this much now. So the start and node 1 are earlier nodes.
abbrev pub third_with : Point → ℕ → ℕ → ℕ → Record → TreeState
third_with first cost first_cost_of_other last_cost entry = nodes_with (Some (at 0 0) ∷ Some first ∷ Some (at 22 44) ∷ Some (at 40 30) ∷ [])
    (0 ∷ cost ∷ 12594 ∷ last_cost ∷ []) (placed_by 0 0 0 0 12800 2 ∷ placed_by 1 0 0 0 first_cost_of_other 1 ∷ entry ∷ [])

-- With no number changed, node 3 costs 12800 by way of the start, 24249 by way of node 1, and 18432 by way of node 2. Node 2 is the
-- nearest of all to its mark, and node 1 that of the earlier ones.
abbrev pub third : Record → TreeState
third entry = third_with (at 0 50) 12800 12594 12800 entry

-- the record of mark 2, by the nearest node, the first parent, the first cost and the class
abbrev pub entry_by : ℕ → ℕ → ℕ → ℕ → Record
entry_by nearest parent cost class = placed_by 0 1 nearest parent cost class

-- the record of mark 2 is lawful, in a room so high and with this gamma
abbrev pub IsThird : ℕ → ℕ → (Record → TreeState) → Record → Type 0
IsThird height gamma state entry = IsLawfulRecord (room_by height 50 gamma) (state entry) 2 (at 40 30) entry

pub record UnlawfulRecordVectors : Type 0 where
  pub lawful : IsThird 100 50 third (entry_by 2 0 12800 2)
  pub own_node_is_nearer : ¬ IsThird 100 50 third (entry_by 0 0 12800 2)
  -- two nodes stood by the worker's own records, and four in all
  pub class_of_all : IsThird 100 50 third (entry_by 2 0 12800 3)
  pub class_too_low : ¬ IsThird 100 50 third (entry_by 2 0 12800 1)
  pub class_too_high : ¬ IsThird 100 50 third (entry_by 2 0 12800 4)
  -- node 2 stands at height 44
  pub segment_not_clear : ¬ IsThird 43 50 third (entry_by 2 0 12800 2)
  -- the start is exactly as far away as the radius of class 2; that of class 3 is 43
  pub neighbour_is_cheaper : ¬ IsThird 100 50 third (entry_by 2 2 18432 2)
  pub cheaper_past_the_radius : IsThird 100 50 third (entry_by 2 2 18432 3)
  -- node 2, which is another worker's, is no neighbour
  pub cheaper_by_another : IsThird 100 50 third (entry_by 1 1 24249 3)
  -- with a radius of 49 the start is no neighbour, and node 1, at height 50, is one if the way from it is clear
  pub cheaper_on_clear_way : ¬ IsThird 50 49 (third_with (at 0 50) 12800 18412 12800) (entry_by 2 2 24250 2)
  pub cheaper_not_clear : IsThird 49 49 (third_with (at 0 50) 12800 18412 12800) (entry_by 2 2 24250 2)
  -- node 1 costs as much by way of node 3, and one less
  pub as_dear_as_before : IsThird 100 50 (third_with (at 0 50) 24249 12594 12800) (entry_by 2 0 12800 2)
  pub stays_dearer : ¬ IsThird 100 50 (third_with (at 0 50) 24250 12594 12800) (entry_by 2 0 12800 2)
  -- the mark is as far from the start as node 3, and not at it
  pub not_at_its_node : ¬ IsLawfulRecord (room_by 100 50 50) (third (entry_by 2 0 12800 2)) 2 (at 30 40) (entry_by 2 0 12800 2)
  -- number 4 is absent, so that its point is the origin
  pub first_parent_absent : ¬ IsThird 100 50 third (entry_by 2 4 12800 2)
  pub first_parent_is_itself : ¬ IsThird 100 50 third (entry_by 2 3 12800 2)
  -- node 1, the first parent, at height 50
  pub on_the_wall : IsThird 50 50 (third_with (at 0 50) 12800 18411 12800) (entry_by 2 1 24249 3)
  pub first_edge_not_clear : ¬ IsThird 49 50 (third_with (at 0 50) 12800 18411 12800) (entry_by 2 1 24249 3)
  -- the square of the length of its edge is 2500, and 2501
  pub edge_of_a_step : IsThird 100 50 (third_with (at 90 30) 11446 18411 12800) (entry_by 2 1 24249 3)
  pub first_edge_longer : ¬ IsThird 100 50 (third_with (at 90 31) 11446 18411 12800) (entry_by 2 1 24249 3)
  pub below_parent_and_edge : ¬ IsThird 100 50 third (entry_by 2 2 18431 3)
  pub nearest_is_itself : ¬ IsThird 100 50 third (entry_by 3 0 12800 2)
  -- the first cost is that of the first parent and the edge, and one more
  pub of_first_parent : IsThird 100 50 third (entry_by 1 2 18432 3)
  pub above_first_parent : ¬ IsThird 100 50 third (entry_by 1 2 18433 3)
  -- the same of the nearest node (`on_the_wall`)
  pub above_nearest : ¬ IsThird 50 50 (third_with (at 0 50) 12800 18410 12800) (entry_by 2 1 24249 3)
  -- the bound for four nodes is 38400
  pub at_the_bound : IsThird 100 50 (third_with (at 0 50) 12800 32563 12800) (entry_by 2 2 38400 3)
  pub above_the_bound : ¬ IsThird 100 50 (third_with (at 0 50) 12800 32563 12800) (entry_by 2 2 38401 3)
  pub cost_rose : ¬ IsThird 100 50 (third_with (at 0 50) 12800 12594 12801) (entry_by 2 0 12800 2)

-- ---- marks without a node
-- worker 1 placed mark 0 at the origin, where worker 0 ends with mark 1; the start stands elsewhere
abbrev pub ended : Record → TreeState
ended entry = nodes_with (Some (at 5 5) ∷ Some (at 0 0) ∷ []) (0 ∷ 1811 ∷ []) (placed_by 1 0 0 0 1811 1 ∷ entry ∷ [])

-- worker 0 placed mark 0 at (20, 0), and worker 1 mark 1 halfway, where worker 0 then ends with mark 2
abbrev pub halfway : Record → TreeState
halfway entry = nodes_with (Some (at 0 0) ∷ Some (at 20 0) ∷ Some (at 10 0) ∷ []) (0 ∷ 5120 ∷ 2560 ∷ [])
    (placed_by 0 0 0 0 5120 1 ∷ placed_by 1 0 0 0 2560 1 ∷ entry ∷ [])

-- no mark was placed
abbrev pub start_at : Point → Record → TreeState
start_at p entry = nodes_with (Some p ∷ []) [] (entry ∷ [])

pub record UnplacedRecordVectors : Type 0 where
  pub same : IsLawfulRecord (room_by 100 50 50) (ended (unplaced_record 0 0 1 (Same 1))) 1 (at 0 0) (unplaced_record 0 0 1 (Same 1))
  -- number 9 is absent, so that its point is the origin too
  pub nearest_absent : ¬ IsLawfulRecord (room_by 100 50 50) (ended (unplaced_record 0 0 9 (Same 1))) 1 (at 0 0) (unplaced_record 0 0 9 (Same 1))
  pub other_node_there : ¬ IsLawfulRecord (room_by 100 50 50) (ended (unplaced_record 0 0 1 (Same 0))) 1 (at 0 0) (unplaced_record 0 0 1 (Same 0))
  -- of two own nodes as near the lesser number
  pub lesser_number : IsLawfulRecord (room_by 100 50 50) (halfway (unplaced_record 0 1 0 (Same 2))) 2 (at 10 0) (unplaced_record 0 1 0 (Same 2))
  pub greater_number : ¬ IsLawfulRecord (room_by 100 50 50) (halfway (unplaced_record 0 1 1 (Same 2))) 2 (at 10 0) (unplaced_record 0 1 1 (Same 2))
  -- the mark is past the wall, and on it
  pub blocked : IsLawfulRecord (room_by 9 50 50) (start_at (at 0 0) (unplaced_record 0 0 0 Blocked)) 0 (at 0 10) (unplaced_record 0 0 0 Blocked)
  pub blocked_though_clear :
      ¬ IsLawfulRecord (room_by 10 50 50) (start_at (at 0 0) (unplaced_record 0 0 0 Blocked)) 0 (at 0 10) (unplaced_record 0 0 0 Blocked)
  -- past the wall a step of 2 leads away from the start, and one of 1 does not
  pub blocked_beside : IsLawfulRecord (room_by 5 2 50) (start_at (at 7 7) (unplaced_record 0 0 0 Blocked)) 0 (at 20 20) (unplaced_record 0 0 0 Blocked)
  pub blocked_at_own_node :
      ¬ IsLawfulRecord (room_by 5 1 50) (start_at (at 7 7) (unplaced_record 0 0 0 Blocked)) 0 (at 20 20) (unplaced_record 0 0 0 Blocked)

-- ---- A start and two nodes below it that keep the order law, and trees that differ in one number and break one clause of it; the bound on costs.
-- a point body in an empty room that is 100 wide and so high, with this start, and steps of 50
abbrev pub room_to : ℕ → Point → Setup
room_to height start = record { space = empty_room (at 100 height); start = start; step = 50; gamma = 40; goals = [] }

-- nodes with these parents and costs, which are 0 past the lists; no mark has a record
abbrev pub tree_of : List (Option Point) → List ℕ → List ℕ → TreeState
tree_of points parents costs =
    record { points = points; parent = λ n. slice_index_or parents n 0; cost = λ n. slice_index_or costs n 0; written_cost = λ n. 0; record_of = λ k. None }

-- node 1 is a step away from the start and on the wall; an edge from the start to it costs 12800
abbrev pub three_points : List (Option Point)
three_points = Some (at 0 0) ∷ Some (at 0 50) ∷ Some (at 0 10) ∷ []

abbrev pub start_for_all : List ℕ
start_for_all = 0 ∷ 0 ∷ 0 ∷ []

pub record UnlawfulTreeVectors : Type 0 where
  pub lawful : KeepsOrder (room_to 50 (at 0 0)) (tree_of three_points start_for_all (0 ∷ 12803 ∷ 12803 ∷ []))
  pub least_cost : KeepsOrder (room_to 50 (at 0 0)) (tree_of three_points start_for_all (0 ∷ 12800 ∷ 12803 ∷ []))
  pub greatest_cost : KeepsOrder (room_to 50 (at 0 0)) (tree_of three_points start_for_all (0 ∷ 25600 ∷ 12803 ∷ []))
  -- each of these is lawful but for what its name says
  pub two_at_one_point : ¬ KeepsOrder (room_to 50 (at 0 0))
      (tree_of (Some (at 0 0) ∷ Some (at 0 50) ∷ Some (at 0 50) ∷ []) start_for_all (0 ∷ 12803 ∷ 12803 ∷ []))
  pub start_elsewhere : ¬ KeepsOrder (room_to 50 (at 1 0)) (tree_of three_points start_for_all (0 ∷ 12803 ∷ 12803 ∷ []))
  pub start_below_a_node : ¬ KeepsOrder (room_to 50 (at 0 0)) (tree_of three_points (1 ∷ 0 ∷ 0 ∷ []) (0 ∷ 12803 ∷ 12803 ∷ []))
  pub start_at_a_cost : ¬ KeepsOrder (room_to 50 (at 0 0)) (tree_of three_points start_for_all (1 ∷ 12803 ∷ 12803 ∷ []))
  -- number 3 is absent, so that its point is the origin
  pub parent_absent : ¬ KeepsOrder (room_to 50 (at 0 0)) (tree_of three_points (0 ∷ 3 ∷ 0 ∷ []) (0 ∷ 12803 ∷ 12803 ∷ []))
  pub parent_of_itself : ¬ KeepsOrder (room_to 50 (at 0 0)) (tree_of three_points (0 ∷ 1 ∷ 0 ∷ []) (0 ∷ 12803 ∷ 12803 ∷ []))
  pub edge_not_clear : ¬ KeepsOrder (room_to 49 (at 0 0)) (tree_of three_points start_for_all (0 ∷ 12803 ∷ 12803 ∷ []))
  -- the square of its length is 2501
  pub edge_longer_than_a_step : ¬ KeepsOrder (room_to 50 (at 0 0))
      (tree_of (Some (at 0 0) ∷ Some (at 1 50) ∷ Some (at 0 10) ∷ []) start_for_all (0 ∷ 12803 ∷ 12803 ∷ []))
  pub cost_below_parent_and_edge : ¬ KeepsOrder (room_to 50 (at 0 0)) (tree_of three_points start_for_all (0 ∷ 12799 ∷ 12803 ∷ []))
  pub cost_above_bound : ¬ KeepsOrder (room_to 50 (at 0 0)) (tree_of three_points start_for_all (0 ∷ 25601 ∷ 12803 ∷ []))
  -- a start alone, on the wall and past it
  pub alone : KeepsOrder (room_to 50 (at 0 50)) (tree_of (Some (at 0 50) ∷ []) [] [])
  pub start_not_clear : ¬ KeepsOrder (room_to 50 (at 0 51)) (tree_of (Some (at 0 51) ∷ []) [] [])

pub record CostBoundVectors : Type 0 where
  -- a longest edge for each node after the start
  pub bounds : map (most_cost_of (room_to 50 (at 0 0))) (0 ∷ 1 ∷ 2 ∷ 3 ∷ []) ≡ 0 ∷ 0 ∷ 12800 ∷ 25600 ∷ []
