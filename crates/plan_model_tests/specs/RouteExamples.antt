-- Worked examples of routes that are followed, and of chains of nodes.
use Rattle.std.specs.Prelude.{◌≡◌, None, List, [], ◌∷◌, ℕ, ◌≤◌, All, Option, Some, slice_get}
use Rattle.plan_model_tests.specs.Terms.{AreHandledInTurn, ClearAt, ConfigurationSpace, EndApart, Goal, HasClearDisc, HasGoalNode, IsChain, IsChainInOrder}
use Rattle.plan_model_tests.specs.Terms.{IsLinkInOrder, IsNearLink, IsOpenLink, IsReached, IsRoute, IsTextbookRun, KeepsBodyFar, Nodes, Point, Record, Setup}
use Rattle.plan_model_tests.specs.Terms.{TreeState, Vertex, at, blocked_record, box, corner, cost_of_chain, cost_of_route, empty_room, end_of, great_triangle}
use Rattle.plan_model_tests.specs.Terms.{least_radius, marks_to_rewire, node, open_setup, open_setup_to, overlapped, placed_by, placed_record, point_body}
use Rattle.plan_model_tests.specs.Terms.{points_of, rewired_records, rewired_tree, same_record, skipped_record, small_square, space_among, squared_distance}
use Rattle.plan_model_tests.specs.Terms.{state_of, sum_of}
use Rattle.plan_model_tests.specs.NarrowRuns.{narrow_setup}

-- ---- A textbook run in which a node moves below a later one, and then two marks end at older nodes: chains of its nodes that are in order, and
-- chains that are not and cost less than their last node.
-- a point body in the corner of an empty room; with this gamma the radius of each class of so few nodes is the step
abbrev pub small_setup : Setup
small_setup = record { space = empty_room (at 10 10); start = at 0 3; step = 5; gamma = 20; goals = [] }

-- Node 3 hangs below node 1, since node 2 costs more. Then node 4 gives node 2 a cheaper way, and stands too far from node 3. The last two
-- marks stand where node 2 and node 3 do, so that nothing chooses a parent or is rewired again.
abbrev pub late_marks : List Point
late_marks = at 6 2 ∷ at 5 5 ∷ at 7 5 ∷ at 1 3 ∷ at 5 5 ∷ at 7 5 ∷ []

abbrev pub late_tree : Nodes
late_tree = node (at 0 3) 0 ∷ node (at 4 3) 0 ∷ node (at 5 5) 4 ∷ node (at 7 5) 1 ∷ node (at 1 3) 0 ∷ None ∷ None ∷ []

abbrev pub late_records : List Record
late_records = placed_record 0 0 0 1024 1 ∷ placed_record 1 1 1 1597 2 ∷ placed_record 2 2 1 1948 2 ∷ placed_record 3 0 0 256 3
    ∷ same_record 4 2 2 ∷ same_record 5 3 3 ∷ []

abbrev pub late : TreeState
late = state_of late_tree late_records

pub record ChainVectors : Type 0 where
  pub run : IsTextbookRun small_setup late_marks late_tree late_records
  pub cost_of_moved : sum_of late_tree 2 ≡ 1401
  pub cost_of_last : sum_of late_tree 3 ≡ 1948
  -- in order, as dear as the last node, and dearer
  pub in_order : IsChainInOrder small_setup late (3 ∷ 1 ∷ 0 ∷ [])
  pub cost_in_order : cost_of_chain late (3 ∷ 1 ∷ 0 ∷ []) ≡ 1948
  pub longer_in_order : IsChainInOrder small_setup late (3 ∷ 2 ∷ 1 ∷ 0 ∷ [])
  pub cost_of_longer : cost_of_chain late (3 ∷ 2 ∷ 1 ∷ 0 ∷ []) ≡ 2109
  -- the last link alone may lead back in time
  pub last_link_back : IsChain small_setup late 2 (4 ∷ 0 ∷ [])
  pub not_in_order : ¬ IsChainInOrder small_setup late (2 ∷ 4 ∷ 0 ∷ [])
  pub cost_of_way_back : cost_of_chain late (2 ∷ 4 ∷ 0 ∷ []) ≡ 1401
  -- in the middle it may not: this route of the last marks costs less than node 3
  pub out_of_order : ¬ IsChain small_setup late 3 (2 ∷ 4 ∷ 0 ∷ [])
  pub cost_out_of_order : cost_of_chain late (3 ∷ 2 ∷ 4 ∷ 0 ∷ []) ≡ 1913
  -- past the radius of 5 an edge from the start, whose square is 29, costs less than node 2
  pub past_the_radius : ¬ IsChain small_setup late 2 (0 ∷ [])
  pub cost_past_the_radius : cost_of_chain late (2 ∷ 0 ∷ []) ≡ 1379
  -- a chain begins at the start
  pub start_alone : IsChain small_setup late 0 []
  pub begins_elsewhere : ¬ IsChain small_setup late 3 (1 ∷ [])

-- the setup of the run of two workers, in a room so low that node 1 stands past its wall
abbrev pub low_setup : Setup
low_setup = record { space = empty_room (at 100 49); start = at 0 0; step = 50; gamma = 1000; goals = [] }

pub record LinkVectors : Type 0 where
  -- nodes 1 and 3 are of one worker
  pub of_one_worker : IsLinkInOrder open_setup overlapped 1 3
  pub back : ¬ IsLinkInOrder open_setup overlapped 3 1
  -- node 2 is of another
  pub of_two_workers : ¬ IsLinkInOrder open_setup overlapped 2 3
  pub from_start : IsLinkInOrder open_setup overlapped 0 2
  pub to_start : ¬ IsLinkInOrder open_setup overlapped 1 0
  pub not_clear : ¬ IsLinkInOrder low_setup overlapped 1 3
  -- the last two marks of the other run were not placed
  pub not_placed : ¬ IsLinkInOrder small_setup late 2 5

-- ---- Links beside a thin triangle, in an empty room, and beside a wide triangle.
-- ---- open links
-- a triangle with no lattice point but its corners
abbrev pub thin_triangle : List Vertex
thin_triangle = corner 0 4 ∷ corner 11 5 ∷ corner 10 5 ∷ []

abbrev pub thin_space : ConfigurationSpace
thin_space = space_among (at 20 20) point_body (thin_triangle ∷ [])

abbrev pub thin_setup : Setup
thin_setup = record { space = thin_space; start = at 5 3; step = 4; gamma = 0; goals = [] }

pub record OpenLinkVectors : Type 0 where
  -- along a wall, with no clear disc
  pub along_wall : IsOpenLink open_setup (at 0 0) (at 0 50)
  pub disc_past_wall : ¬ HasClearDisc open_setup (at 0 0) (at 0 50)
  pub one_too_long : ¬ IsOpenLink open_setup (at 0 0) (at 0 51)
  -- the triangle lies across the way, though each lattice point that is no farther from the end is clear
  pub lattice_points_clear : (p : Point) → squared_distance p (at 5 5) ≤ squared_distance (at 5 3) (at 5 5) → ClearAt thin_space p
  pub cut_by_corner : ¬ IsOpenLink thin_setup (at 5 3) (at 5 5)
  pub disc_cut_by_corner : ¬ HasClearDisc thin_setup (at 5 3) (at 5 5)
  -- the way itself is clear, but not the one from a point as far on the other side
  pub cut_on_other_side : ¬ IsOpenLink thin_setup (at 5 6) (at 5 5)

-- ---- discs
-- a body beside a wide triangle, at such a clearance
abbrev pub wide_setup : List Vertex → ℕ → Setup
wide_setup body clearance = record {
  space = record { room = at 30 30; body = body; obstacles = great_triangle ∷ []; clearance = clearance };
  start = at 0 0;
  step = 4;
  gamma = 0;
  goals = [];
}

-- its disc is not clear, and the body does not keep far enough away
pub record IsNeither (setup : Setup) (a b : Point) : Type 0 where
  pub disc : ¬ HasClearDisc setup a b
  pub body : ¬ KeepsBodyFar setup a b

pub record DiscVectors : Type 0 where
  pub beside : KeepsBodyFar (wide_setup point_body 0) (at 3 15) (at 6 15)
  pub to_triangle : IsNeither (wide_setup point_body 0) (at 2 15) (at 6 15)
  pub to_wall : KeepsBodyFar (wide_setup point_body 0) (at 6 15) (at 3 15)
  pub past_wall : IsNeither (wide_setup point_body 0) (at 7 15) (at 3 15)
  pub with_clearance : IsNeither (wide_setup point_body 1) (at 3 15) (at 6 15)
  pub with_wider_body : IsNeither (wide_setup small_square 0) (at 3 15) (at 6 15)
  pub one_too_long : IsNeither (wide_setup point_body 0) (at 0 5) (at 5 5)

-- ---- Routes of the worked run with a node that is rewired, points that are reached, and runs that do not reach their only mark.
-- ---- routes
-- the numbers are those of a route of open links
abbrev pub IsOpenRoute : List ℕ → Type 0
IsOpenRoute numbers = IsRoute open_setup marks_to_rewire (IsOpenLink open_setup) numbers

pub record RouteVectors : Type 0 where
  pub over_two : IsOpenRoute (0 ∷ 1 ∷ [])
  pub start_alone : IsOpenRoute []
  -- all links are open
  pub falling : ¬ IsOpenRoute (2 ∷ 1 ∷ [])
  pub twice : ¬ IsOpenRoute (0 ∷ 0 ∷ [])
  pub past_marks : ¬ IsOpenRoute (0 ∷ 3 ∷ [])
  -- the first link, and the second, is too long
  pub first_link : ¬ IsOpenRoute (1 ∷ [])
  pub second_link : ¬ IsRoute open_setup (at 0 50 ∷ at 51 50 ∷ []) (IsOpenLink open_setup) (0 ∷ 1 ∷ [])

-- ---- points that are reached
-- a tree in which mark 1 gave a node at the point of both marks, and mark 0 none
abbrev pub late_points : List (Option Point)
late_points = Some (at 0 0) ∷ None ∷ Some (at 0 50) ∷ []

pub record ReachedVectors : Type 0 where
  pub both : All (IsReached marks_to_rewire (points_of rewired_tree)) (0 ∷ 1 ∷ [])
  pub by_older : IsReached (at 0 50 ∷ at 0 0 ∷ []) late_points 1
  pub in_time : IsReached (at 0 50 ∷ at 0 50 ∷ []) late_points 1
  pub too_late : ¬ IsReached (at 0 50 ∷ at 0 50 ∷ []) late_points 0

-- ---- runs that do not reach their only mark
-- the start, and no node for the mark
abbrev pub no_node : Point → Nodes
no_node start = node start 0 ∷ None ∷ []

-- the step ends one lattice step before the mark
abbrev pub short_of_mark : Nodes
short_of_mark = node (at 0 0) 0 ∷ node (at 0 50) 0 ∷ []

-- a goal at the start
abbrev pub goal_at_start : List Goal
goal_at_start = box 0 0 0 0 ∷ []

pub record UnfollowedVectors : Type 0 where
  pub blocked : IsTextbookRun thin_setup (at 5 5 ∷ []) (no_node (at 5 3)) (blocked_record 0 0 ∷ [])
  pub not_reached : ¬ IsReached (at 5 5 ∷ []) (points_of (no_node (at 5 3))) 0
  pub short : IsTextbookRun open_setup (at 0 51 ∷ []) short_of_mark (placed_record 0 0 0 12800 1 ∷ [])
  pub not_quite : ¬ IsReached (at 0 51 ∷ []) (points_of short_of_mark) 0
  -- the link is open, but a path over the mark could not be cheaper
  pub skipped : IsTextbookRun (open_setup_to goal_at_start) (at 0 50 ∷ []) (no_node (at 0 0)) (skipped_record 0 0 ∷ [])
  pub open_link : IsOpenLink (open_setup_to goal_at_start) (at 0 0) (at 0 50)
  pub not_needed : ¬ IsReached (at 0 50 ∷ []) (points_of (no_node (at 0 0))) 0
  pub goal_node : HasGoalNode goal_at_start (points_of (no_node (at 0 0)))

-- ---- Routes of near links: the least radius of a run, what routes cost, and marks that end at older nodes.
abbrev pub two_marks : List Point
two_marks = at 0 40 ∷ at 40 40 ∷ []

abbrev pub three_marks : List Point
three_marks = at 0 40 ∷ at 40 40 ∷ at 40 0 ∷ []

-- how six marks ended
abbrev pub six_records : List Record
six_records =
    placed_record 0 0 0 12800 1 ∷ same_record 1 1 1 ∷ placed_record 2 1 1 12800 2 ∷ same_record 3 1 1 ∷ same_record 4 2 3 ∷ blocked_record 5 0 ∷ []

-- no two of these marks that follow each other ended at older nodes
abbrev pub EndApartIn : List Record → List ℕ → Type 0
EndApartIn records numbers = EndApart (slice_get records) numbers

pub record NearRouteVectors : Type 0 where
  pub at_three_nodes : least_radius narrow_setup two_marks ≡ 40
  pub at_four_nodes : least_radius narrow_setup three_marks ≡ 34
  pub near : IsNearLink narrow_setup two_marks (at 0 0) (at 0 40)
  pub one_too_long : ¬ IsNearLink narrow_setup two_marks (at 0 0) (at 0 41)
  pub one_mark_more : ¬ IsNearLink narrow_setup three_marks (at 0 0) (at 0 40)
  -- the worked run whose path costs 25344
  pub route : IsRoute open_setup marks_to_rewire (IsNearLink open_setup marks_to_rewire) (0 ∷ 1 ∷ [])
  pub cost : cost_of_route open_setup marks_to_rewire (0 ∷ 1 ∷ []) ≡ 25449
  pub ends : end_of (at 0 0) (at 0 50 ∷ at 40 79 ∷ []) ≡ at 40 79
  pub placed : EndApartIn rewired_records (0 ∷ 1 ∷ [])
  -- the route that is the start alone
  pub no_link : cost_of_route open_setup marks_to_rewire [] ≡ 0
  pub at_start : end_of (at 0 0) [] ≡ at 0 0
  pub in_turn : EndApartIn six_records (1 ∷ 2 ∷ 3 ∷ 5 ∷ [])
  pub first_two : ¬ EndApartIn six_records (1 ∷ 3 ∷ [])
  pub last_two : ¬ EndApartIn six_records (0 ∷ 2 ∷ 3 ∷ 4 ∷ [])

-- ---- Marks of a route that one worker handled in turn, and marks that two handled, or one out of turn.
-- worker 0 placed the nodes of marks 0 and 2, in this order, and worker 1 that of mark 1
abbrev pub two_workers : TreeState
two_workers = state_of [] (placed_by 0 0 0 0 12800 1 ∷ placed_by 1 0 0 0 12800 1 ∷ placed_by 0 1 1 1 25600 2 ∷ [])

pub record WorkersTurnVectors : Type 0 where
  pub by_one : AreHandledInTurn two_workers 0 (0 ∷ 2 ∷ [])
  pub by_two : ¬ AreHandledInTurn two_workers 0 (0 ∷ 1 ∷ [])
  pub out_of_turn : ¬ AreHandledInTurn two_workers 0 (2 ∷ 0 ∷ [])
