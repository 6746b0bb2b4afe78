-- Worked values of configuration spaces: rooms, overlaps, clearances and meetings.
use Rattle.std.specs.Prelude.{◌≡◌, List, pos, neg_ℤ, [], ◌∷◌, Some, slice_get, slice_index_or}
use Rattle.plan_model.specs.Terms.{ConfigurationSpace, Vertex, le_refl}
use Rattle.plan_model.specs.Spaces.ConfigurationSpace.{space_among, at_lattice, InRoom, scaled}
use Rattle.plan_model.specs.Spaces.Clearance.{on_the_way, ClearAt, Clear}
use Rattle.plan_model.specs.Vectors.Geometry.{at, corner, corner_below, two_is_positive, halves}
use Rattle.plan_model.specs.Spaces.Zones.{Meets}
use Rattle.plan_model.specs.declared.records.Record.{Record}
use Rattle.plan_model.specs.Runs.ClosedLaw.{IsClosed}
use Rattle.plan_model.specs.Trees.TreeStates.{TreeState}
use Rattle.plan_model.specs.Runs.OrderLaw.{turns_of}
use Rattle.plan_model.specs.Vectors.Reports.{placed_by}
use Rattle.plan_model.specs.Vectors.Runs.{open_setup, marks_to_rewire}

-- ---- A body in a room of 10 by 10, and points of a segment.
abbrev pub triangle : List Vertex
triangle = corner 0 0 ∷ corner 4 0 ∷ corner 0 4 ∷ []

abbrev pub ten_by_ten : List Vertex → ConfigurationSpace
ten_by_ten body = space_among (at 10 10) body []

pub record RoomVectors : Type 0 where
  -- the corners of the body touch two walls
  pub at_walls : InRoom (ten_by_ten triangle) (at_lattice (at 6 6))
  pub past_wall : ¬ InRoom (ten_by_ten triangle) (at_lattice (at 7 6))
  -- in halves of a step: at the same two walls, and half a step past each of the four
  pub at_walls_in_halves : InRoom (ten_by_ten triangle) (halves (pos 12) (pos 12))
  pub past_right : ¬ InRoom (ten_by_ten triangle) (halves (pos 13) (pos 12))
  pub past_top : ¬ InRoom (ten_by_ten triangle) (halves (pos 12) (pos 13))
  pub past_left : ¬ InRoom (ten_by_ten triangle) (halves (neg_ℤ (pos 1)) (pos 0))
  pub past_bottom : ¬ InRoom (ten_by_ten triangle) (halves (pos 0) (neg_ℤ (pos 1)))
  -- the only corner is in the room, and the origin of the body is not
  pub origin_outside : ¬ InRoom (ten_by_ten (corner_below 4 0 ∷ [])) (at_lattice (at 12 0))
  pub first : on_the_way (at 3 5) (at 0 0) 0 1 (le_refl 1) ≡ at_lattice (at 3 5)
  pub last : on_the_way (at 3 5) (at 0 0) 1 1 (le_refl 1) ≡ at_lattice (at 0 0)
  pub halfway : on_the_way (at 0 0) (at 3 5) 1 2 two_is_positive ≡ halves (pos 3) (pos 5)
  pub halfway_back : on_the_way (at 3 5) (at 0 0) 1 2 two_is_positive ≡ halves (pos 3) (pos 5)
  -- a point with twice its denominator
  pub doubled : scaled 2 two_is_positive (at_lattice (at 3 5)) ≡ halves (pos 6) (pos 10)

-- ---- Bodies that touch an obstacle or come as close as the clearance, and bodies that lie beside it.
abbrev pub small_triangle : List Vertex
small_triangle = corner 0 0 ∷ corner 2 0 ∷ corner 0 2 ∷ []

abbrev pub great_triangle : List Vertex
great_triangle = corner 10 10 ∷ corner 20 10 ∷ corner 10 20 ∷ []

abbrev pub small_square : List Vertex
small_square = corner 0 0 ∷ corner 2 0 ∷ corner 2 2 ∷ corner 0 2 ∷ []

abbrev pub great_square : List Vertex
great_square = corner 10 0 ∷ corner 20 0 ∷ corner 20 10 ∷ corner 10 10 ∷ []

-- all of it lies to the right of its origin
abbrev pub far_square : List Vertex
far_square = corner 20 0 ∷ corner 22 0 ∷ corner 22 2 ∷ corner 20 2 ∷ []

abbrev pub point_body : List Vertex
point_body = corner 0 0 ∷ []

-- its upper left corner is (40, 60)
abbrev pub pillar : List Vertex
pillar = corner 40 0 ∷ corner 60 0 ∷ corner 60 60 ∷ corner 40 60 ∷ []

pub record MeetingVectors : Type 0 where
  -- the middle of the body's long edge touches the obstacle's corner
  pub at_corner : Meets 0 small_triangle (at_lattice (at 9 9)) great_triangle
  pub beside_corner : ¬ Meets 0 small_triangle (at_lattice (at 8 9)) great_triangle
  -- the same in halves of a step
  pub at_corner_in_halves : Meets 0 small_triangle (halves (pos 18) (pos 18)) great_triangle
  pub half_beside_corner : ¬ Meets 0 small_triangle (halves (pos 17) (pos 18)) great_triangle
  -- the body lies within the obstacle
  pub inside : Meets 0 small_triangle (at_lattice (at 12 12)) great_triangle
  -- two edges touch
  pub at_edge : Meets 0 small_square (at_lattice (at 8 3)) great_square
  pub beside_edge : ¬ Meets 0 small_square (at_lattice (at 7 3)) great_square
  -- the body's origin is none of its points: the body lies beyond the obstacle, its origin before it
  pub at_far_edge : Meets 0 far_square (at_lattice (at 0 3)) great_square
  pub beyond_far_edge : ¬ Meets 0 far_square (at_lattice (at 1 3)) great_square
  -- without a clearance, at the obstacle's upper left corner and beside it
  pub at_pillar : Meets 0 point_body (at_lattice (at 40 60)) pillar
  pub beside_pillar : ¬ Meets 0 point_body (at_lattice (at 39 60)) pillar
  -- with clearance 5 the corner that is met is square: it is met at the distance of 5 in both coordinates
  pub at_clearance : Meets 5 point_body (at_lattice (at 35 65)) pillar
  pub left_of_clearance : ¬ Meets 5 point_body (at_lattice (at 34 65)) pillar
  pub left_of_clearance_and_above : ¬ Meets 5 point_body (at_lattice (at 34 66)) pillar
  pub above_clearance : ¬ Meets 5 point_body (at_lattice (at 35 66)) pillar

-- ---- Two workers whose first marks overlap: a closed run that no order of whole marks gives.
-- Worker 0 chose the start as nearest for mark 0 before worker 1 placed mark 1, and counted two nodes after it.
abbrev pub early_record : Record
early_record = placed_by 0 0 0 0 12800 2

abbrev pub overlapping_records : List Record
overlapping_records = early_record ∷ placed_by 1 0 0 0 12594 1 ∷ placed_by 0 1 2 0 12800 2 ∷ []

-- node 2 is a step from the start towards its mark
abbrev pub overlapped : TreeState
overlapped = record {
  points = Some (at 0 0) ∷ Some (at 0 50) ∷ Some (at 22 44) ∷ Some (at 40 30) ∷ [];
  parent = λ n. 0;
  cost = λ n. slice_index_or (0 ∷ 12800 ∷ 12594 ∷ 12800 ∷ []) n 0;
  written_cost = λ n. 0;
  record_of = slice_get overlapping_records;
}

pub record OverlapVectors : Type 0 where
  pub closed : IsClosed open_setup marks_to_rewire 3 overlapped
  -- each worker counts its own turns
  pub turns_before : turns_of overlapped.record_of 2 0 ≡ 1
  pub turns_after : turns_of overlapped.record_of 3 0 ≡ 2
  pub turns_of_other : turns_of overlapped.record_of 3 1 ≡ 1
  pub turns_of_none : turns_of overlapped.record_of 3 2 ≡ 0

-- ---- Points and segments of a point body beside a square, and of one with a clearance beside a pillar.
abbrev pub square : List Vertex
square = corner 10 10 ∷ corner 20 10 ∷ corner 20 20 ∷ corner 10 20 ∷ []

abbrev pub beside_square : ConfigurationSpace
beside_square = space_among (at 30 30) point_body (square ∷ [])

-- with a clearance of 5
abbrev pub apart_from_pillar : ConfigurationSpace
apart_from_pillar = record { room = at 100 100; body = point_body; obstacles = pillar ∷ []; clearance = 5 }

pub record ClearanceVectors : Type 0 where
  pub beside : ClearAt beside_square (at 9 11)
  pub below : ClearAt beside_square (at 11 9)
  -- touching is not clear
  pub at_corner : ¬ ClearAt beside_square (at 10 10)
  -- both ends are clear, and the corner is touched halfway
  pub round_corner : ¬ Clear beside_square (at 9 11) (at 11 9)
  pub along_edge : Clear beside_square (at 9 5) (at 9 25)
  -- a way along the wall
  pub along_wall : Clear beside_square (at 0 30) (at 0 0)
  -- ways across the top of the pillar, 5 steps above it and 6
  pub at_clearance : ¬ Clear apart_from_pillar (at 30 65) (at 70 65)
  pub above_clearance : Clear apart_from_pillar (at 30 66) (at 70 66)
  -- walls have no clearance
  pub at_wall : ClearAt apart_from_pillar (at 0 100)
