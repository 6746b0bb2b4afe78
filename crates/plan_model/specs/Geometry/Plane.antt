-- Distances between points, and orientations of corners. Lengths are in lattice steps.
use Rattle.std.specs.Prelude.{◌≤◌, ℕ, ◌+◌, ◌*◌, min, max, ℤ, ◌-ℤ◌, ◌*ℤ◌, ◌==◌, nat_le, ◌&&◌, ◌||◌, Bool, pos, int_lt, List, length, if◌then◌else◌}
use Rattle.std.specs.Prelude.{slice_index_or}
use Rattle.plan_model.specs.Terms.{Goal, MOST_COORDINATE, Point, Vertex, abs_diff, list_all, range_with_len}

-- ---- Points whose distances fit 64 bits, and boxes of them.
-- neither coordinate is above the greatest one
pub record IsBounded (p : Point) : Type 0 where
  pub right : p.x ≤ MOST_COORDINATE
  pub top : p.y ≤ MOST_COORDINATE

-- the box has a lattice point, and all of them are so
pub record IsBoundedBox (goal : Goal) : Type 0 where
  pub across : goal.low.x ≤ goal.high.x
  pub up : goal.low.y ≤ goal.high.y
  pub high : IsBounded goal.high

-- ---- plane
-- the square of the distance between two points
abbrev pub squared_distance : Point → Point → ℕ
squared_distance a b = abs_diff a.x b.x * abs_diff a.x b.x + abs_diff a.y b.y * abs_diff a.y b.y

-- p lies in the box of a and b: each coordinate between theirs
pub record IsInBoxOf (a b p : Point) : Type 0 where
  pub left : min a.x b.x ≤ p.x
  pub right : p.x ≤ max a.x b.x
  pub bottom : min a.y b.y ≤ p.y
  pub top : p.y ≤ max a.y b.y

-- Twice the signed area of the triangle a b c: above 0 exactly if c lies strictly to the left of the line from a to b.
abbrev pub orientation : Vertex → Vertex → Vertex → ℤ
orientation a b c = ((b.x -ℤ a.x) *ℤ (c.y -ℤ a.y)) -ℤ ((b.y -ℤ a.y) *ℤ (c.x -ℤ a.x))

-- ---- Polygons whose corners are strictly convex and counterclockwise.
-- the corner with this number
abbrev pub corner_at : List Vertex → ℕ → Vertex
corner_at corners i = slice_index_or corners i (record { x = pos 0; y = pos 0 })

-- the number of the corner after corner i of n
abbrev pub next_corner : ℕ → ℕ → ℕ
next_corner n i = if i + 1 == n then 0 else i + 1

-- every other corner lies strictly to the left of the edge from corner i to the next
abbrev pub is_left_of_edge : List Vertex → ℕ → Bool
is_left_of_edge corners i = list_all (λ k. k == i || (k == next_corner (length corners) i
    || int_lt (pos 0) (orientation (corner_at corners i) (corner_at corners (next_corner (length corners) i)) (corner_at corners k))))
    (range_with_len 0 (length corners))

-- three corners at least, and every edge has all other corners strictly to its left
abbrev pub is_strictly_convex : List Vertex → Bool
is_strictly_convex corners = nat_le 3 (length corners) && list_all (is_left_of_edge corners) (range_with_len 0 (length corners))
