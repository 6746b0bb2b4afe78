-- The ranges of a scene's fields, by the version of the scene.
use Rattle.std.specs.Prelude.{ℕ, ◌≤◌, ◌==◌, nat_le, ◌&&◌, ◌||◌, not, Bool, ℤ, int_le, List, length, if◌then◌else◌}
use Rattle.plan_model.specs.Terms.{Drawn, Goal, LEAST_BODY_COORDINATE, LEAST_OBSTACLE_COORDINATE, LEAST_OBSTACLE_COORDINATE_OF_VERSION_2, Listed}
use Rattle.plan_model.specs.Terms.{MOST_BODY_COORDINATE, MOST_BODY_CORNERS, MOST_CLEARANCE, MOST_GOALS, MOST_MARKS, MOST_OBSTACLES, MOST_OBSTACLE_COORDINATE}
use Rattle.plan_model.specs.Terms.{MOST_OBSTACLE_COORDINATE_OF_VERSION_2, MOST_OBSTACLE_CORNERS, MOST_SIDE, MOST_SIDE_OF_VERSION_2, MOST_STEP}
use Rattle.plan_model.specs.Terms.{MOST_STEP_OF_VERSION_2, Marks, Point, Vertex, list_all}
use Rattle.plan_model.specs.Geometry.Plane.{is_strictly_convex}

-- ---- the limits that differ
-- the first value in version 1, and the second one in version 2
abbrev pub by_version : {A : Type 0} → ℕ → A → A → A
by_version version first second = if version == 1 then first else second

-- the greatest side of a room, and the greatest coordinate of a start, a goal and a listed mark
abbrev pub most_side : ℕ → ℕ
most_side version = by_version version MOST_SIDE MOST_SIDE_OF_VERSION_2

-- the greatest step
abbrev pub most_step : ℕ → ℕ
most_step version = by_version version MOST_STEP MOST_STEP_OF_VERSION_2

-- the least coordinate of an obstacle's corner
abbrev pub least_obstacle_coordinate : ℕ → ℤ
least_obstacle_coordinate version = by_version version LEAST_OBSTACLE_COORDINATE LEAST_OBSTACLE_COORDINATE_OF_VERSION_2

-- the greatest coordinate of an obstacle's corner
abbrev pub most_obstacle_coordinate : ℕ → ℤ
most_obstacle_coordinate version = by_version version MOST_OBSTACLE_COORDINATE MOST_OBSTACLE_COORDINATE_OF_VERSION_2

-- the most goals
abbrev pub most_goals : ℕ → ℕ
most_goals version = by_version version 1 MOST_GOALS

-- the greatest clearance
abbrev pub most_clearance : ℕ → ℕ
most_clearance version = by_version version 0 MOST_CLEARANCE

-- ---- the fields
-- both coordinates are between low and high
pub record IsBetween (low high : ℕ) (p : Point) : Type 0 where
  pub left : low ≤ p.x
  pub right : p.x ≤ high
  pub bottom : low ≤ p.y
  pub top : p.y ≤ high

-- both corners are within the greatest side of a room, and the low one is not above the high one
abbrev pub is_goal : ℕ → Goal → Bool
is_goal version goal = (nat_le goal.high.x (most_side version) && nat_le goal.high.y (most_side version))
    && (nat_le goal.low.x goal.high.x && nat_le goal.low.y goal.high.y)

-- one goal at least, and not too many
abbrev pub are_goals : ℕ → List Goal → Bool
are_goals version goals = (nat_le 1 (length goals) && nat_le (length goals) (most_goals version)) && list_all (is_goal version) goals

-- both coordinates of the corner are between two numbers
abbrev pub is_corner_between : ℤ → ℤ → Vertex → Bool
is_corner_between low high v = int_le low v.x && (int_le v.x high && (int_le low v.y && int_le v.y high))

-- one corner, or a strictly convex polygon of not too many, with coordinates in the range of a body's
abbrev pub is_body : List Vertex → Bool
is_body corners = (length corners == 1 || (nat_le (length corners) MOST_BODY_CORNERS && is_strictly_convex corners))
    && list_all (is_corner_between LEAST_BODY_COORDINATE MOST_BODY_COORDINATE) corners

-- a strictly convex polygon of not too many corners, with coordinates in the range of an obstacle's
abbrev pub is_obstacle : ℕ → List Vertex → Bool
is_obstacle version corners = (nat_le (length corners) MOST_OBSTACLE_CORNERS && is_strictly_convex corners)
    && list_all (is_corner_between (least_obstacle_coordinate version) (most_obstacle_coordinate version)) corners

-- not too many obstacles
abbrev pub are_obstacles : ℕ → List (List Vertex) → Bool
are_obstacles version obstacles = nat_le (length obstacles) MOST_OBSTACLES && list_all (is_obstacle version) obstacles

-- in version 1 no scene is informed
abbrev pub may_be_informed : ℕ → Bool → Bool
may_be_informed version informed = not informed || not (version == 1)

-- both coordinates are within the greatest side of a room
abbrev pub is_mark : ℕ → Point → Bool
is_mark version p = nat_le p.x (most_side version) && nat_le p.y (most_side version)

-- not too many marks, those that are listed each with coordinates within the greatest side of a room
abbrev pub is_plan : ℕ → Marks → Bool
is_plan version (Drawn n) = nat_le n MOST_MARKS
is_plan version (Listed points) = nat_le (length points) MOST_MARKS && list_all (is_mark version) points
