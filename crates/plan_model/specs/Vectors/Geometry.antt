-- Worked values of the plane and of lengths: classes and radii, costs, steering, polygons.
use Rattle.std.specs.Prelude.{◌≡◌, ℕ, List, [], ◌∷◌, map, ◌<◌, ℤ, pos, neg_ℤ, true, false}
use Rattle.plan_model.specs.Geometry.Lengths.{class_of, radius_of_class, radius_of, cost_of, steered}
use Rattle.plan_model.specs.Terms.{Point, Vertex, le-suc}
use Rattle.plan_model.specs.Spaces.ConfigurationSpace.{Rational}
use Rattle.plan_model.specs.Geometry.Plane.{is_strictly_convex}

-- ---- The classes of numbers of nodes, and the radii of the first ten classes.
abbrev pub first_classes : List ℕ
first_classes = 1 ∷ 2 ∷ 3 ∷ 4 ∷ 5 ∷ 6 ∷ 7 ∷ 8 ∷ 9 ∷ 10 ∷ []

pub record RadiusVectors : Type 0 where
  pub falling : map (radius_of_class 4096 1000) first_classes ≡ 1000 ∷ 1000 ∷ 866 ∷ 707 ∷ 559 ∷ 433 ∷ 330 ∷ 250 ∷ 187 ∷ 139 ∷ []
  pub bounded : map (radius_of_class 50 1000) first_classes ≡ 50 ∷ 50 ∷ 50 ∷ 50 ∷ 50 ∷ 50 ∷ 50 ∷ 50 ∷ 50 ∷ 50 ∷ []
  pub none : map (radius_of_class 4096 0) first_classes ≡ 0 ∷ 0 ∷ 0 ∷ 0 ∷ 0 ∷ 0 ∷ 0 ∷ 0 ∷ 0 ∷ 0 ∷ []
  -- the numbers on both sides of a power of 2, and the most nodes that there may be
  pub classes : map class_of (0 ∷ 1 ∷ 2 ∷ 3 ∷ 4 ∷ 262143 ∷ 262144 ∷ []) ≡ 0 ∷ 1 ∷ 2 ∷ 2 ∷ 3 ∷ 18 ∷ 19 ∷ []
  pub least_gamma : map (radius_of_class 4 1) (1 ∷ 2 ∷ 3 ∷ []) ≡ 1 ∷ 1 ∷ 0 ∷ []
  pub greatest_gamma : radius_of_class 4096 16777215 19 ≡ 4096
  pub no_class : radius_of_class 4096 1000 0 ≡ 0
  pub of_nodes : map (radius_of 4096 1000) (3 ∷ 4 ∷ 7 ∷ 8 ∷ []) ≡ 1000 ∷ 866 ∷ 866 ∷ 707 ∷ []

-- ---- Points and corners by their coordinates.
abbrev pub at : ℕ → ℕ → Point
at x y = record { x = x; y = y }

abbrev pub corner : ℕ → ℕ → Vertex
corner x y = record { x = pos x; y = pos y }

-- the corner (-x, -y)
abbrev pub corner_below : ℕ → ℕ → Vertex
corner_below x y = record { x = neg_ℤ (pos x); y = neg_ℤ (pos y) }

pub two_is_positive : 0 < 2
two_is_positive = le-suc 1

-- the point (x / 2, y / 2)
abbrev pub halves : ℤ → ℤ → Rational
halves x y = record { x = x; y = y; over = 2; positive = two_is_positive }

-- ---- Costs of edges.
pub record CostVectors : Type 0 where
  pub none : cost_of (at 5 5) (at 5 5) ≡ 0
  pub straight : cost_of (at 0 0) (at 1 0) ≡ 256
  pub diagonal : cost_of (at 0 0) (at 1 1) ≡ 363
  pub slanted : cost_of (at 0 0) (at 2 1) ≡ 573
  pub exact : cost_of (at 0 0) (at 30 40) ≡ 12800
  pub long_diagonal : cost_of (at 0 0) (at 35 35) ≡ 12672
  pub vertical : cost_of (at 0 50) (at 40 79) ≡ 12649
  pub horizontal : cost_of (at 20 20) (at 75 65) ≡ 18193
  pub far : cost_of (at 0 0) (at 88 43) ≡ 25074
  pub backwards : cost_of (at 1 1) (at 0 0) ≡ 363
  -- the longest step, and the diagonal of the largest room
  pub longest_step : cost_of (at 0 0) (at 4096 0) ≡ 1048576
  pub largest_room : cost_of (at 0 0) (at 65535 65535) ≡ 23726205

-- ---- Steering by a step of 50, and by the shortest and the longest step.
pub record SteeringVectors : Type 0 where
  pub reached : steered (at 0 0) (at 30 40) 50 ≡ at 30 40
  pub halfway : steered (at 0 0) (at 60 80) 50 ≡ at 30 40
  pub rounded : steered (at 0 0) (at 70 70) 50 ≡ at 35 35
  pub backwards : steered (at 100 100) (at 0 0) 50 ≡ at 65 65
  pub stays : steered (at 7 7) (at 7 7) 50 ≡ at 7 7
  -- just beyond a step, where the length is rounded up to 51
  pub just_beyond : steered (at 0 0) (at 30 41) 50 ≡ at 29 40
  pub along_a_row : steered (at 100 7) (at 0 7) 50 ≡ at 50 7
  pub up_and_left : steered (at 100 0) (at 0 100) 50 ≡ at 65 35
  -- a share of less than one column is cut to none
  pub shortest_step : steered (at 0 0) (at 1 100) 4 ≡ at 0 3
  -- by one column or row the way to a neighbour across a corner is cut to nothing, by two no way is
  pub cut_to_nothing : steered (at 0 0) (at 1 1) 1 ≡ at 0 0
  pub by_two : steered (at 0 0) (at 2 1) 2 ≡ at 1 0
  pub longest_step : steered (at 0 0) (at 65535 65535) 4096 ≡ at 2896 2896

-- ---- Lists of corners that are strictly convex, and lists that are not.
pub record ConvexityVectors : Type 0 where
  pub counterclockwise : is_strictly_convex (corner 0 0 ∷ corner 9 0 ∷ corner 9 9 ∷ []) ≡ true
  pub square : is_strictly_convex (corner 0 0 ∷ corner 9 0 ∷ corner 9 9 ∷ corner 0 9 ∷ []) ≡ true
  pub clockwise : is_strictly_convex (corner 0 0 ∷ corner 0 9 ∷ corner 9 9 ∷ []) ≡ false
  pub in_a_line : is_strictly_convex (corner 0 0 ∷ corner 5 0 ∷ corner 9 0 ∷ corner 9 9 ∷ []) ≡ false
  pub dented : is_strictly_convex (corner 0 0 ∷ corner 9 0 ∷ corner 3 3 ∷ corner 0 9 ∷ []) ≡ false
  pub twice_round : is_strictly_convex (corner 0 0 ∷ corner 9 0 ∷ corner 0 9 ∷ corner 0 0 ∷ corner 9 0 ∷ corner 0 9 ∷ []) ≡ false
  pub too_few : is_strictly_convex (corner 0 0 ∷ corner 9 0 ∷ []) ≡ false
  pub no_corner : is_strictly_convex [] ≡ false
  pub one_corner : is_strictly_convex (corner 0 0 ∷ []) ≡ false
  pub doubled : is_strictly_convex (corner 0 0 ∷ corner 9 0 ∷ corner 9 9 ∷ corner 9 9 ∷ []) ≡ false
  pub star : is_strictly_convex (corner 0 6 ∷ corner 10 6 ∷ corner 2 0 ∷ corner 5 9 ∷ corner 8 0 ∷ []) ≡ false
