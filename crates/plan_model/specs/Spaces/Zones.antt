-- Zones: configuration-space obstacles, the Minkowski sum of an obstacle, the reflected body and the square of the clearance.
use Rattle.std.specs.Prelude.{ℕ, ◌<◌, ℤ, pos, ◌-ℤ◌, ◌*ℤ◌, ◌≤ℤ◌, List, length, ◌≡◌, ◌*◌, ◌+ℤ◌, [], ◌∷◌, sum, ◌↔◌, ◌<ℤ◌, ◌⊎◌, true}
use Rattle.plan_model.specs.Terms.{Vertex}
use Rattle.plan_model.specs.Geometry.Plane.{corner_at, next_corner, is_strictly_convex}
use Rattle.plan_model.specs.Spaces.ConfigurationSpace.{Rational}

-- ---- Closed half-planes to the left of the edges of a polygon, and the points that lie in all of them.
-- Twice the signed area of the triangle a b q, times the denominator of q: not below 0 exactly if q lies to the left of
-- the line from a to b, or on it.
abbrev pub side_of : Vertex → Vertex → Rational → ℤ
side_of a b q = ((b.x -ℤ a.x) *ℤ (q.y -ℤ (pos q.over *ℤ a.y))) -ℤ ((b.y -ℤ a.y) *ℤ (q.x -ℤ (pos q.over *ℤ a.x)))

-- the same for edge i, from corner i to the next
abbrev pub side_of_edge : List Vertex → ℕ → Rational → ℤ
side_of_edge corners i q = side_of (corner_at corners i) (corner_at corners (next_corner (length corners) i)) q

-- the point is on the inner side of every edge, or on the edge
abbrev pub IsInside : List Vertex → Rational → Type 0
IsInside corners q = (i : ℕ) → i < length corners → pos 0 ≤ℤ side_of_edge corners i q

-- ---- Where the body meets an obstacle, with a clearance or without. Both are closed convex hulls of their corners, so touching is meeting.
-- the sum of a coordinate of the corners, each times its weight
abbrev pub weighted : (Vertex → ℤ) → List ℕ → List Vertex → ℤ
weighted coordinate [] corners = pos 0
weighted coordinate (w ∷ ws) [] = pos 0
weighted coordinate (w ∷ ws) (corner ∷ corners) = (pos w *ℤ coordinate corner) +ℤ weighted coordinate ws corners

-- a is at most this far from b
pub record IsWithin (distance : ℕ) (a b : ℤ) : Type 0 where
  pub lowest : (b -ℤ pos distance) ≤ℤ a
  pub highest : a ≤ℤ (b +ℤ pos distance)

-- The body moved by q comes within so many lattice steps of the obstacle in both coordinates: the obstacle's corners under some
-- weights, less the body's corners under some weights of the same total, are that close to q.
pub record Meets (clearance : ℕ) (body : List Vertex) (q : Rational) (obstacle : List Vertex) : Type 0 where
  pub total : ℕ
  pub on_obstacle : List ℕ
  pub on_body : List ℕ
  pub some_weight : 0 < total
  pub obstacle_corners : length on_obstacle ≡ length obstacle
  pub body_corners : length on_body ≡ length body
  pub obstacle_total : sum on_obstacle ≡ total
  pub body_total : sum on_body ≡ total
  pub horizontal : IsWithin (clearance * q.over * total)
      (pos q.over *ℤ (weighted (λ v. v.x) on_obstacle obstacle -ℤ weighted (λ v. v.x) on_body body)) (pos total *ℤ q.x)
  pub vertical : IsWithin (clearance * q.over * total)
      (pos q.over *ℤ (weighted (λ v. v.y) on_obstacle obstacle -ℤ weighted (λ v. v.y) on_body body)) (pos total *ℤ q.y)

-- The body moved by q has a point in common with the obstacle: the obstacle's corners under some weights, less the body's
-- corners under some weights of the same total, are q.
pub record SharesPoint (body : List Vertex) (q : Rational) (obstacle : List Vertex) : Type 0 where
  pub total : ℕ
  pub on_obstacle : List ℕ
  pub on_body : List ℕ
  pub some_weight : 0 < total
  pub obstacle_corners : length on_obstacle ≡ length obstacle
  pub body_corners : length on_body ≡ length body
  pub obstacle_total : sum on_obstacle ≡ total
  pub body_total : sum on_body ≡ total
  pub horizontal : pos q.over *ℤ (weighted (λ v. v.x) on_obstacle obstacle -ℤ weighted (λ v. v.x) on_body body) ≡ pos total *ℤ q.x
  pub vertical : pos q.over *ℤ (weighted (λ v. v.y) on_obstacle obstacle -ℤ weighted (λ v. v.y) on_body body) ≡ pos total *ℤ q.y

-- ---- zones
-- a is lower than b, or as low and not further right
abbrev pub IsLowerOrLeft : Vertex → Vertex → Type 0
IsLowerOrLeft a b = (a.y <ℤ b.y) ⊎ ((a.y ≡ b.y) × (a.x ≤ℤ b.x))

-- These are the corners of the set of points at which the body meets the obstacle with this clearance: counterclockwise, none
-- between two others, from the lowest and of these the leftmost.
pub record IsZoneOf (clearance : ℕ) (body obstacle corners : List Vertex) : Type 0 where
  pub exact : (q : Rational) → Meets clearance body q obstacle ↔ IsInside corners q
  pub convex : is_strictly_convex corners ≡ true
  pub first : (i : ℕ) → i < length corners → IsLowerOrLeft (corner_at corners 0) (corner_at corners i)
