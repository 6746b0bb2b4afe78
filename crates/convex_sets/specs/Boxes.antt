-- The bounding boxes of polygons and segments, and boxes that meet.
use Rattle.convex_sets.specs.Terms.{BoundingBox, IsTrue, LEAST_CORNER_COORDINATE, MOST_CORNER_COORDINATE, Meets, Point, Rational, Vertex, corner_at}
use Rattle.convex_sets.specs.Terms.{is_corner_between, is_strictly_convex, le_refl, list_all}
use Rattle.std.specs.Prelude.{◌≡◌, ℕ, ◌<◌, pos, ◌≤ℤ◌, int_le, min, max, Bool, true, ◌&&◌, List, length, ◌↔◌, ℤ, neg_ℤ, [], ◌∷◌}

-- ---- Corners whose coordinates are so small that 64 bits hold their orientations.
-- both coordinates are between the least and the greatest of a corner
abbrev pub IsBoundedCorner : Vertex → Type 0
IsBoundedCorner v = IsTrue (is_corner_between LEAST_CORNER_COORDINATE MOST_CORNER_COORDINATE v)

-- every corner is
abbrev pub AreBoundedCorners : List Vertex → Type 0
AreBoundedCorners corners = IsTrue (list_all (is_corner_between LEAST_CORNER_COORDINATE MOST_CORNER_COORDINATE) corners)

-- ---- boxes
-- no corner is further left or lower, and its coordinates are those of corners: the box's lower left corner
pub record IsLowEnd (corners : List Vertex) (low : Vertex) : Type 0 where
  pub left : (i : ℕ) → i < length corners → low.x ≤ℤ (corner_at corners i).x
  pub bottom : (i : ℕ) → i < length corners → low.y ≤ℤ (corner_at corners i).y
  pub left_reached : (i : ℕ) × (i < length corners) × ((corner_at corners i).x ≡ low.x)
  pub bottom_reached : (i : ℕ) × (i < length corners) × ((corner_at corners i).y ≡ low.y)

-- no corner is further right or higher, and its coordinates are those of corners: the box's upper right corner
pub record IsHighEnd (corners : List Vertex) (high : Vertex) : Type 0 where
  pub right : (i : ℕ) → i < length corners → (corner_at corners i).x ≤ℤ high.x
  pub top : (i : ℕ) → i < length corners → (corner_at corners i).y ≤ℤ high.y
  pub right_reached : (i : ℕ) × (i < length corners) × ((corner_at corners i).x ≡ high.x)
  pub top_reached : (i : ℕ) × (i < length corners) × ((corner_at corners i).y ≡ high.y)

-- the least box round some corners
pub record IsBoundingBox (corners : List Vertex) (bounds : BoundingBox) : Type 0 where
  pub low_end : IsLowEnd corners bounds.low
  pub high_end : IsHighEnd corners bounds.high

-- a strictly convex polygon whose corners are bounded, and its box
pub record IsBoxed (corners : List Vertex) (bounds : BoundingBox) : Type 0 where
  pub convex : is_strictly_convex corners ≡ true
  pub bounded : AreBoundedCorners corners
  pub bounding : IsBoundingBox corners bounds

-- the point lies in the box, on its sides or within them
pub record IsInBox (bounds : BoundingBox) (p : Point) : Type 0 where
  pub left : bounds.low.x ≤ℤ pos p.x
  pub right : pos p.x ≤ℤ bounds.high.x
  pub bottom : bounds.low.y ≤ℤ pos p.y
  pub top : pos p.y ≤ℤ bounds.high.y

-- the least box round the segment between two points
abbrev pub segment_box : Point → Point → BoundingBox
segment_box a b = record {
  low = record { x = pos (min a.x b.x); y = pos (min a.y b.y) };
  high = record { x = pos (max a.x b.x); y = pos (max a.y b.y) };
}

-- Two boxes have a point in common. They are closed, so boxes that touch meet.
abbrev pub boxes_meet : BoundingBox → BoundingBox → Bool
boxes_meet p q = (int_le p.low.x q.high.x && int_le q.low.x p.high.x) && (int_le p.low.y q.high.y && int_le q.low.y p.high.y)

-- a point as a corner
abbrev pub corner_of : Point → Vertex
corner_of p = record { x = pos p.x; y = pos p.y }

-- a corner as a point
abbrev pub at_corner : Vertex → Rational
at_corner v = record { x = v.x; y = v.y; over = 1; positive = le_refl 1 }

-- ---- Bodies widened by a clearance: what a body meets with the clearance, the wider one meets without.
-- the corner with these coordinates
abbrev pub corner : ℤ → ℤ → Vertex
corner x y = record { x = x; y = y }

-- the corners of the square from minus the clearance to the clearance on both axes
abbrev pub square : ℕ → List Vertex
square clearance = let far = pos clearance in corner (neg_ℤ far) (neg_ℤ far) ∷ corner far (neg_ℤ far) ∷ corner far far ∷ corner (neg_ℤ far) far ∷ []

-- wherever it stands, and whatever the obstacle is
abbrev pub IsWidenedBy : ℕ → List Vertex → List Vertex → Type 0
IsWidenedBy clearance body wider = (q : Rational) (obstacle : List Vertex) → Meets clearance body q obstacle ↔ Meets 0 wider q obstacle
