-- Closed outlines, and their merging into the outline of the Minkowski sum.
use Rattle.std.specs.Prelude.{ℕ, Bool, ◌==◌, ◌||◌, ℤ, pos, ◌-ℤ◌, ◌*ℤ◌, ◌≤ℤ◌, int_lt, List, ◌≡◌, ◌≢◌, suc, ◌+◌, ◌-◌, nat_lt, if◌then◌else◌, ◌<◌, ◌⊎◌, negsuc}
use Rattle.std.specs.Prelude.{neg_ℤ, ◌+ℤ◌, ◌<ℤ◌, length, true}
use Rattle.convex_sets.specs.Terms.{LEAST_CORNER_COORDINATE, MOST_CORNER_COORDINATE, Vertex, corner_at, is_strictly_convex, next_corner, orientation}

-- ---- Edges of polygons as vectors, and the side to which one turns from another.
-- the vector from one corner to another
abbrev pub from_to : Vertex → Vertex → Vertex
from_to a b = record { x = b.x -ℤ a.x; y = b.y -ℤ a.y }

-- The cross product: above 0 exactly if v points to the left of u.
abbrev pub cross : Vertex → Vertex → ℤ
cross u v = (u.x *ℤ v.y) -ℤ (u.y *ℤ v.x)

-- both coordinates are at most twice as great as those of corners
pub record IsShort (v : Vertex) : Type 0 where
  pub left : (pos 2 *ℤ LEAST_CORNER_COORDINATE) ≤ℤ v.x
  pub right : v.x ≤ℤ (pos 2 *ℤ MOST_CORNER_COORDINATE)
  pub bottom : (pos 2 *ℤ LEAST_CORNER_COORDINATE) ≤ℤ v.y
  pub top : v.y ≤ℤ (pos 2 *ℤ MOST_CORNER_COORDINATE)

-- corner k is an end of the edge between two corners, or lies strictly to its left
abbrev pub is_end_or_left : List Vertex → ℕ → ℕ → ℕ → Bool
is_end_or_left corners from to k =
    k == from || (k == to || int_lt (pos 0) (orientation (corner_at corners from) (corner_at corners to) (corner_at corners k)))

-- ---- outlines
-- the sum of two corners
abbrev pub both : Vertex → Vertex → Vertex
both u v = record { x = u.x +ℤ v.x; y = u.y +ℤ v.y }

-- the corner on the other side of the origin
abbrev pub reflection : Vertex → Vertex
reflection v = record { x = neg_ℤ v.x; y = neg_ℤ v.y }

-- the edge from corner i to corner i + 1
abbrev pub edge_at : List Vertex → ℕ → Vertex
edge_at outline i = from_to (corner_at outline i) (corner_at outline (suc i))

-- A direction before those of all edges: to the right, and so little down that no edge of bounded corners lies between it and the x axis.
abbrev pub start : Vertex
start = record { x = pos 16777216; y = negsuc 0 }

-- How far a vector leads up: above 0 for the edges of the right chain, below 0 for those of the left chain.
abbrev pub rise : Vertex → ℤ
rise v = cross start v

-- The corners of a convex polygon from the lowest and of these the leftmost, counterclockwise, and the first once more; or one corner.
pub record IsOutline (outline : List Vertex) : Type 0 where
  pub some : 0 < length outline
  pub closed : (i : ℕ) → suc i ≡ length outline → corner_at outline i ≡ corner_at outline 0
  pub left : (i k : ℕ) → suc i < length outline → k < length outline → pos 0 ≤ℤ cross (edge_at outline i) (from_to (corner_at outline i) (corner_at outline k))
  pub turns : (i : ℕ) → suc (suc i) < length outline → pos 0 <ℤ cross (edge_at outline i) (edge_at outline (suc i))
  pub rises_or_falls : (i : ℕ) → suc i < length outline → (pos 0 <ℤ rise (edge_at outline i)) ⊎ (rise (edge_at outline i) <ℤ pos 0)
  pub falls_on : (i : ℕ) → suc (suc i) < length outline → rise (edge_at outline i) <ℤ pos 0 → rise (edge_at outline (suc i)) <ℤ pos 0
  pub rises_first : 1 < length outline → pos 0 <ℤ rise (edge_at outline 0)
  pub falls_last : (i : ℕ) → suc (suc i) ≡ length outline → rise (edge_at outline i) <ℤ pos 0
  pub low : (k : ℕ) → k < length outline → pos 0 ≤ℤ rise (from_to (corner_at outline 0) (corner_at outline k))

-- the corner is the sum of corners of two outlines
pub record IsSum (a b : List Vertex) (z : Vertex) : Type 0 where
  pub first : ℕ
  pub second : ℕ
  pub within_first : first < length a
  pub within_second : second < length b
  pub is : z ≡ both (corner_at a first) (corner_at b second)

-- These are the corners of the sum of two outlines: strictly convex, and every sum of two corners lies to the left of every edge.
pub record IsMerged (a b corners : List Vertex) : Type 0 where
  pub convex : is_strictly_convex corners ≡ true
  pub sums : (i : ℕ) → i < length corners → IsSum a b (corner_at corners i)
  pub supports : (i k l : ℕ) → i < length corners → k < length a → l < length b
      → pos 0 ≤ℤ cross (from_to (corner_at corners i) (corner_at corners (next_corner (length corners) i)))
      (from_to (corner_at corners i) (both (corner_at a k) (corner_at b l)))
  pub lowest : (i : ℕ) → i < length corners → pos 0 ≤ℤ rise (from_to (corner_at corners 0) (corner_at corners i))

-- the outline has the corners of a polygon, and no others
pub record IsOutlineOf (corners outline : List Vertex) : Type 0 where
  pub closes : length corners ≢ 1 → length corners < length outline
  pub from : (k : ℕ) → k < length outline → (i : ℕ) × (i < length corners) × (corner_at outline k ≡ corner_at corners i)
  pub all : (i : ℕ) → i < length corners → (k : ℕ) × (k < length outline) × (corner_at corners i ≡ corner_at outline k)

-- the edge from corner i of the first outline comes next
pub record StepsFirst (a b : List Vertex) (i j k l : ℕ) : Type 0 where
  pub first : k ≡ suc i
  pub second : l ≡ j
  pub more : suc i < length a
  pub turns_left : suc j < length b → pos 0 <ℤ cross (edge_at a i) (edge_at b j)

-- the edges from corner i of the first outline and from corner j of the second are parallel
pub record StepsBoth (a b : List Vertex) (i j k l : ℕ) : Type 0 where
  pub first : k ≡ suc i
  pub second : l ≡ suc j
  pub more_first : suc i < length a
  pub more_second : suc j < length b
  pub parallel : cross (edge_at a i) (edge_at b j) ≡ pos 0

-- One step of merging goes from the corners i and j to the corners k and l.
abbrev pub IsMergeStep : List Vertex → List Vertex → ℕ → ℕ → ℕ → ℕ → Type 0
IsMergeStep a b i j k l = StepsFirst a b i j k l ⊎ StepsFirst b a j i l k ⊎ StepsBoth a b i j k l

-- the number of the corner k corners after corner i of n
abbrev pub places_after : ℕ → ℕ → ℕ → ℕ
places_after n i k = if nat_lt (i + k) n then i + k else i + k - n

-- the first corners of the list that begins at a corner of a polygon and goes round
pub record IsTurned (corners outline : List Vertex) (first count : ℕ) : Type 0 where
  pub number : length outline ≡ count
  pub at : (k : ℕ) → k < count → corner_at outline k ≡ corner_at corners (places_after (length corners) first k)
