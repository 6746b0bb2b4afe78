-- A bounding volume hierarchy as one list of nodes. Read from its end it is in the order of a descent.
use Rattle.std.specs.Prelude.{◌≡◌, ℕ, ◌<◌, ◌≤ℤ◌, true, List, [], length, slice_index_or, All, count_by, ◌≤◌, Option, Some, None, ◌++◌, take, drop, filter_map}
use Rattle.std.specs.Prelude.{IsPermutation, ◌+◌, false}
use Rattle.obstacle_boxes.specs.Terms.{AreZonesOf, BoundingBox, ConfigurationSpace, Crosses, Halves, IsBoundingBox, Leaf, Node, Point, Vertex, Zone}
use Rattle.obstacle_boxes.specs.Terms.{boxes_meet, segment_box}

-- ---- Zones with their bounding boxes, and boxes round several of them.
-- a box holds another one
pub record Holds (outer inner : BoundingBox) : Type 0 where
  pub left : outer.low.x ≤ℤ inner.low.x
  pub right : inner.high.x ≤ℤ outer.high.x
  pub bottom : outer.low.y ≤ℤ inner.low.y
  pub top : inner.high.y ≤ℤ outer.high.y

-- a box holds those of all leaves
abbrev pub HoldsAll : BoundingBox → List Leaf → Type 0
HoldsAll bounds leaves = All (λ leaf. Holds bounds leaf.bounds) leaves

-- a leaf for each of the first n zones, in their order
pub record AreLeavesOf (zones : List (List Vertex)) (n : ℕ) (leaves : List Leaf) : Type 0 where
  pub count : length leaves ≡ n
  pub number : (i : ℕ) (d : Leaf) → i < length leaves → (slice_index_or leaves i d).zone ≡ i
  pub bounds : (i : ℕ) (d : Leaf) → i < length leaves → IsBoundingBox (slice_index_or zones i []) (slice_index_or leaves i d).bounds

-- the leaf is that of a zone, whose box meets that of each segment that crosses it
pub record IsLeafAmong (zones : List (List Vertex)) (leaf : Leaf) : Type 0 where
  pub within : leaf.zone < length zones
  pub meets : (a b : Point) → Crosses (slice_index_or zones leaf.zone []) a b → boxes_meet (segment_box a b) leaf.bounds ≡ true

-- the segment does not cross the leaf's zone
abbrev pub IsMissed : List (List Vertex) → Point → Point → Leaf → Type 0
IsMissed zones a b leaf = ¬ Crosses (slice_index_or zones leaf.zone []) a b

-- how many leaves have a box that meets another one
abbrev pub leaves_met : BoundingBox → List Leaf → ℕ
leaves_met bounds leaves = count_by (λ leaf. boxes_meet bounds leaf.bounds) leaves

-- ---- trees
-- the leaf that a node is, if one zone is below it
abbrev pub leaf_of : Node → Option Leaf
leaf_of (Halves first middle lower upper) = None
leaf_of (Zone leaf) = Some leaf

-- the leaves among nodes, in their order
abbrev pub leaves_in : List Node → List Leaf
leaves_in nodes = filter_map leaf_of nodes

-- The nodes from number `first` up to number n lie below node n, in two halves: its boxes hold those of all leaves among them.
pub record IsAbove (nodes : List Node) (lower upper : BoundingBox) (first middle n : ℕ) : Type 0 where
  pub earlier : first ≤ middle
  pub later : middle ≤ n
  pub lower_holds : HoldsAll lower (leaves_in (drop first (take middle nodes)))
  pub upper_holds : HoldsAll upper (leaves_in (drop middle (take n nodes)))

-- each node that stands above others is above all that it says
abbrev pub IsTree : List Node → Type 0
IsTree nodes = (n first middle : ℕ) (lower upper : BoundingBox) (d : Node) → n < length nodes
    → slice_index_or nodes n d ≡ Halves first middle lower upper → IsAbove nodes lower upper first middle n

-- nodes for these leaves were added at the end
pub record Adds (leaves : List Leaf) (before after : List Node) : Type 0 where
  pub added : List Node
  pub is : after ≡ before ++ added
  pub leaves_are : leaves_in added ≡ leaves
  pub tree : IsTree before → IsTree after

-- a tree whose leaves are those of a space's zones, in some order
pub record IsTreeOver (space : ConfigurationSpace) (nodes : List Node) : Type 0 where
  pub zones : List (List Vertex)
  pub are_zones : AreZonesOf space zones
  pub leaves : List Leaf
  pub are_leaves : AreLeavesOf zones (length zones) leaves
  pub permutation : IsPermutation leaves (leaves_in nodes)
  pub tree : IsTree nodes

-- ---- Zones whose bounding boxes meet that of a segment.
-- the least boxes round the zones of the obstacles, in the obstacles' order
pub record AreZoneBoxes (space : ConfigurationSpace) (boxes : List BoundingBox) : Type 0 where
  pub zones : List (List Vertex)
  pub are_zones : AreZonesOf space zones
  pub count : length boxes ≡ length zones
  pub each : (i : ℕ) (d : BoundingBox) → i < length zones → IsBoundingBox (slice_index_or zones i []) (slice_index_or boxes i d)

-- how many boxes meet that of a segment
abbrev pub near_count : List BoundingBox → Point → Point → ℕ
near_count boxes a b = count_by (boxes_meet (segment_box a b)) boxes

-- ---- What a descent has found, when the nodes between two numbers are left.
-- the segment crosses one of the zones
pub record CrossesSome (zones : List (List Vertex)) (a b : Point) : Type 0 where
  pub number : ℕ
  pub within : number < length zones
  pub crosses : Crosses (slice_index_or zones number []) a b

-- from number n on all nodes were looked at: no leaf among them is crossed, and those that are near were tested
pub record HasSearched (nodes : List Node) (zones : List (List Vertex)) (a b : Point) (before now n : ℕ) : Type 0 where
  pub within : n ≤ length nodes
  pub missed : All (IsMissed zones a b) (leaves_in (drop n nodes))
  pub tested : now ≡ before + leaves_met (segment_box a b) (leaves_in (drop n nodes))

-- the boxes of all leaves below number n are apart from the segment's
abbrev pub AreApartBelow : List Node → Point → Point → ℕ → Type 0
AreApartBelow nodes a b n = All (λ leaf. boxes_meet (segment_box a b) leaf.bounds ≡ false) (leaves_in (take n nodes))
