-- The links of a kd-tree while nodes are linked in rising number.
use Rattle.std.specs.Prelude.{ℕ, ◌%◌, ◌==◌, not, Bool, if◌then◌else◌, ◌≡◌, ◌⊎◌, ◌+◌, ◌<◌, ◌≤◌, nat_lt, is_some, Option, Some, None, List, map}
use Rattle.grown_runs.specs.Terms.{AreDistinct, Children, FollowWays, IsOnWay, IsPairNotAbove, IsPresent, IsSeen, MOST_MARKS, MOST_NODES, MeasuredNode, Point}
use Rattle.grown_runs.specs.Terms.{SeenTree, StandsAt, Stop, abs_diff, arith, count_by-le-length, depth_below, goes_right, length-map-range_with_len}
use Rattle.grown_runs.specs.Terms.{point_at, range_with_len}
use Rattle.grown_runs.specs.Table.WordNames.{Words, ChangesOnly, IsChildWord}
use Rattle.grown_runs.specs.Table.WordPlaces.{Sizes}
use Rattle.grown_runs.specs.Table.SeenWords.{seen_tree_of_words}
use Rattle.grown_runs.specs.Runs.GrownWords.{node_point, points_of_words, children_of_words}

-- ---- The sides of a node in a kd-tree by whether its children are split by row, as at odd depth, or by column, as at even depth.
-- whether the children of nodes at this depth are split by row
abbrev pub is_by_rows : ℕ → Bool
is_by_rows depth = not (depth % 2 == 0)

-- whether q goes to the right of a node at p: as at depth 1 by its row, or as at depth 0 by its column
abbrev pub goes_right_by : Bool → Point → Point → Bool
goes_right_by by_rows p q = goes_right (if by_rows then 1 else 0) p q

-- how far q is from the line through p that splits its children
abbrev pub split_distance : Bool → Point → Point → ℕ
split_distance by_rows p q = if by_rows then abs_diff p.y q.y else abs_diff p.x q.x

-- ---- Where a walk along the way of a point has come to.
-- the side on which the way of p leads on
abbrev pub side_of : Stop → Point → Bool
side_of stop p = goes_right_by stop.by_rows stop.here p

-- The way of p over what is seen has this node at this depth, and it is seen here.
pub record StopsAt (tree : SeenTree) (p : Point) (stop : Stop) : Type 0 where
  pub on_way : IsOnWay tree.child tree.points p stop.depth stop.node
  pub seen : IsSeen tree stop.node
  pub stands : StandsAt tree.points stop.node stop.here
  pub by_rows_is : stop.by_rows ≡ is_by_rows stop.depth

-- ---- Which of two nodes is nearer to a point.
-- the pair of distance and number of the one is not above that of the other
abbrev pub IsNotFurther : MeasuredNode → MeasuredNode → Type 0
IsNotFurther one other = IsPairNotAbove one.distance one.node other.distance other.node

-- It is one of the two, and not further than either.
pub record IsNearerOf (one other nearer : MeasuredNode) : Type 0 where
  pub one_of : (nearer ≡ one) ⊎ (nearer ≡ other)
  pub before : IsNotFurther nearer one
  pub one_more : IsNotFurther nearer other

-- ---- kd links
-- where the nodes below number m stand, as if there were no others
abbrev pub points_below : Sizes → Words → ℕ → List (Option Point)
points_below sizes words m = map (λ n. if nat_lt n m then node_point words n else None) (range_with_len 0 (sizes.marks + 1))

-- the tree of these nodes, whose children are all known
abbrev pub tree_below : Sizes → Words → ℕ → SeenTree
tree_below sizes words m = record (seen_tree_of_words sizes words) { points = points_below sizes words m }

-- The nodes below number m are linked by the ways of their points; the start is among them.
pub record AreLinkedBelow (sizes : Sizes) (words : Words) (m : ℕ) : Type 0 where
  pub ways : FollowWays (children_of_words words) (points_below sizes words m)
  pub start : IsPresent (points_below sizes words m) 0

-- Each child has a greater number than the node above it, as nodes that are linked in rising number do.
abbrev pub LinksRise : Children → Type 0
LinksRise child = (n c : ℕ) (side : Bool) → child n side ≡ Some c → n < c

-- Node m may be linked next.
pub record MayLink (sizes : Sizes) (words : Words) (m : ℕ) : Type 0 where
  pub linked : AreLinkedBelow sizes words m
  pub present : IsPresent (points_of_words sizes words) m
  pub later : 1 ≤ m
  pub distinct : AreDistinct (points_of_words sizes words)

-- nothing changes but words of children
abbrev pub ChangesChildren : Words → Words → Type 0
ChangesChildren = ChangesOnly IsChildWord

-- Nodes that are to be linked: the start is among them, no two stand at one point, those of these numbers are present, and none has a child.
pub record AreUnlinked (sizes : Sizes) (words : Words) (has : ℕ → Bool) : Type 0 where
  pub start : IsPresent (points_of_words sizes words) 0
  pub distinct : AreDistinct (points_of_words sizes words)
  pub same : (n : ℕ) → is_some (point_at (points_of_words sizes words) n) ≡ has n
  pub no_child : (n : ℕ) (side : Bool) → children_of_words words n side ≡ None

-- ---- Ways over nodes that are linked in rising number.
-- none is longer than there are nodes
pub linked_ways_are_short : (sizes : Sizes) (words : Words) (m : ℕ) → sizes.marks ≤ MOST_MARKS → AreLinkedBelow sizes words m
    → (q : Point) (depth n : ℕ) → IsOnWay (children_of_words words) (points_below sizes words m) q depth n → depth < MOST_NODES
linked_ways_are_short sizes words m few linked q depth n way = omega (
  arith,
  depth_below (children_of_words words) (points_below sizes words m) linked.ways linked.start q depth n way,
  count_by-le-length is_some (points_below sizes words m),
  length-map-range_with_len (λ i. if nat_lt i m then node_point words i else None) 0 (sizes.marks + 1),
  few,
)
