-- What is seen of a tree to which others add, and when that is true of the tree.
use Rattle.std.specs.Prelude.{◌≡◌, ◌≢◌, ◌⊎◌, ◌↔◌, ℕ, suc, ◌%◌, ◌==◌, nat_lt, not, Bool, Option, Some, None, List, if◌then◌else◌, ◌<◌, ◌≤◌, IsSome, option_map}
use Rattle.plan_model.specs.Terms.{Point}
use Rattle.plan_model.specs.Trees.NodeLists.{StandsAt, IsPresent, point_at, point_of}
use Rattle.plan_model.specs.declared.records.Record.{Record}
use Rattle.plan_model.specs.Trees.TreeStates.{TreeState, GrowsInto, first_cost_of}
use Rattle.plan_model.specs.Runs.OrderLaw.{Hangs}
use Rattle.plan_model.specs.Runs.Textbook.{Setup}

-- ---- The way of a point through a kd-tree (Bentley, CACM 1975), whose children are given by number.
-- whether q goes to the right of a node at p: at even depth by its column, at odd depth by its row, to the left only if it is lesser
abbrev pub goes_right : ℕ → Point → Point → Bool
goes_right depth p q = if depth % 2 == 0 then not (nat_lt q.x p.x) else not (nat_lt q.y p.y)

-- the children of each node: `false` the left one, `true` the right one
abbrev pub Children : Type 0
Children = ℕ → Bool → Option ℕ

-- Node n stands at this depth on the way of q, which begins at node 0, goes on to the child on the side of q, and ends at a node at q.
pub data IsOnWay (child : Children) (points : List (Option Point)) (q : Point) : ℕ → ℕ → Type 0 where
  begins : IsOnWay child points q 0 0
  goes_on : (depth n m : ℕ) (p : Point) → IsOnWay child points q depth n → StandsAt points n p → p ≢ q
      → child n (goes_right depth p q) ≡ Some m → IsOnWay child points q (suc depth) m

-- The way of q ends at node n, at p, which has no child on the side of q.
pub record EndsBelow (child : Children) (points : List (Option Point)) (q : Point) (depth n : ℕ) (p : Point) : Type 0 where
  pub on_way : IsOnWay child points q depth n
  pub stands : StandsAt points n p
  pub other : p ≢ q
  pub empty : child n (goes_right depth p q) ≡ None

-- Each present node but node 0 is a child once, at the end of the way of its point. No other number is a child or has one.
pub record FollowWays (child : Children) (points : List (Option Point)) : Type 0 where
  pub on_way : (n : ℕ) (q : Point) → StandsAt points n q → (depth : ℕ) × IsOnWay child points q depth n
  pub once : (n a b : ℕ) (side other_side : Bool) → child a side ≡ Some n → child b other_side ≡ Some n → (a ≡ b) × (side ≡ other_side)
  pub root : (a : ℕ) (side : Bool) → child a side ≢ Some 0
  pub present : (a n : ℕ) (side : Bool) → child a side ≡ Some n → IsPresent points n
  pub empty : (n : ℕ) (side : Bool) → ¬ IsPresent points n → child n side ≡ None

-- Node m becomes the child of node n on this side, where n had none. No other place changes.
pub record LinksAt (child after : Children) (n : ℕ) (side : Bool) (m : ℕ) : Type 0 where
  pub was_empty : child n side ≡ None
  pub linked : after n side ≡ Some m
  pub elsewhere : (a : ℕ) (b : Bool) → ¬ ((a ≡ n) × (b ≡ side)) → after a b ≡ child a b

-- Number m had no node, and has one at q now. All others are as before.
pub record AddsPoint (points later : List (Option Point)) (m : ℕ) (q : Point) : Type 0 where
  pub absent : ¬ IsPresent points m
  pub stands : (k : ℕ) (r : Point) → StandsAt later k r ↔ (StandsAt points k r ⊎ ((k ≡ m) × (r ≡ q)))

-- All children and all nodes stay. Only empty places may fill.
pub record FillsPlaces (child after : Children) (points later : List (Option Point)) : Type 0 where
  pub children : (n m : ℕ) (side : Bool) → child n side ≡ Some m → after n side ≡ Some m
  pub nodes : (n : ℕ) (p : Point) → StandsAt points n p → StandsAt later n p

-- ---- seen trees
--
--     seen by a worker         the tree now       (both as kd-trees)
--            0                      0             -  a step of the worker found this place empty;
--           / \                    / \               to the right of node 1 it has not looked.
--          -   1                  4   1           It has seen node 2 at cost 1568 below node 1;
--             /                      / \          node 2 costs 1280 now, below node 0.
--            2                      2   3

-- Children, points, the last parent and cost of each node, and records, as far as they were seen. The greatest number that was seen
-- in the counter of each strip, and in the count of nodes.
pub record SeenTree : Type 0 where
  pub child : Children
  pub points : List (Option Point)
  pub parent_and_cost : ℕ → Option (ℕ × ℕ)
  pub record_of : ℕ → Option Record
  pub counter : ℕ → ℕ
  pub count : ℕ

-- node n is seen: it is node 0, or a seen child
abbrev pub IsSeen : SeenTree → ℕ → Type 0
IsSeen seen n = (n ≡ 0) ⊎ ((a : ℕ) × (side : Bool) × (seen.child a side ≡ Some n))

-- Node 0 is seen with its point. Children, points, and parents with costs are seen of seen nodes alone.
pub record IsRooted (seen : SeenTree) : Type 0 where
  pub start : IsPresent seen.points 0
  pub children : (a n : ℕ) (side : Bool) → seen.child a side ≡ Some n → IsSeen seen a
  pub points : (n : ℕ) → IsPresent seen.points n → IsSeen seen n
  pub pairs : (n : ℕ) → IsSome (seen.parent_and_cost n) → IsSeen seen n

-- ---- ways over what is seen
-- Node n stands at this depth on the way of q over seen children. If the point of a node is not seen, either child may be on it.
pub data IsOnSeenWay (seen : SeenTree) (q : Point) : ℕ → ℕ → Type 0 where
  begins : IsOnSeenWay seen q 0 0
  goes_on : (depth n m : ℕ) (side : Bool) → IsOnSeenWay seen q depth n
      → ((p : Point) → StandsAt seen.points n p → (p ≢ q) × (goes_right depth p q ≡ side))
      → seen.child n side ≡ Some m → IsOnSeenWay seen q (suc depth) m

-- node n is on the way of a point over seen children, of its own point if that is seen
pub record HasSeenWay (seen : SeenTree) (n : ℕ) : Type 0 where
  pub point : Point
  pub own : (p : Point) → StandsAt seen.points n p → p ≡ point
  pub depth : ℕ
  pub on_way : IsOnSeenWay seen point depth n

-- Each seen node has its way, and is a child once; node 0 is none.
pub record FollowSeenWays (seen : SeenTree) : Type 0 where
  pub ways : (n : ℕ) → IsSeen seen n → HasSeenWay seen n
  pub once : (n a b : ℕ) (left right : Bool) → seen.child a left ≡ Some n → seen.child b right ≡ Some n → (a ≡ b) × (left ≡ right)
  pub root : (a : ℕ) (side : Bool) → seen.child a side ≢ Some 0

-- ---- more was seen
-- what was seen of the parent and the cost of a node stays, or gives way to a lower cost
abbrev pub KeepsOrLowers : SeenTree → SeenTree → ℕ → Type 0
KeepsOrLowers before after n = (pair : ℕ × ℕ) → before.parent_and_cost n ≡ Some pair
    → (now : ℕ × ℕ) × (after.parent_and_cost n ≡ Some now) × ((now ≡ pair) ⊎ (now.1 < pair.1))

-- The second has seen at least what the first has: the same children, points and records, the same parents and costs or lower costs,
-- and no lesser counters and count.
pub record HasSeenAtLeast (before after : SeenTree) : Type 0 where
  pub places : FillsPlaces before.child after.child before.points after.points
  pub pairs : (n : ℕ) → KeepsOrLowers before after n
  pub records : (k : ℕ) (entry : Record) → before.record_of k ≡ Some entry → after.record_of k ≡ Some entry
  pub counters : (strip : ℕ) → before.counter strip ≤ after.counter strip
  pub count : before.count ≤ after.count

-- ---- the tree that is seen
-- A tree to which several add, at some moment: its nodes with their costs, and its records; the children in its kd-tree; the counter of
-- each strip, and the count of nodes.
pub record SharedTree : Type 0 where
  pub state : TreeState
  pub child : Children
  pub counter : ℕ → ℕ
  pub count : ℕ

-- what stays of it until a later moment: the tree grows, only empty places fill, counters and count rise
pub record TreeGrows (before after : SharedTree) : Type 0 where
  pub state : GrowsInto before.state after.state
  pub children : (n m : ℕ) (side : Bool) → before.child n side ≡ Some m → after.child n side ≡ Some m
  pub counters : (strip : ℕ) → before.counter strip ≤ after.counter strip
  pub count : before.count ≤ after.count

-- all of a tree, as one has it who sees the whole at this moment
abbrev pub seen_whole : SharedTree → SeenTree
seen_whole tree = record {
  child = tree.child;
  points = tree.state.points;
  parent_and_cost = λ n. option_map (λ p. (tree.state.parent n, tree.state.cost n)) (point_at tree.state.points n);
  record_of = tree.state.record_of;
  counter = tree.counter;
  count = tree.count;
}

-- What was seen is true of the tree now: each child, point and record is that of the tree, each parent with its cost is too or costs more
-- than now, and each counter and the count is at most the one now.
abbrev pub IsTrueOf : SeenTree → SharedTree → Type 0
IsTrueOf seen tree = HasSeenAtLeast seen (seen_whole tree)

-- ---- What the order law says of parents and costs that were seen earlier: each node may hang so still.
-- A parent and a cost were seen of present nodes alone. Each node may hang below the seen parent at the seen cost, by what that parent
-- costs now, and no seen cost is above the first one. The start was seen as its own parent, at no cost.
pub record AreSeenLawfully (setup : Setup) (seen : SeenTree) (state : TreeState) : Type 0 where
  pub present : (n : ℕ) (pair : ℕ × ℕ) → seen.parent_and_cost n ≡ Some pair → IsPresent state.points n
  pub hangs : (n : ℕ) (pair : ℕ × ℕ) → seen.parent_and_cost (suc n) ≡ Some pair
      → Hangs setup state (suc n) (point_of state.points (suc n)) pair.0 pair.1
  pub first : (n : ℕ) (pair : ℕ × ℕ) → seen.parent_and_cost n ≡ Some pair → pair.1 ≤ first_cost_of state n
  pub start : (pair : ℕ × ℕ) → seen.parent_and_cost 0 ≡ Some pair → pair ≡ (0, 0)
