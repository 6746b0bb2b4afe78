-- What a pass may record of the mark in its hand, by what it has seen: each fact of the record law is one of the view alone.
use Rattle.std.specs.Prelude.{◌≡◌, ◌↔◌, ℕ, zero, suc, ◌+◌, ◌^◌, ◌≤◌, Bool, true, IsTrue, Some, length, filter}
use Rattle.step_core.specs.Terms.{Clear, Count, Ending, FirstHanging, Hand, IsNotAbove, IsPresent, NewNode, NoWay, Point, Posted, Reached, Record, SameNode}
use Rattle.step_core.specs.Terms.{SkippedBy, Steered, TreeOf, View, class_of, cost_in, cost_of, distance_to, ending_of, is_earlier_record, is_goal_point}
use Rattle.step_core.specs.Terms.{is_within, mark_at, point_at, point_of, radius_of_class, range_with_len, record_at, steered}
use Rattle.step_core.specs.SeenBests.{IsUnskipped, MayBeSkipped, seen_first_cost}
use Rattle.step_core.specs.ViewTrees.{SeesPoint}
use Rattle.step_core.specs.Views.{sees, setup_in, tree_seen}

-- ---- the worker's own nodes
-- node n stood already when the worker of this record handled its mark, by the worker's own records: the start, or a node that it placed
abbrev pub is_own_node : View → Record → ℕ → Bool
is_own_node view entry zero = true
is_own_node view entry (suc k) = is_earlier_record entry (record_at (sees view) k)

-- how many they are
abbrev pub own_count : View → Record → ℕ
own_count view entry = length (filter (is_own_node view entry) (range_with_len 0 (length view.run.marks + 1)))

-- what such a node was placed at
abbrev pub own_first_cost : View → ℕ → ℕ
own_first_cost view n = seen_first_cost view n

-- Node i is one of them within the radius of this class of p, with a clear edge.
pub record IsOwnNeighbour (view : View) (entry : Record) (class : ℕ) (p : Point) (i : ℕ) : Type 0 where
  pub own : IsTrue (is_own_node view entry i)
  pub near : IsTrue (is_within p (radius_of_class view.run.step view.run.gamma class) (point_at (tree_seen view).points i))
  pub clear : Clear (setup_in view.run).space (point_of (tree_seen view).points i) p

-- ---- outcomes
-- The mark was placed at the point in hand, with the parent and the cost in hand. The segment to it from the nearest node m is clear, the class is
-- that of a number of nodes between the own ones and the count seen, no own neighbour was a cheaper parent, and none is seen dearer than by way of the
-- node. It was posted if it lies in a goal by which marks are skipped, and only then.
pub record MayBePlaced (view : View) (hand : Hand) (entry : Record) (m : ℕ) (first : FirstHanging) : Type 0 where
  pub nearest_is : m ≡ hand.nearest
  pub parent_is : first.parent ≡ hand.parent
  pub cost_is : first.cost ≡ hand.cost
  pub clear : Clear (setup_in view.run).space (point_of (tree_seen view).points m) hand.point
  pub low : class_of (own_count view entry) ≤ first.class
  pub high : first.class ≤ class_of (sees view Count)
  pub chosen : (i : ℕ) → IsOwnNeighbour view entry first.class hand.point i
      → hand.cost ≤ own_first_cost view i + cost_of (point_of (tree_seen view).points i) hand.point
  pub rewired : (i : ℕ) → IsOwnNeighbour view entry first.class hand.point i
      → (2 ^ 63 ≤ sees view (TreeOf i)) × (cost_in (sees view (TreeOf i)) ≤ hand.cost + cost_of (point_of (tree_seen view).points i) hand.point)
  pub posted : IsTrue (is_goal_point view.run.goals (Some hand.point)) ↔ hand.stage ≡ Posted

-- The segment to p from the nearest node m is not clear, and no own node stands at p.
pub record MayBeBlocked (view : View) (entry : Record) (m : ℕ) (p : Point) : Type 0 where
  pub blocked : ¬ Clear (setup_in view.run).space (point_of (tree_seen view).points m) p
  pub free : (i : ℕ) → IsTrue (is_own_node view entry i) → ¬ SeesPoint view i p

-- What was reached at the point p to which the nearest node m steers. A mark whose point is written was not skipped: of another it is asked here.
abbrev pub MayReach : View → Hand → Record → ℕ → Reached → Point → Type 0
MayReach view hand entry m (NewNode first) p = MayBePlaced view hand entry m first
MayReach view hand entry m (SameNode j) p = IsUnskipped view hand × SeesPoint view j p
MayReach view hand entry m NoWay p = IsUnskipped view hand × MayBeBlocked view entry m p

-- The nearest node m is seen, no own node is nearer to the mark, and this may be reached at the point to which it steers.
pub record MaySteer (view : View) (hand : Hand) (entry : Record) (m : ℕ) (reached : Reached) : Type 0 where
  pub present : IsPresent (tree_seen view).points m
  pub nearest : (i : ℕ) → IsTrue (is_own_node view entry i) → IsNotAbove (distance_to (mark_at view.run.marks hand.mark) (tree_seen view).points) m i
  pub outcome : MayReach view hand entry m reached (steered (point_of (tree_seen view).points m) (mark_at view.run.marks hand.mark) view.run.step)

-- What is asked of the mark in hand, by what became of it.
abbrev pub MayEnd : View → Hand → Record → Ending → Type 0
MayEnd view hand entry (Steered nearest reached) = MaySteer view hand entry nearest reached
MayEnd view hand entry (SkippedBy goal_node) = MayBeSkipped view hand goal_node

-- The mark may end as the record says.
abbrev pub MayRecord : View → Hand → Record → Type 0
MayRecord view hand entry = MayEnd view hand entry (ending_of entry)
