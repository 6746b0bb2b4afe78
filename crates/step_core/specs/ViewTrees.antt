-- What a view has seen of the tree, and which steps on nodes that allows it.
use Rattle.std.specs.Prelude.{◌≡◌, ◌≢◌, ℕ, suc, ◌+◌, ◌^◌, ◌<◌, ◌≤◌, Bool, true, IsTrue, Some, length}
use Rattle.step_core.specs.Terms.{Best, ChildOf, Count, Counter, FirstOf, Hand, IsAllowedEdge, IsOnWay, IsPresent, IsRooted, IsSeen, Point, PointOf, Posted}
use Rattle.step_core.specs.Terms.{RecordOf, Sight, StandsAt, TreeOf, View, Word, cost_in, cost_of, goes_right, has_node, is_goal_point, mark_at, parent_in}
use Rattle.step_core.specs.Terms.{sight_of_words, steered}
use Rattle.step_core.specs.SeenBests.{IsUnskipped}
use Rattle.step_core.specs.Stages.{has_link, has_point}
use Rattle.step_core.specs.Views.{run_sizes, seen_words, sees, setup_in, tree_seen}

-- what it has seen, and by which of its steps it found places of children empty
abbrev pub sight_in : View → Sight
sight_in view = sight_of_words (run_sizes view.run) (seen_words view)

-- node n is seen
abbrev pub SeesNode : View → ℕ → Type 0
SeesNode view n = IsSeen (tree_seen view) n

-- node n is seen at p
abbrev pub SeesPoint : View → ℕ → Point → Type 0
SeesPoint view n p = StandsAt (tree_seen view).points n p

-- ---- the mark in hand
-- a step from node m, where that was seen, towards mark k leads to p
pub record IsSteered (view : View) (k m : ℕ) (p : Point) : Type 0 where
  pub from : Point
  pub seen : SeesPoint view m from
  pub reached : p ≡ steered from (mark_at view.run.marks k) view.run.step

-- Once its point is written, a node in hand is steered from a seen node, which is another, and its mark is not skipped. Once it is linked, it is
-- seen at its point, and its first word is seen. It is posted only if it lies in a goal by which marks are skipped.
pub record SeesHand (view : View) (hand : Hand) : Type 0 where
  pub steered_from : has_point hand.stage ≡ true → IsSteered view hand.mark hand.nearest hand.point
  pub other : has_point hand.stage ≡ true → hand.nearest ≢ suc hand.mark
  pub unskipped : has_point hand.stage ≡ true → IsUnskipped view hand
  pub shown : has_link hand.stage ≡ true → SeesPoint view (suc hand.mark) hand.point
  pub first_shown : has_link hand.stage ≡ true → 2 ^ 63 ≤ sees view (FirstOf (suc hand.mark))
  pub posted : hand.stage ≡ Posted → IsTrue (is_goal_point view.run.goals (Some hand.point))

-- ---- all that is seen
-- A view sees its tree from node 0 on, and each node of a placed mark whose record it has seen, with its point and its first word.
pub record SeesTree (view : View) : Type 0 where
  pub rooted : IsRooted (tree_seen view)
  pub placed : (k : ℕ) → has_node (sees view) (suc k) ≡ true → IsPresent (tree_seen view).points (suc k)
  pub placed_first : (k : ℕ) → has_node (sees view) (suc k) ≡ true → 2 ^ 63 ≤ sees view (FirstOf (suc k))
  pub holds : (hand : Hand) → view.hand ≡ Some hand → SeesHand view hand

-- node n is on the way of p over what is seen, at this depth
abbrev pub IsOnWayOf : View → Point → ℕ → ℕ → Type 0
IsOnWayOf view p depth n = IsOnWay (tree_seen view).child (tree_seen view).points p depth n

-- ---- parents and costs
-- node n is seen at p, with a parent and this cost
pub record SeesCost (view : View) (n : ℕ) (p : Point) (cost : ℕ) : Type 0 where
  pub stands : SeesPoint view n p
  pub written : 2 ^ 63 ≤ sees view (TreeOf n)
  pub cost_is : cost ≡ cost_in (sees view (TreeOf n))

-- What a node at p may cost below this parent, by what was seen of it: the edge is allowed, and the cost is the parent's and the edge.
pub record IsCostBelow (view : View) (p : Point) (parent cost : ℕ) : Type 0 where
  pub from : Point
  pub parent_cost : ℕ
  pub seen : SeesCost view parent from parent_cost
  pub edge : IsAllowedEdge (setup_in view.run) from p
  pub cost_is : cost ≡ parent_cost + cost_of from p

-- the parent and the cost that a node in hand may be placed with: it costs no more than below its nearest node
pub record MayHang (view : View) (hand : Hand) (parent cost : ℕ) : Type 0 where
  pub below : IsCostBelow view hand.point parent cost
  pub nearest_at : Point
  pub nearest_cost : ℕ
  pub nearest : SeesCost view hand.nearest nearest_at nearest_cost
  pub chosen : cost ≤ nearest_cost + cost_of nearest_at hand.point

-- Node n may get this parent and this cost: that is less than it was seen to cost.
pub record MayLower (view : View) (n parent cost : ℕ) : Type 0 where
  pub at : Point
  pub old_cost : ℕ
  pub seen : SeesCost view n at old_cost
  pub below : IsCostBelow view at parent cost
  pub cheaper : cost < old_cost

-- What the law says of the parent and the cost that were seen of node n. The cost is one of a tree within the limits. The start is its own
-- parent, at no cost; the parent of any other is another node. If node and parent are seen with their points, the edge is allowed: of the
-- start this says that it is clear. The cost is at most that of the first word, if that is seen.
pub record IsSeenPair (view : View) (n : ℕ) : Type 0 where
  pub low : cost_in (sees view (TreeOf n)) < 2 ^ 42
  pub within : parent_in (sees view (TreeOf n)) ≤ length view.run.marks
  pub start : n ≡ 0 → (parent_in (sees view (TreeOf n)) ≡ 0) × (cost_in (sees view (TreeOf n)) ≡ 0)
  pub other : 0 < n → parent_in (sees view (TreeOf n)) ≢ n
  pub edge : (at from : Point) → SeesPoint view n at → SeesPoint view (parent_in (sees view (TreeOf n))) from
      → IsAllowedEdge (setup_in view.run) from at
  pub first : 2 ^ 63 ≤ sees view (FirstOf n) → cost_in (sees view (TreeOf n)) ≤ cost_in (sees view (FirstOf n))

-- ---- steps
-- It may load the count, the counters, and of the nodes that it has seen their points, children and tree words.
abbrev pub MayLoad : View → Word → Type 0
MayLoad view Count = Unit {0}
MayLoad view (Counter g) = g < view.run.strips
MayLoad view (PointOf n) = SeesNode view n
MayLoad view (ChildOf n side) = SeesNode view n
MayLoad view (TreeOf n) = SeesNode view n
MayLoad view name = ⊥

-- The way of p over what is seen comes to node n, and leads on to the place of its child on this side. No node on it is at p.
pub record LeadsTo (view : View) (p : Point) (n : ℕ) (side : Bool) : Type 0 where
  pub depth : ℕ
  pub at : Point
  pub on_way : IsOnWayOf view p depth n
  pub stands : SeesPoint view n at
  pub apart : at ≢ p
  pub side_is : goes_right depth at p ≡ side
