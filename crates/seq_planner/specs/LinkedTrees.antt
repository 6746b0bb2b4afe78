-- The children of a tree's nodes.
use Rattle.std.specs.Prelude.{ℕ, ◌<◌, All, Contains, Option, List, ◌≡◌, zero, suc, is_some, [], length, map, filter, ◌≤◌, ◌==◌, Bool, false, Some, None}
use Rattle.std.specs.Prelude.{option_map}
use Rattle.seq_planner.specs.Terms.{ChildIndex, Goal, IndexesChains, IsGoalNode, IsPresent, MOST_NODES, PlacedPoints, Point, Twig, near, node_at, point_at}
use Rattle.seq_planner.specs.Terms.{point_of, points_of, range_with_len}

-- ---- Lists of the nodes that lie in a goal.
-- node n lies in a goal and has a number below the limit
pub record IsGoalNodeBelow (goals : List Goal) (points : List (Option Point)) (limit n : ℕ) : Type 0 where
  pub below : n < limit
  pub goal : IsGoalNode goals points n

-- the numbers are those of exactly the nodes below the limit that lie in a goal
pub record AreGoalNodesBelow (goals : List Goal) (points : List (Option Point)) (limit : ℕ) (numbers : List ℕ) : Type 0 where
  pub listed : (n : ℕ) → IsGoalNodeBelow goals points limit n → Contains numbers n
  pub goal_nodes : All (IsGoalNodeBelow goals points limit) numbers

-- ---- The nodes that are present, in a list of their own.
-- the numbers of the nodes that are present, in rising order
abbrev pub present_numbers : List (Option Point) → List ℕ
present_numbers points = filter (λ n. is_some (point_at points n)) (range_with_len 0 (length points))

-- the lists have these numbers, and where each of the nodes stands
pub record ArePlaced (nodes : List (Option Point)) (placed : PlacedPoints) : Type 0 where
  pub numbers : placed.numbers.items ≡ present_numbers nodes
  pub points : placed.points.items ≡ map (point_of nodes) (present_numbers nodes)

-- the nodes near a point that are listed: with radius 0 none is, though one may stand there
abbrev pub listed_near : List (Option Point) → Point → ℕ → List ℕ
listed_near points p zero = []
listed_near points p (suc r) = near points p (suc r)

-- ---- linked trees
-- the parent of a node that is a child; the start is nobody's, and neither is an absent node
abbrev pub parent_if_child : List (Option Twig) → ℕ → Option ℕ
parent_if_child tree zero = None
parent_if_child tree (suc n) = option_map (λ node. node.parent) (node_at tree (suc n))

-- whether the parent, if there is one, is f
abbrev pub is_parent_number : ℕ → Option ℕ → Bool
is_parent_number f None = false
is_parent_number f (Some g) = g == f

-- whether c is a child of node f
abbrev pub hangs_below : List (Option Twig) → ℕ → ℕ → Bool
hangs_below tree f c = is_parent_number f (parent_if_child tree c)

-- the chain of an index that the children of a parent are in; that of nobody's child is 0
abbrev pub chain_of : Option ℕ → ℕ
chain_of None = 0
chain_of (Some parent) = suc parent

-- the chain of children that a node is in
abbrev pub chain_in : List (Option Twig) → ℕ → ℕ
chain_in tree c = chain_of (parent_if_child tree c)

-- The index has the children of the tree's nodes, of which there are no more than a run may have: so 1 more than a number fits 32 bits.
pub record AreLinked (tree : List (Option Twig)) (children : ChildIndex) : Type 0 where
  pub few : length tree ≤ MOST_NODES
  pub chains : IndexesChains (length tree) (chain_in tree) children

-- a node may join the tree at its end if its parent is present
abbrev pub MayJoin : List (Option Twig) → Option Twig → Type 0
MayJoin tree None = Unit {0}
MayJoin tree (Some node) = IsPresent (points_of tree) node.parent
