-- Trees, as lists by number: at each number a point with its parent, or nothing. The start has number 0; the node that mark k gives has number k + 1.
use Rattle.std.specs.Prelude.{◌≡◌, ◌≤◌, ℕ, Option, Some, None, IsSome, is_some, unwrap_or, List, count_by, slice_index_or, zero, suc, ◌+◌, ◌<◌, [], ◌∷◌, map}
use Rattle.std.specs.Prelude.{option_map}
use Rattle.plan_model.specs.Terms.{Knot, Point, Twig}
use Rattle.plan_model.specs.Geometry.Lengths.{cost_of}

-- ---- Points by number: where each node of a tree stands. The start has number 0, and the node that mark k gives has number k + 1; a number without
-- a node has no point.
-- where node n stands, if it is present
abbrev pub point_at : List (Option Point) → ℕ → Option Point
point_at points n = slice_index_or points n None

-- node n is present and stands at p
abbrev pub StandsAt : List (Option Point) → ℕ → Point → Type 0
StandsAt points n p = point_at points n ≡ Some p

-- node n is present
abbrev pub IsPresent : List (Option Point) → ℕ → Type 0
IsPresent points n = IsSome (point_at points n)

-- the point of a present node (definitions ask it of present nodes alone)
abbrev pub point_of : List (Option Point) → ℕ → Point
point_of points n = unwrap_or (point_at points n) (record { x = 0; y = 0 })

-- no node stands at p
abbrev pub IsFree : List (Option Point) → Point → Type 0
IsFree points p = (j : ℕ) → ¬ StandsAt points j p

-- no two nodes stand at the same point
abbrev pub AreDistinct : List (Option Point) → Type 0
AreDistinct points = (i j : ℕ) (p : Point) → StandsAt points i p → StandsAt points j p → i ≡ j

-- no node has a number past the limit
abbrev pub AreNumberedTo : ℕ → List (Option Point) → Type 0
AreNumberedTo limit points = (n : ℕ) → IsPresent points n → n ≤ limit

-- how many nodes are present
abbrev pub node_count : List (Option Point) → ℕ
node_count points = count_by is_some points

-- ---- node lists
-- the node with this number, if it is present
abbrev pub node_at : List (Option Twig) → ℕ → Option Twig
node_at tree n = slice_index_or tree n None

-- where each node stands
abbrev pub points_of : List (Option Twig) → List (Option Point)
points_of tree = map (option_map (λ node. node.point)) tree

-- the parent that a node names, 0 if there is no node
abbrev pub parent_or_zero : Option Twig → ℕ
parent_or_zero None = 0
parent_or_zero (Some node) = node.parent

-- the parent of a present node (definitions ask it of present nodes alone)
abbrev pub parent_of : List (Option Twig) → ℕ → ℕ
parent_of tree n = parent_or_zero (node_at tree n)

-- node n, its parent, and so on up to node 0, as far as so many members go
abbrev pub chain_within : ℕ → (ℕ → ℕ) → ℕ → List ℕ
chain_within zero parents n = []
chain_within (suc most) parents zero = 0 ∷ []
chain_within (suc most) parents (suc n) = suc n ∷ chain_within most parents (parents (suc n))

-- The chain of a node: it has at most as many members as nodes are present.
abbrev pub chain_by : List (Option Point) → (ℕ → ℕ) → ℕ → List ℕ
chain_by points parents n = chain_within (node_count points) parents n

-- the edge costs along a list of points, added up
abbrev pub length_of_path : List Point → ℕ
length_of_path (p ∷ q ∷ path) = cost_of q p + length_of_path (q ∷ path)
length_of_path path = 0

-- the cost-to-come of a node, by its chain
abbrev pub sum_by : List (Option Point) → (ℕ → ℕ) → ℕ → ℕ
sum_by points parents n = length_of_path (map (point_of points) (chain_by points parents n))

-- the cost of the edge from a node's parent
abbrev pub edge_by : List (Option Point) → (ℕ → ℕ) → ℕ → ℕ
edge_by points parents n = cost_of (point_of points (parents n)) (point_of points n)

-- the cost of reaching p through node i, by the costs of nodes
abbrev pub cost_through_by : (ℕ → ℕ) → List (Option Point) → Point → ℕ → ℕ
cost_through_by costs points p i = costs i + cost_of (point_of points i) p

-- the chain of a node of a tree that is a list
abbrev pub chain : List (Option Twig) → ℕ → List ℕ
chain tree n = chain_by (points_of tree) (parent_of tree) n

-- the cost-to-come of a node of a tree that is a list
abbrev pub sum_of : List (Option Twig) → ℕ → ℕ
sum_of tree n = sum_by (points_of tree) (parent_of tree) n

-- the cost of the edge from the parent of a node of a tree that is a list
abbrev pub edge_of : List (Option Twig) → ℕ → ℕ
edge_of tree n = edge_by (points_of tree) (parent_of tree) n

-- ---- kept costs
-- Each present node but the start has a present parent, which costs strictly less.
pub record FallAlong (costs : ℕ → ℕ) (points : List (Option Point)) (parents : ℕ → ℕ) : Type 0 where
  pub start : IsPresent points 0
  pub parent : (n : ℕ) → IsPresent points (suc n) → IsPresent points (parents (suc n))
  pub falls : (n : ℕ) → IsPresent points (suc n) → costs (parents (suc n)) < costs (suc n)

-- The start costs nothing, and every other present node its parent's cost and the edge.
pub record AreTightAlong (costs : ℕ → ℕ) (points : List (Option Point)) (parents : ℕ → ℕ) : Type 0 where
  pub start : costs 0 ≡ 0
  pub edges : (n : ℕ) → IsPresent points (suc n) → costs (suc n) ≡ costs (parents (suc n)) + edge_by points parents (suc n)

-- costs fall along the parents of a tree that is a list
abbrev pub CostsFall : (ℕ → ℕ) → List (Option Twig) → Type 0
CostsFall costs tree = FallAlong costs (points_of tree) (parent_of tree)

-- costs are tight along the parents of a tree that is a list
abbrev pub AreTight : (ℕ → ℕ) → List (Option Twig) → Type 0
AreTight costs tree = AreTightAlong costs (points_of tree) (parent_of tree)

-- the nodes without their kept costs
abbrev pub without_costs : List (Option Knot) → List (Option Twig)
without_costs knots = map (option_map (λ k. record { point = k.point; parent = k.parent })) knots
