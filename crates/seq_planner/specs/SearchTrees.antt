-- The search tree: it grows by one number for each mark, and costs are kept beside its nodes.
use Rattle.std.specs.Prelude.{◌≡◌, ℕ, ◌+◌, ◌-◌, ◌*◌, ◌^◌, ◌≤◌, All, Option, Some, None, List, [], ◌∷◌, ◌++◌, length, map, option_map, slice_index}
use Rattle.seq_planner.specs.Terms.{AreDistinct, AreTight, ConfigurationSpace, CostsFall, Extension, Handles, IsBestGoalNode, IsBounded, IsFree, IsPresent}
use Rattle.seq_planner.specs.Terms.{Knot, Nodes, PlacedPoints, Point, Record, Rewires, Scene, StandsAt, Twig, cost_through, mark_bound, node_count, points_of}
use Rattle.seq_planner.specs.Terms.{setup_of, space_of, sum_of, zip}
use Rattle.seq_planner.specs.declared.search_tree.SearchTree.{SearchTree}
use Rattle.seq_planner.specs.LinkedTrees.{ArePlaced}

-- every node stands where distances can be taken
abbrev pub AreBounded : List (Option Point) → Type 0
AreBounded points = (n : ℕ) (p : Point) → StandsAt points n p → IsBounded p

-- the greatest cost of a tree with so many nodes: a greatest edge for each node after the start
abbrev pub most_cost : List (Option Point) → ℕ
most_cost points = (node_count points - 1) * 2 ^ 29

-- Each kept cost is the parent's and the edge, so they fall along parents. No two nodes stand at the same point, and the
-- points for the scans are those of the nodes.
pub record IsSound (nodes : Nodes) (costs : List ℕ) (placed : PlacedPoints) : Type 0 where
  pub falling : CostsFall (λ n. slice_index costs n) nodes
  pub tight : AreTight (λ n. slice_index costs n) nodes
  pub distinct : AreDistinct (points_of nodes)
  pub bounded : AreBounded (points_of nodes)
  pub are_placed : ArePlaced (points_of nodes) placed
  pub cost_count : length costs ≡ length nodes
  pub cost_bound : (n : ℕ) → slice_index costs n ≤ most_cost (points_of nodes)

-- a search tree with its lists
abbrev pub IsSoundTree : SearchTree → Type 0
IsSoundTree tree = IsSound tree.nodes tree.costs.items tree.placed

-- a node, if it is present, with its kept cost
abbrev pub with_cost : Option Twig → ℕ → Option Knot
with_cost node cost = option_map (λ n. record { point = n.point; parent = n.parent; cost = cost }) node

-- the nodes with their kept costs
abbrev pub with_costs : Nodes → List ℕ → List (Option Knot)
with_costs nodes costs = map (λ kept. with_cost kept.0 kept.1) (zip nodes costs)

-- The node that is to be added, if there is one, stands in bounds where no node does, under a present parent, at the cost
-- through that; and at no cost if there is none.
abbrev pub Fits : Nodes → Option Twig → ℕ → Type 0
Fits nodes None cost = cost ≡ 0
Fits nodes (Some node) cost = IsPresent (points_of nodes) node.parent × IsFree (points_of nodes) node.point × IsBounded node.point
    × (cost ≡ cost_through nodes node.point node.parent) × (cost ≤ node_count (points_of nodes) * 2 ^ 29)

-- The tree after a mark: near nodes are rewired to the node that is added, if there is one.
abbrev pub AddsRewired : ConfigurationSpace → Nodes → Option Twig → List ℕ → Nodes → Type 0
AddsRewired space tree None near after = after ≡ tree ++ None ∷ []
AddsRewired space tree (Some node) near after = Rewires space (tree ++ Some node ∷ []) (length tree) near after

-- The next mark is handled by adding this node and this record, and by rewiring these near nodes.
pub record IsExtensionOf (scene : Scene) (tree : SearchTree) (mark : Point) (extension : Extension) (near : List ℕ) : Type 0 where
  pub fits : Fits tree.nodes extension.node extension.cost
  pub handles : (after : Nodes) → AddsRewired (space_of scene) tree.nodes extension.node near after
      → Handles (setup_of scene) tree.nodes (length tree.records.items) mark extension.entry after
  pub present : All (IsPresent (points_of tree.nodes)) near

-- The next mark is handled, and its record is the last.
pub record GrowsByMark (scene : Scene) (tree : SearchTree) (mark : Point) (after : SearchTree) : Type 0 where
  pub entry : Record
  pub recorded : after.records.items ≡ tree.records.items ++ entry ∷ []
  pub handled : Handles (setup_of scene) tree.nodes (length tree.records.items) mark entry after.nodes
  pub one_more : length after.nodes ≡ length tree.nodes + 1

-- The next mark may be skipped by this node, the best goal node, which costs no more than the bound of the mark.
pub record IsSkippedBy (scene : Scene) (tree : SearchTree) (mark : Point) (goal_node : ℕ) : Type 0 where
  pub best : IsBestGoalNode (setup_of scene) tree.nodes goal_node
  pub within : sum_of tree.nodes goal_node ≤ mark_bound (setup_of scene) mark
