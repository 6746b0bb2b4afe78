-- The textbook run: RRT* as in Karaman and Frazzoli, IJRR 2011, algorithm 6, one mark after another. Where there are goals by which marks are
-- skipped, a mark over which no path could be cheaper than the best one is skipped.
use Rattle.std.specs.Prelude.{◌≡◌, ℕ, suc, ◌+◌, ◌<◌, ◌≤◌, ◌⊎◌, Option, Some, None, List, [], ◌∷◌, ◌++◌, slice_set, if◌then◌else◌}
use Rattle.plan_model.specs.Terms.{ConfigurationSpace, Goal, Point, Twig}
use Rattle.plan_model.specs.declared.scenes.Scene.{Scene}
use Rattle.plan_model.specs.declared.records.Record.{Record}
use Rattle.plan_model.specs.Runs.Endings.{FirstHanging, Reached, NewNode, SameNode, NoWay, Ending, Steered, SkippedBy, ending_of}
use Rattle.plan_model.specs.Spaces.ConfigurationSpace.{space_of}
use Rattle.plan_model.specs.Spaces.Clearance.{Clear}
use Rattle.plan_model.specs.Geometry.Lengths.{steered, class_of, radius_of}
use Rattle.plan_model.specs.Trees.NodeLists.{StandsAt, IsFree, point_of, node_count, cost_through_by, points_of, sum_of}
use Rattle.plan_model.specs.Trees.Nearness.{IsFirstLeast, IsNearest, near}
use Rattle.plan_model.specs.Trees.BestNode.{IsOpenTo, IsGoalNode, bound_of}
use Rattle.plan_model.specs.Scenes.MarkPoints.{mark_points}
use Rattle.plan_model.specs.Trees.TreeStates.{TreeState, state_of, AreSameRuns}

-- a tree as a list: the nodes by number, absent if the mark was not placed
abbrev pub Nodes : Type 0
Nodes = List (Option Twig)

-- What a run depends on besides its marks: the configuration space, where it starts, the longest edge, the factor of the radius, and the
-- goals by which marks may be skipped.
pub record Setup : Type 0 where
  pub space : ConfigurationSpace
  pub start : Point
  pub step : ℕ
  pub gamma : ℕ
  pub goals : List Goal

-- the goals by which marks of a scene may be skipped: none if it is not informed
abbrev pub skipping_goals : Scene → List Goal
skipping_goals scene = if scene.informed then scene.goals else []

-- what a run of a scene depends on besides its marks
abbrev pub setup_of : Scene → Setup
setup_of scene = record { space = space_of scene; start = scene.start; step = scene.step; gamma = scene.gamma; goals = skipping_goals scene }

-- the tree of the start alone
abbrev pub start_alone : Point → Nodes
start_alone start = Some (record { point = start; parent = 0 }) ∷ []

-- ---- the parent of a new node
-- the cost of reaching p through node i
abbrev pub cost_through : Nodes → Point → ℕ → ℕ
cost_through tree p i = cost_through_by (sum_of tree) (points_of tree) p i

-- the nodes within the radius of a new node at p
abbrev pub near_new : Setup → List (Option Point) → Point → List ℕ
near_new setup points p = near points p (radius_of setup.step setup.gamma (node_count points))

-- a parent that may be chosen: the nearest node or a near one, with a clear edge
abbrev pub IsCandidate : Setup → List (Option Point) → ℕ → Point → ℕ → Type 0
IsCandidate setup points nearest p i = IsOpenTo setup.space points p (nearest ∷ near_new setup points p) i

-- f is the candidate with the least pair of cost through it and number
abbrev pub IsBestParent : Setup → Nodes → ℕ → Point → ℕ → Type 0
IsBestParent setup tree nearest p f = IsFirstLeast (cost_through tree p) (IsCandidate setup (points_of tree) nearest p) f

-- ---- rewiring
-- the way through node n to node i is strictly cheaper than the way that i has, and the edge is clear
pub record IsCheaperThrough (space : ConfigurationSpace) (tree : Nodes) (n i : ℕ) : Type 0 where
  pub cheaper : cost_through tree (point_of (points_of tree) i) n < sum_of tree i
  pub clear : Clear space (point_of (points_of tree) n) (point_of (points_of tree) i)

-- node i with node n as its parent
abbrev pub with_parent : Nodes → ℕ → ℕ → Nodes
with_parent tree i n = slice_set tree i (Some (record { point = point_of (points_of tree) i; parent = n }))

-- One near node is looked at: it gets the new node n as its parent exactly if that is cheaper.
abbrev pub RewiresOne : ConfigurationSpace → Nodes → ℕ → ℕ → Nodes → Type 0
RewiresOne space tree n i after = (IsCheaperThrough space tree n i × (after ≡ with_parent tree i n))
    ⊎ ((¬ IsCheaperThrough space tree n i) × (after ≡ tree))

-- the near nodes are looked at one after another, each by the sums as they then stand
abbrev pub Rewires : ConfigurationSpace → Nodes → ℕ → List ℕ → Nodes → Type 0
Rewires space tree n [] after = after ≡ tree
Rewires space tree n (i ∷ near) after = (between : Nodes) × RewiresOne space tree n i between × Rewires space between n near after

-- ---- skipping
-- the bound of a mark, by the goals by which marks are skipped
abbrev pub mark_bound : Setup → Point → ℕ
mark_bound setup mark = bound_of setup.start setup.goals mark

-- each goal node costs more than the bound of the mark, so that a path over the mark may be cheaper than each
abbrev pub MayBeCheaper : Setup → (ℕ → ℕ) → List (Option Point) → Point → Type 0
MayBeCheaper setup costs points mark = (i : ℕ) → IsGoalNode setup.goals points i → mark_bound setup mark < costs i

-- g is the goal node with the least pair of sum and number
abbrev pub IsBestGoalNode : Setup → Nodes → ℕ → Type 0
IsBestGoalNode setup tree g = IsFirstLeast (sum_of tree) (IsGoalNode setup.goals (points_of tree)) g

-- ---- one mark
-- m is the nearest node to the mark, and steers towards it to p
pub record SteersTo (setup : Setup) (points : List (Option Point)) (mark : Point) (m : ℕ) (p : Point) : Type 0 where
  pub nearest : IsNearest points mark m
  pub reached : p ≡ steered (point_of points m) mark setup.step

-- no node stands at p, and the segment to it from its nearest node m is not clear
pub record EndsBlocked (space : ConfigurationSpace) (points : List (Option Point)) (m : ℕ) (p : Point) : Type 0 where
  pub free : IsFree points p
  pub blocked : ¬ Clear space (point_of points m) p

-- The node of mark k is placed at p: it stands under its best parent, and near nodes that are cheaper through it are rewired.
pub record EndsPlaced (setup : Setup) (tree : Nodes) (k m : ℕ) (p : Point) (first : FirstHanging) (after : Nodes) : Type 0 where
  pub free : IsFree (points_of tree) p
  pub clear : Clear setup.space (point_of (points_of tree) m) p
  pub parent : IsBestParent setup tree m p first.parent
  pub cost : first.cost ≡ cost_through tree p first.parent
  pub of_class : first.class ≡ class_of (node_count (points_of tree))
  pub rewired : Rewires setup.space (tree ++ Some (record { point = p; parent = first.parent }) ∷ []) (suc k) (near_new setup (points_of tree) p) after

-- What comes of the point p to which the nearest node m of mark k steers: from tree to after.
abbrev pub Reaches : Setup → Nodes → ℕ → ℕ → Point → Reached → Nodes → Type 0
Reaches setup tree k m p (NewNode first) after = EndsPlaced setup tree k m p first after
Reaches setup tree k m p (SameNode j) after = StandsAt (points_of tree) j p × (after ≡ tree ++ None ∷ [])
Reaches setup tree k m p NoWay after = EndsBlocked setup.space (points_of tree) m p × (after ≡ tree ++ None ∷ [])

-- Node m steers to mark k, over which a path may be cheaper than each goal node, and this comes of it.
pub record EndsSteered (setup : Setup) (tree : Nodes) (k : ℕ) (mark : Point) (m : ℕ) (reached : Reached) (after : Nodes) : Type 0 where
  pub cheaper : MayBeCheaper setup (sum_of tree) (points_of tree) mark
  pub point : Point
  pub steers : SteersTo setup (points_of tree) mark m point
  pub reaches : Reaches setup tree k m point reached after

-- The mark is skipped: the best goal node g costs no more than its bound. Nothing is placed.
pub record EndsSkipped (setup : Setup) (tree : Nodes) (mark : Point) (g : ℕ) (after : Nodes) : Type 0 where
  pub best : IsBestGoalNode setup tree g
  pub within : sum_of tree g ≤ mark_bound setup mark
  pub added : after ≡ tree ++ None ∷ []

-- Mark k ends so: from tree to after.
abbrev pub Ends : Setup → Nodes → ℕ → Point → Ending → Nodes → Type 0
Ends setup tree k mark (Steered nearest reached) after = EndsSteered setup tree k mark nearest reached after
Ends setup tree k mark (SkippedBy goal_node) after = EndsSkipped setup tree mark goal_node after

-- Worker 0 handles mark k in its turn k, and the mark ends as its record says.
pub record Handles (setup : Setup) (tree : Nodes) (k : ℕ) (mark : Point) (entry : Record) (after : Nodes) : Type 0 where
  pub worker : entry.worker ≡ 0
  pub turn : entry.turn ≡ k
  pub ends : Ends setup tree k mark (ending_of entry) after

-- ---- whole runs
-- The marks from mark k on are handled, one after another.
abbrev pub HandlesAll : Setup → ℕ → Nodes → List Point → List Record → Nodes → Type 0
HandlesAll setup k tree [] [] after = after ≡ tree
HandlesAll setup k tree (mark ∷ marks) (entry ∷ entries) after =
    (between : Nodes) × Handles setup tree k mark entry between × HandlesAll setup (k + 1) between marks entries after
HandlesAll setup k tree marks entries after = ⊥

-- The textbook run over these marks, from the start alone, ends with this tree and these records.
abbrev pub IsTextbookRun : Setup → List Point → Nodes → List Record → Type 0
IsTextbookRun setup marks tree records = HandlesAll setup 0 (start_alone setup.start) marks records tree

-- ---- Records with the same fields, scenes whose textbook runs have the same inputs, and trees that a textbook run ends with.
-- two records say the same of a mark
pub record HaveSameFields (one other : Record) : Type 0 where
  pub worker : one.worker ≡ other.worker
  pub turn : one.turn ≡ other.turn
  pub nearest : one.nearest ≡ other.nearest
  pub outcome : one.outcome ≡ other.outcome
  pub first_parent : one.first_parent ≡ other.first_parent
  pub first_cost : one.first_cost ≡ other.first_cost
  pub class : one.class ≡ other.class

-- two scenes agree in all that the textbook run depends on
pub record HaveSameInputs (one other : Scene) : Type 0 where
  pub space : space_of one ≡ space_of other
  pub start : one.start ≡ other.start
  pub step : one.step ≡ other.step
  pub gamma : one.gamma ≡ other.gamma
  pub goals : skipping_goals one ≡ skipping_goals other
  pub marks : mark_points one ≡ mark_points other

-- The tree and its records are those of the textbook run over these marks, each node kept at its sum.
pub record IsOfTextbookRun (setup : Setup) (marks : List Point) (state : TreeState) : Type 0 where
  pub nodes : Nodes
  pub records : List Record
  pub run : IsTextbookRun setup marks nodes records
  pub same : AreSameRuns (state_of nodes records) state
