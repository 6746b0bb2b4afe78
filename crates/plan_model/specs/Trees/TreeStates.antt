-- A tree with its costs and records at some moment: of a closed run, or of a table in the middle of one.
use Rattle.std.specs.Prelude.{◌≡◌, ◌<◌, ◌⊎◌, ℕ, zero, suc, Option, Some, None, List, slice_get, ◌≢◌, ◌+◌, ◌≤◌}
use Rattle.plan_model.specs.Terms.{Point, Twig}
use Rattle.plan_model.specs.declared.records.Record.{Record}
use Rattle.plan_model.specs.Trees.NodeLists.{point_at, StandsAt, IsPresent, points_of, parent_of, sum_of, chain_by, sum_by}

-- Where each node stands, and by its number its parent, its kept cost, and the cost that was written when it was placed; the
-- records by mark. Of a number without a node nothing is said.
pub record TreeState : Type 0 where
  pub points : List (Option Point)
  pub parent : ℕ → ℕ
  pub cost : ℕ → ℕ
  pub written_cost : ℕ → ℕ
  pub record_of : ℕ → Option Record

-- the first cost of a record, or else another
abbrev pub recorded_or : ℕ → Option Record → ℕ
recorded_or written None = written
recorded_or written (Some entry) = entry.first_cost

-- The cost that node n was placed at: by the record of its mark, or as it was written while the mark is in hand.
abbrev pub first_cost_of : TreeState → ℕ → ℕ
first_cost_of state zero = 0
first_cost_of state (suc k) = recorded_or (state.written_cost (suc k)) (state.record_of k)

-- a node keeps its parent and its cost, or its cost fell
abbrev pub KeepsOrFalls : TreeState → TreeState → ℕ → Type 0
KeepsOrFalls before after n = ((after.cost n ≡ before.cost n) × (after.parent n ≡ before.parent n)) ⊎ (after.cost n < before.cost n)

-- What stays from one moment to a later one: nodes, first costs and records stand, and no cost rises.
pub record GrowsInto (before after : TreeState) : Type 0 where
  pub nodes : (n : ℕ) (p : Point) → StandsAt before.points n p → StandsAt after.points n p
  pub first_costs : (n : ℕ) → IsPresent before.points n → first_cost_of after n ≡ first_cost_of before n
  pub trees : (n : ℕ) → IsPresent before.points n → KeepsOrFalls before after n
  pub records : (k : ℕ) (entry : Record) → before.record_of k ≡ Some entry → after.record_of k ≡ Some entry

-- The state of a tree and the records of its marks, in which each node costs its sum.
abbrev pub state_of : List (Option Twig) → List Record → TreeState
state_of tree records =
    record { points = points_of tree; parent = parent_of tree; cost = sum_of tree; written_cost = λ n. 0; record_of = slice_get records }

-- ---- chains and sums
-- the chain of a node
abbrev pub chain_in : TreeState → ℕ → List ℕ
chain_in state n = chain_by state.points state.parent n

-- the cost-to-come of a node, by its chain
abbrev pub sum_in : TreeState → ℕ → ℕ
sum_in state n = sum_by state.points state.parent n

-- Each node is kept at its sum.
abbrev pub IsSettled : TreeState → Type 0
IsSettled state = (n : ℕ) → IsPresent state.points n → state.cost n ≡ sum_in state n

-- ---- the same run
-- Two trees have the same nodes, with the same parents and kept costs, and the same records.
pub record AreSameRuns (one other : TreeState) : Type 0 where
  pub points : (n : ℕ) → point_at other.points n ≡ point_at one.points n
  pub parents : (n : ℕ) → IsPresent one.points n → other.parent n ≡ one.parent n
  pub costs : (n : ℕ) → IsPresent one.points n → other.cost n ≡ one.cost n
  pub records : (k : ℕ) → other.record_of k ≡ one.record_of k

-- Costs alone may differ: the nodes are the same, with the same parents, and so are the records and what was written.
pub record ChangesCosts (before after : TreeState) : Type 0 where
  pub points : after.points ≡ before.points
  pub parents : (n : ℕ) → after.parent n ≡ before.parent n
  pub written_costs : (n : ℕ) → after.written_cost n ≡ before.written_cost n
  pub records : (k : ℕ) → after.record_of k ≡ before.record_of k

-- ---- What becomes of kept costs when a node costs less than before: its descendants cost less by as much.
-- Node `node` costs less by `fall`, and every other present node less by as much as its parent does: so the descendants
-- of `node` cost less by `fall`, and all others what they did.
pub record IsBranchLowered (points : List (Option Point)) (parents : ℕ → ℕ) (node fall : ℕ) (costs later : ℕ → ℕ) : Type 0 where
  pub top : later node + fall ≡ costs node
  pub start : later 0 ≡ costs 0
  pub with_parent : (n : ℕ) → IsPresent points (suc n) → suc n ≢ node → later (suc n) + costs (parents (suc n)) ≡ costs (suc n) + later (parents (suc n))
  pub none_rises : (n : ℕ) → later n ≤ costs n
