-- The order law: what a tree with kept costs keeps at every moment. Costs strictly fall along parents, so there is no cycle.
use Rattle.std.specs.Prelude.{◌≡◌, ◌≢◌, ℕ, suc, ◌+◌, ◌-◌, ◌*◌, ◌≤◌, ◌==◌, nat_lt, ◌&&◌, Bool, false, Option, Some, None, count_by, if◌then◌else◌}
use Rattle.plan_model.specs.Terms.{Point, range_with_len}
use Rattle.plan_model.specs.Spaces.Clearance.{Clear, ClearAt}
use Rattle.plan_model.specs.Geometry.Lengths.{cost_of}
use Rattle.plan_model.specs.Geometry.Plane.{squared_distance}
use Rattle.plan_model.specs.Trees.NodeLists.{StandsAt, IsPresent, AreDistinct, point_of, node_count}
use Rattle.plan_model.specs.Trees.TreeStates.{TreeState, first_cost_of}
use Rattle.plan_model.specs.Runs.Textbook.{Setup}
use Rattle.plan_model.specs.declared.records.Record.{Record}

-- A tree may have an edge from a to b: it is clear and no longer than the step.
pub record IsAllowedEdge (setup : Setup) (a b : Point) : Type 0 where
  pub clear : Clear setup.space a b
  pub short : squared_distance a b ≤ setup.step * setup.step

-- Node n may hang at p below this parent at this cost, whether it is present or not: the parent is another node that is present, the
-- edge is allowed, and the cost is at least what the parent costs and the edge.
pub record Hangs (setup : Setup) (state : TreeState) (n : ℕ) (p : Point) (parent cost : ℕ) : Type 0 where
  pub present : IsPresent state.points parent
  pub other : parent ≢ n
  pub edge : IsAllowedEdge setup (point_of state.points parent) p
  pub above : state.cost parent + cost_of (point_of state.points parent) p ≤ cost

-- node n hangs below the parent that it has, at the cost that it is kept at
abbrev pub HangsBelow : Setup → TreeState → ℕ → Type 0
HangsBelow setup state n = Hangs setup state n (point_of state.points n) (state.parent n) (state.cost n)

-- a bound on the costs of a tree with so many nodes: a longest edge for each node after the start
abbrev pub most_cost_of : Setup → ℕ → ℕ
most_cost_of setup nodes = 256 * setup.step * (nodes - 1)

-- No two nodes stand at one point. The start is clear, its own parent, and costs nothing; every other node hangs below its parent.
pub record KeepsOrder (setup : Setup) (state : TreeState) : Type 0 where
  pub distinct : AreDistinct state.points
  pub start_stands : StandsAt state.points 0 setup.start
  pub start_clear : ClearAt setup.space setup.start
  pub start_parent : state.parent 0 ≡ 0
  pub start_cost : state.cost 0 ≡ 0
  pub hangs : (n : ℕ) → IsPresent state.points (suc n) → HangsBelow setup state (suc n)
  pub bounded : (n : ℕ) → IsPresent state.points n → state.cost n ≤ most_cost_of setup (node_count state.points)

-- No node costs more than it was placed at, and that is within the bound.
pub record KeepsFirstCosts (setup : Setup) (state : TreeState) : Type 0 where
  pub kept : (n : ℕ) → IsPresent state.points n → state.cost n ≤ first_cost_of state n
  pub bounded : (n : ℕ) → IsPresent state.points n → first_cost_of state n ≤ most_cost_of setup (node_count state.points)

-- ---- The turns of workers, by the records of their marks. Those of each worker run from 0, which is an equation of counts.
-- ---- counts
-- the record is there, and is this worker's
abbrev pub is_of_worker : ℕ → Option Record → Bool
is_of_worker worker None = false
is_of_worker worker (Some entry) = entry.worker == worker

-- how many marks below the limit this worker has handled
abbrev pub turns_of : (ℕ → Option Record) → ℕ → ℕ → ℕ
turns_of record_of limit worker = count_by (λ k. is_of_worker worker (record_of k)) (range_with_len 0 limit)

-- the record is there, and is of this turn of this worker
abbrev pub is_of_turn : ℕ → ℕ → Option Record → Bool
is_of_turn worker turn None = false
is_of_turn worker turn (Some entry) = entry.worker == worker && entry.turn == turn

-- how many marks below the limit this worker has handled in this turn
abbrev pub times_of : (ℕ → Option Record) → ℕ → ℕ → ℕ → ℕ
times_of record_of limit worker turn = count_by (λ k. is_of_turn worker turn (record_of k)) (range_with_len 0 limit)

-- ---- turns
-- 1 if the test passes, else 0
abbrev pub once_if : Bool → ℕ
once_if test = if test then 1 else 0

-- Each worker has handled one mark below the limit in each turn below the number of its marks, and none in any other turn.
pub record AreTurns (limit : ℕ) (record_of : ℕ → Option Record) : Type 0 where
  pub each : (worker turn : ℕ) → times_of record_of limit worker turn ≡ once_if (nat_lt turn (turns_of record_of limit worker))

-- The same without counts: the turns of each worker run from 0, with no gap and none twice.
pub record RunFromZero (record_of : ℕ → Option Record) : Type 0 where
  pub once : (j k : ℕ) (one other : Record) → record_of j ≡ Some one → record_of k ≡ Some other
      → one.worker ≡ other.worker → one.turn ≡ other.turn → j ≡ k
  pub no_gap : (k turn : ℕ) (entry : Record) → record_of k ≡ Some entry → entry.turn ≡ suc turn
      → (j : ℕ) × (before : Record) × (record_of j ≡ Some before) × (before.worker ≡ entry.worker) × (before.turn ≡ turn)
