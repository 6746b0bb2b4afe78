-- Marks on nodes that are settled, and what settling one more of them does.
use Rattle.std.specs.Prelude.{◌≡◌, ℕ, zero, suc, ◌+◌, ◌<◌, Bool, false, IsTrue, List, length, slice_index, slice_index_or, cond, Option, take, [], ◌∷◌, ◌++◌}
use Rattle.std.specs.Prelude.{codes, decimal}
use Rattle.plan_model.specs.Trees.NodeLists.{IsPresent, edge_by}
use Rattle.plan_model.specs.Trees.TreeStates.{TreeState, sum_in}
use Rattle.grown_runs.specs.Runs.GrownRuns.{CostsInstead}
use Rattle.plan_model.specs.declared.records.Outcome.{Outcome}
use Rattle.plan_model.specs.declared.records.Record.{Record}
use Rattle.plan_model.specs.Runs.ClosedLaw.{outcome_count}
use Rattle.plan_model.specs.Runs.Outcomes.{is_placed, is_same, is_blocked, is_skipped}
use Rattle.settle_report.specs.declared.outcome_counts.OutcomeCounts.{OutcomeCounts}
use Rattle.std.specs.Io.KnownBytes.{Appends}
use Rattle.std.specs.List.{join_with_byte}
use Rattle.plan_model.specs.Reports.ReportText.{line}
use Rattle.plan_model.specs.declared.trees.Knot.{Knot}

-- Each node up to the limit may have a mark; the start has one, and each that has one is kept at its sum.
pub record MarksSettled (state : TreeState) (limit : ℕ) (marks : List Bool) : Type 0 where
  pub each : length marks ≡ suc limit
  pub start : IsTrue (slice_index_or marks 0 false)
  pub kept : (n : ℕ) → IsTrue (slice_index_or marks n false) → state.cost n ≡ sum_in state n

-- Node n is present, not the start, and a child of the parent.
pub record IsChildOf (state : TreeState) (parent n : ℕ) : Type 0 where
  pub present : IsPresent state.points n
  pub other : 0 < n
  pub hangs : state.parent n ≡ parent

-- By so many steps from a parent to the child that it names, the list leads from one node to another.
abbrev pub LeadsDownBy : ℕ → TreeState → List ℕ → ℕ → ℕ → Type 0
LeadsDownBy zero state child_of from to = from ≡ to
LeadsDownBy (suc steps) state child_of from to =
    IsChildOf state from (slice_index child_of from) × LeadsDownBy steps state child_of (slice_index child_of from) to

-- the list leads down from one node to another
abbrev pub LeadsDown : TreeState → List ℕ → ℕ → ℕ → Type 0
LeadsDown state child_of from to = (steps : ℕ) × LeadsDownBy steps state child_of from to

-- Node n costs what its parent costs and the edge, and all else is as it was.
abbrev pub CostsByParent : TreeState → TreeState → ℕ → Type 0
CostsByParent before after n = CostsInstead before after n (before.cost (before.parent n) + edge_by before.points before.parent n)

-- ---- Nodes that are kept at no more than they must be.
-- Node n, if it is present, is kept at what its parent is kept at and the edge.
abbrev pub IsTight : TreeState → ℕ → Type 0
IsTight state n = IsPresent state.points n → state.cost n ≡ state.cost (state.parent n) + edge_by state.points state.parent n

-- ---- The marks below a limit, counted by their outcomes.
-- the counts with one mark more, which had this outcome
abbrev pub with_outcome : OutcomeCounts → Outcome → OutcomeCounts
with_outcome counts outcome = record {
  placed = counts.placed + cond (is_placed outcome) 1 0;
  same = counts.same + cond (is_same outcome) 1 0;
  blocked = counts.blocked + cond (is_blocked outcome) 1 0;
  skipped = counts.skipped + cond (is_skipped outcome) 1 0;
}

-- The counts are those of the marks below a limit, each of which has a record.
pub record AreCounts (record_of : ℕ → Option Record) (limit : ℕ) (counts : OutcomeCounts) : Type 0 where
  pub placed : counts.placed ≡ outcome_count record_of limit is_placed
  pub same : counts.same ≡ outcome_count record_of limit is_same
  pub blocked : counts.blocked ≡ outcome_count record_of limit is_blocked
  pub skipped : counts.skipped ≡ outcome_count record_of limit is_skipped
  pub all : ((counts.placed + counts.same) + counts.blocked) + counts.skipped ≡ limit

-- ---- What a failed delivery leaves in a sink.
-- known bytes grow by a proper prefix of the text
abbrev pub AppendsPrefix : Option (List ℕ) → Option (List ℕ) → List ℕ → Type 0
AppendsPrefix old new text = (n : ℕ) × (n < length text) × Appends old new (take n text)

-- ---- The first words of a mark's line, which say who handled it.
-- mark k, its worker and turn, and a space
abbrev pub words_before_outcome : ℕ → Record → List ℕ
words_before_outcome k entry = join_with_byte 32 (
    codes "mark" ∷ decimal k ∷ codes "worker" ∷ decimal entry.worker ∷ codes "turn" ∷ decimal entry.turn ∷ []) ++ 32 ∷ []

-- ---- The line of a node, from its numbers alone.
-- Node n, where it stands, its parent and its cost. With the parent and the sum that a tree has, it is `node_line` of the tree.
abbrev pub knot_line : ℕ → Knot → List ℕ
knot_line n knot = line (codes "node" ∷ decimal n ∷ codes "at" ∷ decimal knot.point.x ∷ decimal knot.point.y
    ∷ codes "parent" ∷ decimal knot.parent ∷ codes "cost" ∷ decimal knot.cost ∷ [])
