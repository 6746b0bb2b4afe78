-- The laws of a full report beside its form, line by line: of nodes, turns, presence, records, and the head.
use Rattle.std.specs.Prelude.{◌≡◌, ◌≢◌, ℕ, zero, suc, ◌+◌, ◌<◌, is_some, Bool, true, false, Option, Some, None, length, slice_get}
use Rattle.report_judge.specs.Terms.{IsAllowedEdge, IsLawfulRecord, IsPresent, Record, Scene, Setup, StandsAt, Task, TreeState, best_node, edge_by, goals_of}
use Rattle.report_judge.specs.Terms.{is_blocked, is_placed, is_same, is_skipped, mark_at, node_count, outcome_count, path_to, point_at, point_of, setup_of}
use Rattle.report_judge.specs.Terms.{sum_in, turns_of}
use Rattle.report_judge.specs.Texts.ReportLines.{Tally}
use Rattle.report_judge.specs.Texts.ReportSheets.{PricedPath, Sheet, head_lines, state_of_sheet, number_of_node_line, number_of_mark_line}

-- ---- nodes and turns
-- node 0 is the start, its own parent, and costs nothing
pub record IsStartNode (setup : Setup) (state : TreeState) : Type 0 where
  pub stands : StandsAt state.points 0 setup.start
  pub parent : state.parent 0 ≡ 0
  pub cost : state.cost 0 ≡ 0

-- Node n stands where no earlier one does, below another node that is present, by an allowed edge, and costs what its parent does and the edge.
pub record IsSoundNode (setup : Setup) (state : TreeState) (n : ℕ) : Type 0 where
  pub alone : (m : ℕ) → m < n → ¬ StandsAt state.points m (point_of state.points n)
  pub present : IsPresent state.points (state.parent n)
  pub other : state.parent n ≢ n
  pub edge : IsAllowedEdge setup (point_of state.points (state.parent n)) (point_of state.points n)
  pub exact : state.cost n ≡ state.cost (state.parent n) + edge_by state.points state.parent n

-- what the law of nodes asks of a node
abbrev pub KeepsNodeLaw : Setup → TreeState → ℕ → Type 0
KeepsNodeLaw setup state zero = IsStartNode setup state
KeepsNodeLaw setup state (suc n) = IsSoundNode setup state (suc n)

-- The turn of mark k is that of no earlier mark of its worker, and below the number of its worker's marks.
pub record HasOwnTurn (limit : ℕ) (record_of : ℕ → Option Record) (k : ℕ) (entry : Record) : Type 0 where
  pub once : (j : ℕ) (other : Record) → j < k → record_of j ≡ Some other → other.worker ≡ entry.worker → other.turn ≢ entry.turn
  pub below : entry.turn < turns_of record_of limit entry.worker

-- ---- the head
-- the best path with its cost, if there is one
abbrev pub path_by : TreeState → Option ℕ → Option PricedPath
path_by state None = None
path_by state (Some n) = Some (record { points = path_to state n; cost = sum_in state n })

-- the path that the report of a run has
abbrev pub best_priced_path : Scene → ℕ → TreeState → Option PricedPath
best_priced_path scene limit state = path_by state (best_node (goals_of scene) limit state)

-- how many marks were skipped, if the scene is informed
abbrev pub skipped_of : Bool → ℕ → TreeState → Option ℕ
skipped_of false limit state = None
skipped_of true limit state = Some (outcome_count state.record_of limit is_skipped)

-- the counts that the report of a run has
abbrev pub tally_of : Scene → ℕ → TreeState → Tally
tally_of scene limit state = record {
  nodes = node_count state.points;
  placed = outcome_count state.record_of limit is_placed;
  same = outcome_count state.record_of limit is_same;
  blocked = outcome_count state.record_of limit is_blocked;
  skipped = skipped_of scene.informed limit state;
}

-- ---- the laws by their numbers
-- A line, counted from 1, keeps a law. Law 2 is of nodes, law 3 of turns, law 4 of the presence of a node for each placed mark, law 5 of
-- records, and law 6 of the lines before those of nodes, which are those of the run's report.
pub record KeepsLawAt (task : Task) (sheet : Sheet) (law line : ℕ) : Type 0 where
  pub node : law ≡ 2 → (n : ℕ) → IsPresent (state_of_sheet sheet).points n → line ≡ number_of_node_line sheet n
      → KeepsNodeLaw (setup_of task.scene) (state_of_sheet sheet) n
  pub turn : law ≡ 3 → (k : ℕ) (entry : Record) → slice_get sheet.records k ≡ Some entry → line ≡ number_of_mark_line sheet k
      → HasOwnTurn (length task.marks) (slice_get sheet.records) k entry
  pub presence : law ≡ 4 → (k : ℕ) (entry : Record) → slice_get sheet.records k ≡ Some entry → line ≡ number_of_mark_line sheet k
      → is_some (point_at (state_of_sheet sheet).points (suc k)) ≡ is_placed entry.outcome
  pub lawful : law ≡ 5 → (k : ℕ) (entry : Record) → slice_get sheet.records k ≡ Some entry → line ≡ number_of_mark_line sheet k
      → IsLawfulRecord (setup_of task.scene) (state_of_sheet sheet) k (mark_at task.marks k) entry
  pub head : law ≡ 6 → (i : ℕ) → i < length (head_lines sheet.path sheet.tally) → line ≡ suc i
      → slice_get (head_lines sheet.path sheet.tally) i
      ≡ slice_get
      (head_lines (best_priced_path task.scene (length task.marks) (state_of_sheet sheet)) (tally_of task.scene (length task.marks) (state_of_sheet sheet))) i

-- each line keeps the law
abbrev pub KeepsLaw : Task → Sheet → ℕ → Type 0
KeepsLaw task sheet law = (line : ℕ) → KeepsLawAt task sheet law line
