-- The nodes and the records of a report, with the nodes of a worker, by which its marks are judged.
use Rattle.std.specs.Prelude.{◌≡◌, ℕ, suc, ◌<◌, ◌≤◌, ◌^◌, List, Option, Some, None, length, slice_get, slice_index_or}
use Rattle.report_judge.specs.Terms.{ConfigurationSpace, Goal, IsBounded, IsLawfulRecord, Judged, Knot, Listed, MOST_MARKS, OwnHistory, Point, Radii, Record}
use Rattle.report_judge.specs.Terms.{Scene, Seen, Setup, Task, TreeState, mark_at, node_count, setup_of, space_of, state_of_lists, turns_of}
use Rattle.report_judge.specs.Workers.SeenNodes.{AreSeen, AreTurnsOf, HaveOwnTurns, AreStandings}
use Rattle.report_judge.specs.Laws.FirstBreaks.{FitsEdges}
use Rattle.report_judge.specs.Workers.OwnNodes.{AreNodesBefore, ArePresent, FitFirstCosts}

-- the tree of the nodes and the records
abbrev pub run_of : Judged → TreeState
run_of judged = state_of_lists judged.knots.now judged.records.now

-- the planning problem of the task
abbrev pub setup_by : Judged → Setup
setup_by judged = setup_of judged.task.now.scene

-- The form and the presence of nodes are kept, and the nodes of this worker that stood before a turn are told apart.
pub record IsJudged (worker : ℕ) (judged : Judged) : Type 0 where
  pub numbers : length judged.knots.now ≡ suc (length judged.records.now)
  pub few : length judged.records.now ≤ MOST_MARKS
  pub fit : (n : ℕ) (other : Knot) → slice_index_or judged.knots.now n None ≡ Some other → FitsEdges other
  pub first : FitFirstCosts judged.records.now
  pub present : ArePresent (run_of judged)
  pub own : AreNodesBefore (run_of judged) worker judged.turns judged.own.now
  pub standings : AreStandings (run_of judged) worker judged.turns judged.standings.now
  pub count : judged.nodes ≡ node_count (run_of judged).points

-- they are the radii of the scene
abbrev pub AreRadiiOf : Scene → Radii → Type 0
AreRadiiOf scene radii = (radii.step ≡ scene.step) × (radii.gamma ≡ scene.gamma)

-- What each question about the record of a mark and a point asks for: the space and the radii are the scene's, the lists are those by which
-- marks of the record's worker are judged, whose nodes are those before a turn after the record's or that one; its first cost has at most 44
-- bits, and the point is within bounds.
pub record IsAsked (space : ConfigurationSpace) (judged : Judged) (entry : Record) (p : Point) : Type 0 where
  pub space_is : space ≡ space_of judged.task.now.scene
  pub radii_are : AreRadiiOf judged.task.now.scene judged.radii.now
  pub judges : IsJudged entry.worker judged
  pub turn : entry.turn ≤ judged.turns
  pub own : entry.first_cost < 2 ^ 44
  pub bounded : IsBounded p

-- What is kept of a worker with so many turns: its marks by turn, what it has seen before each turn, and the standings of its nodes.
pub record IsOwnHistory (goals : List Goal) (knots : List (Option Knot)) (records : List Record) (worker turns : ℕ) (own : OwnHistory) : Type 0 where
  pub worker_is : own.turns.worker ≡ worker
  pub long : length own.turns.marks.items ≡ turns
  pub marks : AreTurnsOf records own.turns
  pub seen_long : length own.seen.items ≡ turns
  pub seen : (turn : ℕ) (seen : Seen) → slice_get own.seen.items turn ≡ Some seen → AreSeen goals (state_of_lists knots records) worker turn seen
  pub standings : AreStandings (state_of_lists knots records) worker turns own.standings.items

-- the turn of each mark is below the number of its worker's marks
abbrev pub HaveLowTurns : List Record → Type 0
HaveLowTurns records = (k : ℕ) (entry : Record) → slice_get records k ≡ Some entry
    → entry.turn < turns_of (slice_get records) (length records) entry.worker

-- The nodes and the records keep the form and the laws of turns and of presence; they are counted, and the radii are the scene's.
pub record AreListed (listed : Listed) : Type 0 where
  pub numbers : length listed.knots.now ≡ suc (length listed.records.now)
  pub few : length listed.records.now ≤ MOST_MARKS
  pub marks : length listed.records.now ≡ length listed.task.now.marks
  pub fit : (n : ℕ) (other : Knot) → slice_index_or listed.knots.now n None ≡ Some other → FitsEdges other
  pub first : FitFirstCosts listed.records.now
  pub present : ArePresent (state_of_lists listed.knots.now listed.records.now)
  pub own : HaveOwnTurns listed.records.now
  pub low : HaveLowTurns listed.records.now
  pub count : listed.nodes ≡ node_count (state_of_lists listed.knots.now listed.records.now).points
  pub radii : AreRadiiOf listed.task.now.scene listed.radii.now

-- ---- the law of records, mark by mark
-- mark k keeps the law of records
abbrev pub KeepsRecord : Task → List (Option Knot) → List Record → ℕ → Type 0
KeepsRecord task knots records k = (entry : Record) → slice_get records k ≡ Some entry
    → IsLawfulRecord (setup_of task.scene) (state_of_lists knots records) k (mark_at task.marks k) entry

-- the same of the marks of a worker alone
abbrev pub KeepsRecordOf : ℕ → Task → List (Option Knot) → List Record → ℕ → Type 0
KeepsRecordOf worker task knots records k = (entry : Record) → slice_get records k ≡ Some entry → entry.worker ≡ worker
    → IsLawfulRecord (setup_of task.scene) (state_of_lists knots records) k (mark_at task.marks k) entry

-- of those in its turns from one up to another, and without that
abbrev pub KeepsRecordBetween : ℕ → ℕ → ℕ → Task → List (Option Knot) → List Record → ℕ → Type 0
KeepsRecordBetween worker from to task knots records k = (entry : Record) → slice_get records k ≡ Some entry → entry.worker ≡ worker
    → from ≤ entry.turn → entry.turn < to → IsLawfulRecord (setup_of task.scene) (state_of_lists knots records) k (mark_at task.marks k) entry

-- and of the marks of the workers below a number
abbrev pub KeepsRecordBelow : ℕ → Task → List (Option Knot) → List Record → ℕ → Type 0
KeepsRecordBelow workers task knots records k = (entry : Record) → slice_get records k ≡ Some entry → entry.worker < workers
    → IsLawfulRecord (setup_of task.scene) (state_of_lists knots records) k (mark_at task.marks k) entry
