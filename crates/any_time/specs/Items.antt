-- What the items of a session are, however often it is polled.
use Rattle.std.specs.Prelude.{◌≡◌, ◌<◌, ◌≤◌, ◌*◌, ◌⊎◌, ℕ, List, [], ◌∷◌, All, Option, Some, None, Result, Ok, IfSome, filter, length, nat_le, option_map}
use Rattle.std.specs.Prelude.{Contains, IsSome, take}
use Rattle.any_time.specs.Terms.{Better, FoldsTo, Grown, GrowsInto, IsClosed, IsGoalNode, IsOfTextbook, IsOfTextbookRun, IsSettled, Last, Memory, Poll, Ready}
use Rattle.any_time.specs.Terms.{Record, Task, TreeState, best_node, goals_of, path_to, setup_of, state_of_grown, sum_in}
use Rattle.any_time.specs.Sessions.{Shows, best_sum, LeadsIntoGoal, Handles, IsFresh, IsNew, IsOver, Polls, SessionState}

-- the answers of polls, and the paths among them
abbrev pub Answers : Type 0
Answers = List (Poll (Option (Result Better Memory)))

abbrev pub betters_among : Answers → List Better
betters_among [] = []
betters_among (Ready (Some (Ok better)) ∷ answers) = better ∷ betters_among answers
betters_among (answer ∷ answers) = betters_among answers

-- what a session keeps of an item
abbrev pub last_of : Better → Last
last_of better = record { cost = better.cost; marks = better.marks }

-- after this item costs fall and marks rise, strictly
abbrev pub Fall : Option Last → List Better → Type 0
Fall last [] = Unit {0}
Fall last (better ∷ rest) = IfSome last (λ l. (better.cost < l.cost) × (l.marks < better.marks)) × Fall (Some (last_of better)) rest

-- the last of these, or else the one before them
abbrev pub last_among : Option Last → List Better → Option Last
last_among last [] = last
last_among last (better ∷ rest) = last_among (Some (last_of better)) rest

-- so many of all marks are a number of whole slices, or all
abbrev pub AreSlices : ℕ → ℕ → ℕ → Type 0
AreSlices slice all marks = (marks ≤ all) × (((k : ℕ) × (marks ≡ k * slice)) ⊎ (marks ≡ all))

-- Each mark of the run was handled by one of so many workers, numbered from 0.
abbrev pub IsByWorkers : ℕ → Grown → Type 0
IsByWorkers workers run = (k : ℕ) (entry : Record) → (state_of_grown run).record_of k ≡ Some entry → entry.worker < workers

-- The run is a settled one of the task, after a number of whole slices or all marks; by one worker it is the textbook's over these marks.
pub record IsRunOf (task : Task) (workers slice : ℕ) (run : Grown) : Type 0 where
  pub of_task : run.task ≡ task
  pub settled : IsSettled (state_of_grown run)
  pub slices : AreSlices slice (length task.marks) run.limit
  pub by_workers : IsByWorkers workers run
  pub textbook : workers ≡ 1 → IsOfTextbook run

-- The item is the best path of such a run, which has grown into the later one.
pub record IsFound (task : Task) (workers slice : ℕ) (later : Option Grown) (item : Better) : Type 0 where
  pub run : Grown
  pub run_is : IsRunOf task workers slice run
  pub shown : Shows run item
  pub grows : IfSome later (λ last. GrowsInto (state_of_grown run) (state_of_grown last))

-- some node that the first marks of the run have given, so many, lies in a goal
abbrev pub HaveGoalNode : Grown → ℕ → Type 0
HaveGoalNode run marks = (n : ℕ) × (n ≤ marks) × IsGoalNode (goals_of run.task.scene) (state_of_grown run).points n

-- The item came with the first path: after the fewest marks, of whole slices or all, that have given a goal node of the run.
pub record IsFirstPath (slice : ℕ) (run : Grown) (item : Better) : Type 0 where
  pub found : HaveGoalNode run item.marks
  pub none_earlier : (marks : ℕ) → AreSlices slice (length run.task.marks) marks → marks < item.marks → ¬ HaveGoalNode run marks

-- the first of the items, if there is one
abbrev pub IfFirst : List Better → (Better → Type 0) → Type 0
IfFirst [] P = Unit {0}
IfFirst (item ∷ items) P = P item

-- Costs of the items fall and marks rise; each is the best path of a run after a number of slices. If the session has its run still,
-- each is a path of it, and the first came with its first goal node.
pub record HasGiven (task : Task) (workers slice : ℕ) (items : List Better) (run : Option Grown) : Type 0 where
  pub falls : Fall None items
  pub found : All (IsFound task workers slice run) items
  pub lead : IfSome run (λ last. All (LeadsIntoGoal last) items)
  pub first : IfSome run (λ last. IfFirst items (IsFirstPath slice last))

-- All marks are recorded, and the run is settled and closed; by one worker it is the textbook's.
pub record EndsWith (task : Task) (workers : ℕ) (run : Grown) : Type 0 where
  pub of_task : run.task ≡ task
  pub all_marks : run.limit ≡ length task.marks
  pub closed : IsClosed (setup_of task.scene) task.marks (length task.marks) (state_of_grown run)
  pub settled : IsSettled (state_of_grown run)
  pub by_workers : IsByWorkers workers run
  pub textbook : workers ≡ 1 → IsOfTextbook run

-- each of the runs comes of the one before it by the next slice, from this one on, and the last is the end
abbrev pub GrowBySlices : ℕ → ℕ → Grown → List Grown → Grown → Type 0
GrowBySlices workers slice run [] end = run ≡ end
GrowBySlices workers slice run (next ∷ runs) end = Handles workers slice run next × GrowBySlices workers slice next runs end

-- those of the items that came after so many marks at most
abbrev pub up_to : ℕ → List Better → List Better
up_to marks items = filter (λ item. nat_le item.marks marks) items

-- what the last of the items cost, or else the one before them
abbrev pub last_cost : Option Last → List Better → Option ℕ
last_cost last items = option_map (λ (l : Last). l.cost) (last_among last items)

-- The run has come of the start alone slice by slice, and after each slice the best path cost what the last item by then does: there was
-- one exactly if there was an item. So no fall of that cost was left out, and the last item costs what the best path of the run does.
pub record MissesNoFall (task : Task) (workers slice : ℕ) (items : List Better) (run : Grown) : Type 0 where
  pub first : Grown
  pub new : IsNew task first
  pub runs : List Grown
  pub grow : GrowBySlices workers slice first runs run
  pub each : All (λ after. best_sum after ≡ last_cost None (up_to after.limit items)) (first ∷ runs)
  pub last : best_sum run ≡ last_cost None items

-- however often a session is polled, and if it is at its end and has its run
abbrev pub ItemsFall : Type 0
ItemsFall = (task : Task) (workers slice : ℕ) (s t : SessionState) (answers : Answers)
    → IsFresh task workers slice s → FoldsTo Polls s answers t → HasGiven task workers slice (betters_among answers) t.run
    × (IsOver t → IfSome t.run (λ run. EndsWith task workers run × MissesNoFall task workers slice (betters_among answers) run))

-- ---- The items of a session by one worker: the best paths of the textbook's runs.
-- The item is the best path of the textbook's run over the first marks of the task, as many as it says.
pub record IsTextbookPath (task : Task) (item : Better) : Type 0 where
  pub state : TreeState
  pub run : IsOfTextbookRun (setup_of task.scene) (take item.marks task.marks) state
  pub node : ℕ
  pub best : best_node (goals_of task.scene) item.marks state ≡ Some node
  pub path : item.path ≡ path_to state node
  pub cost : item.cost ≡ sum_in state node

-- It is so after a number of whole slices or all marks, and cheaper than the best path after any lesser such number.
pub record IsTextbookItem (task : Task) (slice : ℕ) (item : Better) : Type 0 where
  pub slices : AreSlices slice (length task.marks) item.marks
  pub best : IsTextbookPath task item
  pub cheaper : (other : Better) → AreSlices slice (length task.marks) other.marks → other.marks < item.marks → IsTextbookPath task other
      → item.cost < other.cost

-- these are all such items
pub record AreTextbookItems (task : Task) (slice : ℕ) (items : List Better) : Type 0 where
  pub each : All (IsTextbookItem task slice) items
  pub all : (item : Better) → IsTextbookItem task slice item → Contains items item

-- a session by one worker that is at its end, and has its run, has given just the items of the textbook's runs
abbrev pub GivesTextbookItems : Type 0
GivesTextbookItems = (task : Task) (slice : ℕ) (s t : SessionState) (answers : Answers) → IsFresh task 1 slice s → FoldsTo Polls s answers t
    → IsOver t → IsSome t.run → AreTextbookItems task slice (betters_among answers)
