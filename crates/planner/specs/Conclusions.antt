-- What the program may answer: a success with its text, or a refusal with its cause and its line.
use Rattle.std.specs.Prelude.{◌≡◌, ℕ, ◌<◌, ◌⊎◌, Bool, true, false, IsTrue, MatchBool, List, [], ◌∷◌, length, get_or, Option, Some, None, is_some, IsSome}
use Rattle.planner.specs.Terms.{Answer, AreBetterPaths, Better, ClearAt, Command, DONE, Done, Grown, IfErr, IfOk, IsClosed, IsConverted, IsCutAtReport}
use Rattle.planner.specs.Terms.{IsOfTextbookRun, IsSettled, IsSmoothedReport, IsSomeAnd, IsTwin, IsVerdict, IsWholeRun, NO_PATH, ReadsWithin, Record, Refusal}
use Rattle.planner.specs.Terms.{Result, Scene, SourceState, Task, TreeState, Twin, Verdict, batch_report, best_node, better_report, canonical_text, goals_of}
use Rattle.planner.specs.Terms.{has_path, list_all, mark_points, report_text, setup_of, space_of, state_of_grown, summary, twin_text}
use Rattle.planner.specs.declared.commands.Command.TheVariants as commands
use Rattle.planner.specs.declared.refusals.Refusal.TheVariants as refusals
use Rattle.planner.specs.Commands.{input_of, plans, reads_text, tests_goal, tests_start}
use Rattle.planner.specs.Inputs.{AreGoalsClear, AreStartsClear, IsBatchOf, IsTextBeforeReport, IsTextOf, RefusesInput, SpellsInput, IsReadWhole, IsUnread}
use Rattle.planner.specs.Inputs.{IsReadFault, IsTooLong, NoReadFailed}
use Rattle.planner.specs.Refusals.{status_of_verdict, verdict_line, status_of, line_of}
use Rattle.planner.specs.GeneratedScenes.{IsGenerated}

-- nothing is handed out beside the status
pub record HandsOutNothing (done : Done) : Type 0 where
  pub no_run : done.run ≡ None
  pub no_twin : done.twin ≡ None
  pub no_batch : done.batch ≡ []
  pub no_better : done.better ≡ []

-- nothing is handed out beside the status and the run
abbrev pub HandsOutRunAlone : Done → Type 0
HandsOutRunAlone done = HandsOutNothing (record done { run = None })

-- the status of a planned run: whether there is a path
abbrev pub status_of_report : Bool → ℕ
status_of_report true = DONE
status_of_report false = NO_PATH

-- of a scene, and of the tree and the records of its run over so many marks, which texts are a report
abbrev pub Report : Type 1
Report = Scene → ℕ → TreeState → List ℕ → Type 0

-- the text is the report, in full or in short
abbrev pub IsReport : Bool → Report
IsReport full scene limit state text = text ≡ report_text full scene limit state

-- the text is the summary
abbrev pub IsSummary : Report
IsSummary scene limit state text = text ≡ summary scene limit state

-- the text has a line for each of the better paths and then the short report
abbrev pub IsBetterReport : List Better → Report
IsBetterReport items scene limit state text = text ≡ better_report items scene limit state

-- The run is of the scene, and of all its marks: it is closed at their number and settled. It is in what is done, the status
-- says whether some node of it lies in a goal, and the text is such a report of it.
pub record ReportsGrown (report : Report) (scene : Scene) (grown : Grown) (done : Done) (text : List ℕ) : Type 0 where
  pub given : done.run ≡ Some grown
  pub of_scene : grown.task.scene ≡ scene
  pub all_marks : grown.limit ≡ length (mark_points scene)
  pub closed : IsClosed (setup_of scene) (mark_points scene) (length (mark_points scene)) (state_of_grown grown)
  pub settled : IsSettled (state_of_grown grown)
  pub best : done.status ≡ status_of_report (is_some (best_node (goals_of scene) grown.limit (state_of_grown grown)))
  pub written : report scene grown.limit (state_of_grown grown) text

-- There is a run that is such a one and the textbook run of the scene. It alone is handed out.
pub record ReportsScene (report : Report) (scene : Scene) (done : Done) (text : List ℕ) : Type 0 where
  pub grown : Grown
  pub reported : ReportsGrown report scene grown done text
  pub textbook : IsOfTextbookRun (setup_of scene) (mark_points scene) (state_of_grown grown)
  pub alone : HandsOutRunAlone done

-- The text is such a report of a run of the scene, which alone is handed out. Its marks were handled by so many workers at most, numbered
-- from 0. By one worker it is the textbook run of the scene.
pub record ReportsPlan (workers : ℕ) (report : Report) (scene : Scene) (done : Done) (text : List ℕ) : Type 0 where
  pub grown : Grown
  pub reported : ReportsGrown report scene grown done text
  pub by_workers : (k : ℕ) (entry : Record) → (state_of_grown grown).record_of k ≡ Some entry → entry.worker < workers
  pub textbook : workers ≡ 1 → IsOfTextbookRun (setup_of scene) (mark_points scene) (state_of_grown grown)
  pub alone : HandsOutRunAlone done

-- The text is such a report of a run of the scene with its better paths. The run is handed out, and a list for it, which has these paths.
-- Its marks were handled by so many workers at most, so many at a time. By one worker it is the textbook run of the scene.
pub record ReportsBetterPaths (workers slice : ℕ) (scene : Scene) (done : Done) (text : List ℕ) : Type 0 where
  pub grown : Grown
  pub items : List Better
  pub reported : ReportsGrown (IsBetterReport items) scene grown done text
  pub by_workers : (k : ℕ) (entry : Record) → (state_of_grown grown).record_of k ≡ Some entry → entry.worker < workers
  pub textbook : workers ≡ 1 → IsOfTextbookRun (setup_of scene) (mark_points scene) (state_of_grown grown)
  pub given : done.better ≡ items ∷ []
  pub better : AreBetterPaths workers slice grown items
  pub alone : HandsOutNothing (record done { run = None; better = [] })

-- Two runs of the scene from both of its ends, by so many workers at most, are handed out, with the bridge between them, and nothing else
-- is. The status says whether there is one, and the text is their report.
pub record ReportsTwin (workers : ℕ) (scene : Scene) (done : Done) (text : List ℕ) : Type 0 where
  pub both : Twin
  pub given : done.twin ≡ Some both
  pub twin : IsTwin workers scene both
  pub bridge : done.status ≡ status_of_report (is_some both.bridge)
  pub written : text ≡ twin_text both
  pub alone : HandsOutNothing (record done { twin = None })

-- a whole run of the scene by so many workers at most, so many marks at a time, and its better paths
pub record IsRunBySlices (workers slice : ℕ) (scene : Scene) (grown : Grown) (items : List Better) : Type 0 where
  pub whole : IsWholeRun workers scene grown
  pub better : AreBetterPaths workers slice grown items

-- A run of each of the scenes is handed out, and a list of its better paths, in the order of the scenes, and the text reports them in that
-- order. The status says whether each run has a node in a goal.
pub record ReportsBatch (workers slice : ℕ) (scenes : List Scene) (done : Done) (text : List ℕ) : Type 0 where
  pub runs : length done.batch ≡ length scenes
  pub lists : length done.better ≡ length scenes
  pub each : (i : ℕ) (scene : Scene) (grown : Grown) → i < length scenes
      → IsRunBySlices workers slice (get_or scenes i scene) (get_or done.batch i grown) (get_or done.better i [])
  pub best : done.status ≡ status_of_report (list_all has_path done.batch)
  pub written : text ≡ batch_report 0 done.better done.batch
  pub alone : HandsOutNothing (record done { batch = []; better = [] })

-- The text is the line of the verdict on what stands after the line `report`, as a report of the scene before it, and the status is that of the verdict.
pub record WritesVerdict (bytes : List ℕ) (scene : Scene) (done : Done) (text : List ℕ) : Type 0 where
  pub front : List ℕ
  pub report : List ℕ
  pub cut : IsCutAtReport bytes front report
  pub task : Task
  pub of_scene : task.scene ≡ scene
  pub verdict : Verdict
  pub judged : IsVerdict task report verdict
  pub status : done.status ≡ status_of_verdict verdict
  pub written : text ≡ verdict_line verdict
  pub nothing : HandsOutNothing done

-- the text is the canonical text of the scene
pub record WritesScene (scene : Scene) (done : Done) (text : List ℕ) : Type 0 where
  pub written : text ≡ canonical_text scene
  pub status : done.status ≡ DONE
  pub nothing : HandsOutNothing done

-- the text is the canonical text of the scene in version 2
pub record WritesConverted (scene : Scene) (done : Done) (text : List ℕ) : Type 0 where
  pub converted : Scene
  pub of_scene : IsConverted scene converted
  pub written : WritesScene converted done text

-- the scene of a command: that which the bytes spell, or what stands before their line `report`, or the generated one of its number; a batch has no such one
abbrev pub IsSceneOf : Command → List ℕ → Scene → Type 0
IsSceneOf (commands.Plain full) bytes scene = IsTextOf scene bytes
IsSceneOf (commands.Plan workers full) bytes scene = IsTextOf scene bytes
IsSceneOf (commands.Smooth workers) bytes scene = IsTextOf scene bytes
IsSceneOf (commands.Anytime workers slice) bytes scene = IsTextOf scene bytes
IsSceneOf (commands.Twin workers) bytes scene = IsTextOf scene bytes
IsSceneOf (commands.Batch workers slice) bytes scene = ⊥
IsSceneOf commands.Check bytes scene = IsTextBeforeReport scene bytes
IsSceneOf commands.Show bytes scene = IsTextOf scene bytes
IsSceneOf commands.Convert bytes scene = IsTextOf scene bytes
IsSceneOf (commands.Gen number) bytes scene = IsGenerated number scene
IsSceneOf (commands.Trial number) bytes scene = IsGenerated number scene

-- there is a scene of the command of which something is said, and its start is clear if the command plans it
pub record OfScene (command : Command) (bytes : List ℕ) (P : Scene → Type 0) : Type 0 where
  pub scene : Scene
  pub of_command : IsSceneOf command bytes scene
  pub start : IsTrue (plans command) → ClearAt (space_of scene) scene.start
  pub meaning : P scene

-- the bytes spell scenes whose starts are clear, of which something is said
pub record OfBatch (bytes : List ℕ) (P : List Scene → Type 0) : Type 0 where
  pub scenes : List Scene
  pub spelled : IsBatchOf scenes bytes
  pub starts : AreStartsClear scenes
  pub meaning : P scenes

-- what the success of a command means: of the bytes that it read, of what was done, and of the text
abbrev pub Succeeds : Command → List ℕ → Done → List ℕ → Type 0
Succeeds (commands.Plain full) bytes done text = OfScene (commands.Plain full) bytes (λ scene. ReportsScene (IsReport full) scene done text)
Succeeds (commands.Plan workers full) bytes done text =
    OfScene (commands.Plan workers full) bytes (λ scene. ReportsPlan workers (IsReport full) scene done text)
Succeeds (commands.Smooth workers) bytes done text =
    OfScene (commands.Smooth workers) bytes (λ scene. ReportsPlan workers IsSmoothedReport scene done text)
Succeeds (commands.Anytime workers slice) bytes done text =
    OfScene (commands.Anytime workers slice) bytes (λ scene. ReportsBetterPaths workers slice scene done text)
Succeeds (commands.Twin workers) bytes done text = OfScene (commands.Twin workers) bytes (λ scene. ReportsTwin workers scene done text)
Succeeds (commands.Batch workers slice) bytes done text = OfBatch bytes (λ scenes. ReportsBatch workers slice scenes done text)
Succeeds commands.Check bytes done text = OfScene commands.Check bytes (λ scene. WritesVerdict bytes scene done text)
Succeeds commands.Show bytes done text = OfScene commands.Show bytes (λ scene. WritesScene scene done text)
Succeeds commands.Convert bytes done text = OfScene commands.Convert bytes (λ scene. WritesConverted scene done text)
Succeeds (commands.Gen number) bytes done text = OfScene (commands.Gen number) bytes (λ scene. WritesScene scene done text)
Succeeds (commands.Trial number) bytes done text = OfScene (commands.Trial number) bytes (λ scene. ReportsScene IsSummary scene done text)

-- what a command that succeeds has read: a whole text, or nothing
abbrev pub HasRead : Command → SourceState → SourceState → List ℕ → Type 0
HasRead command before now bytes = MatchBool (reads_text command) (IsReadWhole before now bytes) (IsUnread before now)

-- the words ask for a command, and it succeeds
pub record IsSuccess (asked : Option Command) (before now : SourceState) (done : Done) (text : List ℕ) : Type 0 where
  pub command : Command
  pub known : asked ≡ Some command
  pub bytes : List ℕ
  pub read : HasRead command before now bytes
  pub meaning : Succeeds command bytes done text

-- the bytes that the command reads spell scenes whose starts are not all clear
pub record BlocksStart (command : Command) (bytes : List ℕ) : Type 0 where
  pub scenes : List Scene
  pub spelled : SpellsInput (input_of command) bytes scenes
  pub blocked : ¬ AreStartsClear scenes

-- the bytes that the command reads spell scenes whose starts are clear, and whose first goals are not all clear in their middles
pub record BlocksGoal (command : Command) (bytes : List ℕ) : Type 0 where
  pub scenes : List Scene
  pub spelled : SpellsInput (input_of command) bytes scenes
  pub starts : AreStartsClear scenes
  pub blocked : ¬ AreGoalsClear scenes

-- the words ask for a command that stands in a table
abbrev pub Asks : (Command → Bool) → Option Command → Type 0
Asks table asked = IsSomeAnd asked (λ command. IsTrue (table command))

-- the source was read to its end, and what came has a property
abbrev pub ReadsSuch : SourceState → SourceState → (List ℕ → Type 0) → Type 0
ReadsSuch before now P = (bytes : List ℕ) × IsReadWhole before now bytes × P bytes

-- the words ask for a command, and the source was read to its end, and what came has a property by the command
abbrev pub AskedReads : Option Command → SourceState → SourceState → (Command → List ℕ → Type 0) → Type 0
AskedReads asked before now P = IsSomeAnd asked (λ command. ReadsSuch before now (P command))

-- why each refusal comes; that the program is out of memory is free
abbrev pub IsCaused : Option Command → SourceState → SourceState → Refusal → Type 0
IsCaused asked before now refusals.Words = (asked ≡ None) × IsUnread before now
IsCaused asked before now refusals.TooLong = Asks reads_text asked × IsTooLong before now
IsCaused asked before now (refusals.Text number kind) =
    Asks reads_text asked × AskedReads asked before now (λ command. RefusesInput (input_of command) number kind)
IsCaused asked before now refusals.StartBlocked = Asks tests_start asked × AskedReads asked before now BlocksStart
IsCaused asked before now refusals.GoalBlocked = Asks tests_goal asked × AskedReads asked before now BlocksGoal
IsCaused asked before now refusals.ReadFault = Asks reads_text asked × IsReadFault before now
IsCaused asked before now refusals.Memory = IsSome asked × NoReadFailed before now

-- the start of each scene is clear, if the command tests it
abbrev pub MayStart : Command → List Scene → Type 0
MayStart command scenes = IsTrue (tests_start command) → AreStartsClear scenes

-- the middle of the first goal of each scene is clear, if the command tests it
abbrev pub MayReach : Command → List Scene → Type 0
MayReach command scenes = IsTrue (tests_goal command) → AreGoalsClear scenes

-- the source was read to its end, and what came is a text of the scenes
pub record HasBatch (before now : SourceState) (scenes : List Scene) : Type 0 where
  pub bytes : List ℕ
  pub read : IsReadWhole before now bytes
  pub spelled : IsBatchOf scenes bytes

-- the source was read to its end, and what came is a text of the scene
pub record HasScene (before now : SourceState) (scene : Scene) : Type 0 where
  pub bytes : List ℕ
  pub read : IsReadWhole before now bytes
  pub spelled : IsTextOf scene bytes

-- a refusal with its cause, its status and its line; there is no run
pub record IsRefusal (asked : Option Command) (before now : SourceState) (done : Done) (text : List ℕ) : Type 0 where
  pub refusal : Refusal
  pub cause : IsCaused asked before now refusal
  pub status : done.status ≡ status_of refusal
  pub nothing : HandsOutNothing done
  pub written : text ≡ line_of refusal

-- The answer of the program, before it is written: to the words, from the source before and after it was read, what is done,
-- and the text that is to be written.
abbrev pub IsAnswer : Option Command → SourceState → SourceState → Done → List ℕ → Type 0
IsAnswer asked before now done text = IsSuccess asked before now done text ⊎ IsRefusal asked before now done text

-- What is answered to the words, as the program hands it down. Unless they ask for a command that reads a text, nothing is read,
-- and never more than one byte past the limit of a text is.
pub record Answers (asked : Option Command) (before now : SourceState) (result : Result Answer Refusal) : Type 0 where
  pub success : IfOk result (λ answer. IsSuccess asked before now answer.done answer.text.items)
  pub refusal : IfErr result (IsCaused asked before now)
  pub unread : (¬ Asks reads_text asked) → IsUnread before now
  pub within : ReadsWithin before.bytes_left now.bytes_left
