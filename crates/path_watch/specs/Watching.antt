-- What comes of a session that is watched: which items it gave, what the sink took, and how both ended.
use Rattle.std.specs.Prelude.{ℕ, Bool, true, false, List, [], ◌∷◌, ◌++◌, ◌≡◌, zero, suc, ◌≤◌, Option, Some, None, Result, Ok, IsSomeAnd, ◌⊎◌, map, IfSome}
use Rattle.std.specs.Prelude.{length}
use Rattle.path_watch.specs.Terms.{Answers, Better, ClearAt, Ending, FoldsTo, Grown, HasGiven, HasScene, IsCaused, IsCutShort, IsDecided, IsRunBySlices}
use Rattle.path_watch.specs.Terms.{IsSessionOf, IsUnread, IsWrittenWhole, Memory, NO_MEMORY, Orders, Pending, Polls, ReadFailed, ReadsWithin, Ready, Refusal}
use Rattle.path_watch.specs.Terms.{Scene, SessionState, SinkState, SourceState, Step, Task, WRITE_FAULT, WriteFailed, better_line, counts_line, has_path}
use Rattle.path_watch.specs.Terms.{line_of, mark_points, no_path_line, path_line, point_lines, space_of, state_of_grown, status_of, status_of_report}
use Rattle.path_watch.specs.WatchWords.{as_plan, slice_by}
use Rattle.path_watch.specs.declared.handing.Step.TheVariants as steps
use Rattle.any_time.specs.Sessions as best
use Rattle.planner.specs.declared.refusals.Refusal.TheVariants as refusals
use Rattle.path_watch.specs.declared.watching.Ending.TheVariants as endings

-- ---- What is written while a session is watched: a block for each better path, and the end.
-- what it costs and after how many marks it came, the path with its points, and an empty line
abbrev pub block : Better → List ℕ
block item = ((better_line item ++ path_line item.path item.cost) ++ point_lines item.path) ++ 10 ∷ []

-- the line of a run without a path
abbrev pub line_unless : Bool → List ℕ
line_unless true = []
line_unless false = no_path_line

-- that there is no path, if there is none, and the counts of the run
abbrev pub end_text : Grown → List ℕ
end_text run = line_unless (has_path run) ++ counts_line run.task.scene run.limit (state_of_grown run)

-- ---- What a session does until its next item, and how the item's block is handed to a sink.
-- the answers of so many polls that gave nothing
abbrev pub pendings : ℕ → Answers
pendings zero = []
pendings (suc n) = Pending ∷ pendings n

-- polls of s gave nothing, so many, and then one gave this item or the end, and left t
pub record Comes (s : SessionState) (item : Option (Result Better Memory)) (t : SessionState) : Type 0 where
  pub count : ℕ
  pub between : SessionState
  pub waits : FoldsTo Polls s (pendings count) between
  pub gives : Polls between (Ready item) t

-- the sink took the whole text, and its count of faults did not fall
abbrev pub Takes : SinkState → List ℕ → SinkState → Type 0
Takes before text now = IsWrittenWhole before now text × (before.fault_count ≤ now.fault_count)

-- the sink took a proper prefix of the text, since a write failed
abbrev pub Cuts : SinkState → List ℕ → SinkState → Type 0
Cuts before text now = IsCutShort before now text × (before.fault_count ≤ now.fault_count)

-- what the session gave in a step
abbrev pub given_in : Step → Option (Result Better Memory)
given_in (steps.Given item) = Some (Ok item)
given_in (steps.Cut item) = Some (Ok item)
given_in steps.Over = None

-- the session's run has handled as many marks as the item that it gave says
abbrev pub StandsAt : Step → SessionState → Type 0
StandsAt (steps.Given item) t = IsSomeAnd t.run (λ run. run.limit ≡ item.marks)
StandsAt (steps.Cut item) t = IsSomeAnd t.run (λ run. run.limit ≡ item.marks)
StandsAt steps.Over t = Unit {0}

-- the sink took the block of the item, or a proper prefix of it, and at the end it is as it was
abbrev pub TakesBlock : SinkState → Step → SinkState → Type 0
TakesBlock before (steps.Given item) now = Takes before (block item) now
TakesBlock before (steps.Cut item) now = Cuts before (block item) now
TakesBlock before steps.Over now = now ≡ before

-- a step took the session and the sink from the first pair to the second
pub record Steps (before : SessionState × SinkState) (step : Step) (now : SessionState × SinkState) : Type 0 where
  pub comes : Comes before.0 (given_in step) now.0
  pub stands : StandsAt step now.0
  pub taken : TakesBlock before.1 step now.1

-- the session came to this item, and the sink took its block
abbrev pub Hands : SessionState × SinkState → Better → SessionState × SinkState → Type 0
Hands before item now = Steps before (steps.Given item) now

-- ---- watching
-- ---- the last text
-- the line of the refusal was handed to the sink, which took it or cut it
abbrev pub Refuses : SinkState → SinkState → Refusal → Ending → Type 0
Refuses before now refusal (endings.Refused it) = (it ≡ refusal) × Takes before (line_of it) now
Refuses before now refusal (endings.CutRefusal it) = (it ≡ refusal) × Cuts before (line_of it) now
Refuses before now refusal ending = ⊥

-- the end was handed to the sink, which took it or cut it; or the line that memory was out
abbrev pub HandsEnd : SinkState → SinkState → Grown → Ending → Type 0
HandsEnd before now run (endings.Ended it has_path) = (it ≡ run) × (has_path ≡ best.has_path it) × Takes before (end_text it) now
HandsEnd before now run (endings.Cut it) = (it ≡ run) × Cuts before (end_text it) now
HandsEnd before now run (endings.Refused it) = Refuses before now refusals.Memory (endings.Refused it)
HandsEnd before now run (endings.CutRefusal it) = Refuses before now refusals.Memory (endings.CutRefusal it)

-- ---- the session
-- the sink took the blocks of the items in their order, each whole, and nothing else
abbrev pub TakesBlocks : SinkState → List Better → SinkState → Type 0
TakesBlocks before items now = FoldsTo Takes before (map block items) now

-- a session of the scene, by so many workers and so many marks at a time, has given these items, and is at this run
abbrev pub IsAfter : ℕ → ℕ → Scene → List Better → Grown → Type 0
IsAfter workers slice scene items run = (task : Task) × (task.scene ≡ scene) × HasGiven task workers slice items (Some run)

-- The text is the block of the item after these, at whose run the session is, or the end after all of them.
abbrev pub IsTextAfter : ℕ → ℕ → Scene → List Better → Grown → List ℕ → Type 0
IsTextAfter workers slice scene items run text =
    ((item : Better) × (text ≡ block item) × (run.limit ≡ item.marks) × IsAfter workers slice scene (items ++ item ∷ []) run)
    ⊎ ((text ≡ end_text run) × IsRunBySlices workers slice scene run items)

-- What came after the blocks of these items: the end; or the text in which the sink was cut, with the run that it is of; or, since memory
-- was out, the line that says so.
abbrev pub EndsAfter : ℕ → ℕ → Scene → List Better → SinkState → SinkState → Ending → Type 0
EndsAfter workers slice scene items before now (endings.Ended run has_path) =
    IsRunBySlices workers slice scene run items × (has_path ≡ best.has_path run) × Takes before (end_text run) now
EndsAfter workers slice scene items before now (endings.Cut run) =
    (text : List ℕ) × IsTextAfter workers slice scene items run text × Cuts before text now
EndsAfter workers slice scene items before now (endings.Refused refusal) =
    ((run : Grown) × IsAfter workers slice scene items run) × Refuses before now refusals.Memory (endings.Refused refusal)
EndsAfter workers slice scene items before now (endings.CutRefusal refusal) =
    ((run : Grown) × IsAfter workers slice scene items run) × Refuses before now refusals.Memory (endings.CutRefusal refusal)

-- A session of the scene was watched: the sink took the blocks of its items in their order, and then this came.
pub record Watches (workers slice : ℕ) (scene : Scene) (before now : SinkState) (ending : Ending) : Type 0 where
  pub items : List Better
  pub then : SinkState
  pub blocks : TakesBlocks before items then
  pub ends : EndsAfter workers slice scene items then now ending

-- ---- What a whole call has done: what it has read, what it watched, what is written, and the status.
-- the status that the program ends with
abbrev pub status_of_ending : Ending → ℕ
status_of_ending (endings.Ended run has_path) = status_of_report has_path
status_of_ending (endings.Cut run) = WRITE_FAULT
status_of_ending (endings.Refused refusal) = status_of refusal
status_of_ending (endings.CutRefusal refusal) = WRITE_FAULT

-- the session of the scene that was read, whose start is clear, as the orders say; it has handled nothing yet
pub record IsAskedSession (orders : Orders) (before now : SourceState) (session : SessionState) : Type 0 where
  pub scene : Scene
  pub read : HasScene before now scene
  pub fresh : IsSessionOf orders.workers (slice_by orders.slice (length (mark_points scene))) scene session

-- the words ask to watch, and a session of the scene that was read, whose start is clear, was watched as they say
pub record WatchesScene (asked : Option Orders) (before now : SourceState) (sink_before sink_now : SinkState) (ending : Ending) : Type 0 where
  pub orders : Orders
  pub asks : asked ≡ Some orders
  pub scene : Scene
  pub read : HasScene before now scene
  pub start : ClearAt (space_of scene) scene.start
  pub watched : Watches orders.workers (slice_by orders.slice (length (mark_points scene))) scene sink_before sink_now ending

-- no session was watched, and why: the line of the refusal was handed to the sink
abbrev pub IsRefused : Option Orders → SourceState → SourceState → SinkState → SinkState → Ending → Type 0
IsRefused asked before now sink_before sink_now ending =
    (refusal : Refusal) × IsCaused (as_plan asked) before now refusal × Refuses sink_before sink_now refusal ending

-- A call has done what the words ask for, over a source and a sink that are known before it and after it.
pub record HasWatched (asked : Option Orders) (before now : SourceState) (sink_before sink_now : SinkState) (ending : Ending) : Type 0 where
  pub done : IsRefused asked before now sink_before sink_now ending ⊎ WatchesScene asked before now sink_before sink_now ending
  -- if no count of faults rose, the bytes decide the status, or the program is out of memory
  pub decided : (¬ ReadFailed before now) → (¬ WriteFailed sink_before sink_now)
      → (status_of_ending ending ≡ NO_MEMORY) ⊎ IfSome (as_plan asked) (λ command. IsDecided before.bytes_left command (status_of_ending ending))
  -- unless the words ask to watch, nothing is read
  pub unread : asked ≡ None → IsUnread before now
  -- never more than one byte past the limit of a text is read
  pub within : ReadsWithin before.bytes_left now.bytes_left
