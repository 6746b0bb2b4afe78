-- How a whole call ends: what it has read, what it hands out, and what is written.
use Rattle.std.specs.Prelude.{◌≡◌, ◌<◌, ℕ, List, get_or, ◌≤◌, Option, Some, length, IsTrue, MatchBool, ◌≢◌, ◌⊎◌, None, IfSome, true, [], ◌∷◌, codes}
use Rattle.std.specs.Prelude.{option_map}
use Rattle.planner.specs.Terms.{ClearAt, Command, DONE, Done, GOAL_BLOCKED, IsFresh, Kind, MOST_GENERATED, MOST_TEXT_BYTES, NO_MEMORY, NO_PATH, READ_FAULT}
use Rattle.planner.specs.Terms.{ReadsWithin, START_BLOCKED, Scene, SessionState, SinkState, SourceState, TEXT_REFUSED, Task, WORDS_REFUSED, WRITE_FAULT}
use Rattle.planner.specs.Terms.{MOST_SCENES, MOST_SESSIONS, space_of}
use Rattle.planner.specs.Commands.{input_of, reads_text, tests_goal, tests_start, greatest_success, command_of, plans}
use Rattle.planner.specs.Conclusions.{MayReach, MayStart, IsAnswer, Asks}
use Rattle.planner.specs.Inputs.{AreGoalsClear, AreStartsClear, RefusesInput, SpellsInput, ReadFailed, WriteFailed, IsUnread, IsWrittenWhole, IsCutShort}

-- ---- Sessions of the scenes of a batch.
-- a session of the scene, whose start is clear, that has handled nothing
pub record IsSessionOf (workers slice : ℕ) (scene : Scene) (s : SessionState) : Type 0 where
  pub start : ClearAt (space_of scene) scene.start
  pub task : Task
  pub of_scene : task.scene ≡ scene
  pub fresh : IsFresh task workers slice s

-- those of the first of the scenes, so many
abbrev pub HaveSessions : ℕ → ℕ → List Scene → List SessionState → ℕ → Type 0
HaveSessions workers slice scenes sessions n =
    (i : ℕ) (scene : Scene) (s : SessionState) → i < n → IsSessionOf workers slice (get_or scenes i scene) (get_or sessions i s)

-- ---- Which status the bytes of the source decide, if no read and no write fails.
-- the status of a command that reads a text, by the bytes of the source
pub record IsDecidedBy (bytes : List ℕ) (command : Command) (status : ℕ) : Type 0 where
  pub done : (scenes : List Scene) → SpellsInput (input_of command) bytes scenes → MayStart command scenes → MayReach command scenes
      → status ≤ greatest_success command
  pub blocked : (scenes : List Scene) → SpellsInput (input_of command) bytes scenes → IsTrue (tests_start command) → (¬ AreStartsClear scenes)
      → status ≡ START_BLOCKED
  pub goal_blocked : (scenes : List Scene) → SpellsInput (input_of command) bytes scenes → IsTrue (tests_goal command) → AreStartsClear scenes
      → (¬ AreGoalsClear scenes) → status ≡ GOAL_BLOCKED
  pub refused : (number : ℕ) (kind : Kind) → RefusesInput (input_of command) number kind bytes → status ≡ TEXT_REFUSED
  pub long : MOST_TEXT_BYTES < length bytes → status ≡ TEXT_REFUSED

-- The status of a command: by the bytes of the source, if they are known; a command that reads nothing succeeds.
abbrev pub IsDecided : Option (List ℕ) → Command → ℕ → Type 0
IsDecided left command status =
    MatchBool (reads_text command) ((bytes : List ℕ) → left ≡ Some bytes → IsDecidedBy bytes command status) (status ≤ greatest_success command)

-- ---- endings
-- A call has done what the words ask for, over a source and a sink that are known before it and after it.
pub record HasConcluded (asked : Option Command) (before now : SourceState) (sink_before sink_now : SinkState) (result : Done) : Type 0 where
  -- a success by the command, or a refusal by its cause; the whole text is written
  pub done : result.status ≢ WRITE_FAULT → (text : List ℕ) × IsAnswer asked before now result text × IsWrittenWhole sink_before sink_now text
  -- the sink failed, and took a proper prefix of the text of such an answer
  pub cut : result.status ≡ WRITE_FAULT → (status : ℕ) × (text : List ℕ) × IsAnswer asked before now (record result { status = status }) text
      × IsCutShort sink_before sink_now text
  -- if no count of faults rose, the bytes decide the status, or the program is out of memory
  pub decided : (¬ ReadFailed before now) → (¬ WriteFailed sink_before sink_now)
      → (result.status ≡ NO_MEMORY) ⊎ IfSome asked (λ command. IsDecided before.bytes_left command result.status)
  -- words that ask for no command are refused
  pub words : asked ≡ None → (result.status ≡ WORDS_REFUSED) ⊎ (result.status ≡ WRITE_FAULT)
  -- unless the words ask for a command that reads a text, nothing is read
  pub unread : (¬ Asks reads_text asked) → IsUnread before now
  -- never more than one byte past the limit of a text is read
  pub within : ReadsWithin before.bytes_left now.bytes_left

-- ---- The statuses, the number of the last generated scene, and how many scenes a batch may have, as numbers that a caller knows.
-- each constant with its value, so that it cannot change without its value here
pub record FixedNumbers : Type 0 where
  pub done : DONE ≡ 0
  pub no_path : NO_PATH ≡ 1
  pub words_refused : WORDS_REFUSED ≡ 2
  pub text_refused : TEXT_REFUSED ≡ 3
  pub start_blocked : START_BLOCKED ≡ 4
  pub read_fault : READ_FAULT ≡ 5
  pub write_fault : WRITE_FAULT ≡ 6
  pub no_memory : NO_MEMORY ≡ 7
  pub goal_blocked : GOAL_BLOCKED ≡ 8
  pub most_generated : MOST_GENERATED ≡ 9999
  pub most_scenes : MOST_SCENES ≡ 64
  pub most_sessions : MOST_SESSIONS ≡ 64

-- ---- Worked values of which statuses words come to.
pub record WorkedStatuses : Type 0 where
  -- words that write a scene succeed with 0 alone
  pub show : option_map greatest_success (command_of (codes "show" ∷ [])) ≡ Some 0
  pub convert : option_map greatest_success (command_of (codes "convert" ∷ [])) ≡ Some 0
  pub gen : option_map greatest_success (command_of (codes "gen" ∷ codes "7" ∷ [])) ≡ Some 0
  -- a trial plans its scene
  pub trial : option_map plans (command_of (codes "trial" ∷ codes "7" ∷ [])) ≡ Some true
  -- one byte more than a text may have is refused by whatever reads it
  pub long : (bytes : List ℕ) (command : Command) (status : ℕ) → length bytes ≡ 16777217 → IsDecidedBy bytes command status → status ≡ 3
