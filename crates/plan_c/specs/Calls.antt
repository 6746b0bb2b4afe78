-- What a call answers to the bytes that it is given: what the program answers by one worker.
use Rattle.std.specs.Prelude.{◌≡◌, ℕ, ◌<◌, ◌≤◌, ◌++◌, List, length, ◌⊎◌, IfErr, IfOk, Result}
use Rattle.plan_c.specs.Terms.{Answer, Broken, ClearAt, Command, IsVerdict, Lawful, MOST_TEXT_BYTES, Refusal, RefusesSceneText}
use Rattle.plan_c.specs.Terms.{Spells, Succeeds, Task, Verdict, drop, number_of_kind, space_of, status_of, status_of_verdict, supported}
use Rattle.planner.specs.declared.refusals.Refusal.TheVariants as refusals

-- ---- What is written into the room of a caller.
-- The bytes of a text are counted. If there is room for them, they stand at its front, the rest of it is as it was, and the status is the
-- one that is given; otherwise all of it is as it was.
pub record HandsOut (text : List ℕ) (given : ℕ) (before after : List ℕ) (count status : ℕ) : Type 0 where
  pub counted : count ≡ length text
  pub written : length text ≤ length before → (status ≡ given) × (after ≡ text ++ drop (length text) before)
  pub no_room : length before < length text → (status ≡ 9) × (after ≡ before)

-- ---- calls
-- ---- causes
-- why the text of a scene is refused: it has too many bytes, or else as the program refuses it
abbrev pub RefusesText : List ℕ → Refusal → Type 0
RefusesText text refusal =
    ((MOST_TEXT_BYTES < length text) × (refusal ≡ refusals.TooLong)) ⊎ ((length text ≤ MOST_TEXT_BYTES) × RefusesSceneText text refusal)

-- why a report with the text of its scene is: it has too many bytes, or else as the text is refused
abbrev pub RefusesReport : List ℕ → List ℕ → Refusal → Type 0
RefusesReport text report refusal =
    ((4294967294 < length report) × (refusal ≡ refusals.TooLong)) ⊎ ((length report ≤ 4294967294) × RefusesText text refusal)

-- ---- answers
-- a success is one of the command, and a refusal has its cause
pub record AnswersText (command : Command) (text : List ℕ) (answer : Result Answer Refusal) : Type 0 where
  pub success : IfOk answer (λ answer. Succeeds command text answer.done answer.text.items)
  pub refusal : IfErr answer (RefusesText text)

-- the verdict is that on the report, as one of the scene that the text spells, whose start is clear
pub record IsVerdictOn (text report : List ℕ) (verdict : Verdict) : Type 0 where
  pub task : Task
  pub short : length text ≤ MOST_TEXT_BYTES
  pub spelled : Spells supported text task.scene
  pub start : ClearAt (space_of task.scene) task.scene.start
  pub judged : IsVerdict task report verdict

pub record JudgesReport (text report : List ℕ) (answer : Result Verdict Refusal) : Type 0 where
  pub verdict : IfOk answer (IsVerdictOn text report)
  pub refusal : IfErr answer (RefusesReport text report)

-- ---- what is handed out
-- the line and the kind of the fault of a text, with 0 for none
abbrev pub fault_line : Refusal → ℕ
fault_line (refusals.Text number kind) = number
fault_line refusal = 0

abbrev pub fault_kind : Refusal → ℕ
fault_kind (refusals.Text number kind) = number_of_kind kind
fault_kind refusal = 0

pub record TellsRefusal (refusal : Refusal) (line kind status : ℕ) : Type 0 where
  pub at_line : line ≡ fault_line refusal
  pub of_kind : kind ≡ fault_kind refusal
  pub ends : status ≡ status_of refusal

-- a text is handed out with its status, and no fault is told; of a refusal it is told, and the room is as it was
pub record HandsOutAnswer (answer : Result Answer Refusal) (before after : List ℕ) (count line kind status : ℕ) : Type 0 where
  pub text : IfOk answer (λ answer. HandsOut answer.text.items answer.done.status before after count status × (line ≡ 0) × (kind ≡ 0))
  pub refusal : IfErr answer (λ refusal. TellsRefusal refusal line kind status × (count ≡ 0) × (after ≡ before))

-- the line and the law that a report breaks, with 0 for none
abbrev pub broken_line : Verdict → ℕ
broken_line Lawful = 0
broken_line (Broken at law) = at

abbrev pub broken_law : Verdict → ℕ
broken_law Lawful = 0
broken_law (Broken at law) = law

pub record TellsVerdict (answer : Result Verdict Refusal) (line kind law status : ℕ) : Type 0 where
  pub verdict : IfOk answer (λ verdict. (line ≡ broken_line verdict) × (kind ≡ 0) × (law ≡ broken_law verdict) × (status ≡ status_of_verdict verdict))
  pub refusal : IfErr answer (λ refusal. TellsRefusal refusal line kind status × (law ≡ 0))

-- ---- calls
-- a call that plans: its answer to the text, as it is handed out
pub record HasAnswered (command : Command) (text before after : List ℕ) (count line kind status : ℕ) : Type 0 where
  pub answer : Result Answer Refusal
  pub answers : AnswersText command text answer
  pub handed_out : HandsOutAnswer answer before after count line kind status

-- a call that judges a report
pub record HasJudged (text report : List ℕ) (line kind law status : ℕ) : Type 0 where
  pub answer : Result Verdict Refusal
  pub judges : JudgesReport text report answer
  pub told : TellsVerdict answer line kind law status
