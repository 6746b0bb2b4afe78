-- What a command reads, as a table by kind of input: which scenes the bytes spell, and when they are refused.
use Rattle.std.specs.Prelude.{◌≡◌, ℕ, ◌≤◌, true, false, IsTrue, Option, List, length, ◌+◌, Some, ◌⊎◌, Bool, [], ◌∷◌}
use Rattle.planner.specs.Terms.{Appends, AppendsPrefix, CameTooLong, ClearAt, Consumes, FaultsRose, HasNoReportLine, IsAllOf, IsAtEnd, IsCutAtReport, Keeps}
use Rattle.planner.specs.Terms.{Kind, MOST_TEXT_BYTES, ReadsWithin, Refused, RefusesBatch, Scene, SinkState, SourceState, Spells, SpellsBatch, counted_up}
use Rattle.planner.specs.Terms.{goal_middle, lines_of, space_of, supported}
use Rattle.plan_model.specs.declared.text_terms.Kind.TheVariants as kinds

-- ---- What a call did with its source and with its sink, from what is known of them before it and after it.
-- the source's count of faults rose
abbrev pub ReadFailed : SourceState → SourceState → Type 0
ReadFailed before now = FaultsRose before.fault_count now.fault_count

-- the sink's count of faults rose
abbrev pub WriteFailed : SinkState → SinkState → Type 0
WriteFailed before now = FaultsRose before.fault_count now.fault_count

-- no read failed, if failed reads alone raise the count of faults
abbrev pub NoReadFailed : SourceState → SourceState → Type 0
NoReadFailed before now = IsTrue before.counts_failures_alone → now.fault_count ≡ before.fault_count

-- nothing was read
pub record IsUnread (before now : SourceState) : Type 0 where
  pub kept : Keeps before.bytes_left now.bytes_left
  pub no_end : now.has_ended ≡ false
  pub no_fault : now.fault_count ≡ before.fault_count

-- the source was read to its end, and these bytes came
pub record IsReadWhole (before now : SourceState) (bytes : List ℕ) : Type 0 where
  pub end : now.has_ended ≡ true
  pub all : IsAllOf before.bytes_left bytes
  pub none_left : IsAtEnd now.bytes_left
  pub no_fault : NoReadFailed before now

-- the source was not read to its end, since more bytes came than a text may have
pub record IsTooLong (before now : SourceState) : Type 0 where
  pub came : CameTooLong before.bytes_left now.bytes_left
  pub no_end : now.has_ended ≡ false
  pub no_fault : NoReadFailed before now

-- no more bytes came than a text may have
abbrev pub CameShort : Option (List ℕ) → Option (List ℕ) → Type 0
CameShort before now = (came : List ℕ) × (length came ≤ MOST_TEXT_BYTES) × Consumes before now came

-- the source was not read to its end, since a read failed; it was not tried again
pub record IsReadFault (before now : SourceState) : Type 0 where
  pub rose : ReadFailed before now
  pub no_end : now.has_ended ≡ false
  pub came : CameShort before.bytes_left now.bytes_left
  pub one_fault : IsTrue before.counts_failures_alone → now.fault_count ≡ counted_up before.fault_count

-- nothing was written
pub record IsUnwritten (before now : SinkState) : Type 0 where
  pub kept : Keeps before.bytes_taken now.bytes_taken
  pub no_fault : now.fault_count ≡ before.fault_count

-- the sink took the whole text
pub record IsWrittenWhole (before now : SinkState) (text : List ℕ) : Type 0 where
  pub all : Appends before.bytes_taken now.bytes_taken text
  pub no_fault : IsTrue before.counts_failures_alone → now.fault_count ≡ before.fault_count

-- the sink took a proper prefix of the text, since a write failed; it was not tried again
pub record IsCutShort (before now : SinkState) (text : List ℕ) : Type 0 where
  pub rose : WriteFailed before now
  pub part : AppendsPrefix before.bytes_taken now.bytes_taken text
  pub one_fault : IsTrue before.counts_failures_alone → now.fault_count ≡ counted_up before.fault_count

-- ---- What is known of a source that was not read to its end, if its bytes are known.
-- more bytes came than a text may have, or a read failed, and not both
abbrev pub HasOneCause : Type 0
HasOneCause = (before now : SourceState) (bytes : List ℕ) → before.bytes_left ≡ Some bytes → IsTooLong before now → ¬ IsReadFault before now

-- if more came than a text may have, it is one more
abbrev pub ReadsOneMore : Type 0
ReadsOneMore = (before now : SourceState) (bytes rest : List ℕ) → before.bytes_left ≡ Some bytes → now.bytes_left ≡ Some rest
    → IsTooLong before now → ReadsWithin before.bytes_left now.bytes_left → length bytes ≡ length rest + MOST_TEXT_BYTES + 1

-- ---- inputs
-- a kind of input: nothing at all, the text of one scene, those of several scenes with a line `next` between two of them, or the text of
-- a scene and the bytes of a report with a line `report` between them
pub data Input : Type 0 where
  nothing : Input
  one_scene : Input
  several_scenes : Input
  scene_and_report : Input

-- whether there is something to read
abbrev pub reads_bytes : Input → Bool
reads_bytes nothing = false
reads_bytes one_scene = true
reads_bytes several_scenes = true
reads_bytes scene_and_report = true

-- the bytes are a text of a permitted length that spells the scene
pub record IsTextOf (scene : Scene) (bytes : List ℕ) : Type 0 where
  pub short : length bytes ≤ MOST_TEXT_BYTES
  pub spelled : Spells supported bytes scene

-- the bytes are a text of a permitted length that the grammar refuses at this line, by this kind of fault
pub record IsFaultyText (number : ℕ) (kind : Kind) (bytes : List ℕ) : Type 0 where
  pub short : length bytes ≤ MOST_TEXT_BYTES
  pub refused : Refused supported bytes number kind

-- the bytes are a text of a permitted length that spells the scenes, in their order
pub record IsBatchOf (scenes : List Scene) (bytes : List ℕ) : Type 0 where
  pub short : length bytes ≤ MOST_TEXT_BYTES
  pub spelled : SpellsBatch supported bytes scenes

-- the bytes are a text of a permitted length that is refused as a batch at this line, by this kind of fault
pub record IsFaultyBatch (number : ℕ) (kind : Kind) (bytes : List ℕ) : Type 0 where
  pub short : length bytes ≤ MOST_TEXT_BYTES
  pub refused : RefusesBatch supported bytes number kind

-- the bytes have a permitted length, and what stands before their line `report` spells the scene
pub record IsTextBeforeReport (scene : Scene) (bytes : List ℕ) : Type 0 where
  pub short : length bytes ≤ MOST_TEXT_BYTES
  pub front : List ℕ
  pub report : List ℕ
  pub cut : IsCutAtReport bytes front report
  pub spelled : Spells supported front scene

-- what stands before the line `report` of the bytes is refused at this line, by this kind of fault
pub record RefusesFront (number : ℕ) (kind : Kind) (bytes : List ℕ) : Type 0 where
  pub front : List ℕ
  pub report : List ℕ
  pub cut : IsCutAtReport bytes front report
  pub refused : Refused supported front number kind

-- the bytes spell a scene, and the line after the last is missing
pub record LacksLine (number : ℕ) (kind : Kind) (bytes : List ℕ) : Type 0 where
  pub scene : Scene
  pub spelled : Spells supported bytes scene
  pub after_last : number ≡ length (lines_of bytes) + 1
  pub missing : kind ≡ kinds.Missing

-- No line of the bytes is `report`: then they are refused as the text of a scene, or that line is missing.
pub record RefusesWhole (number : ℕ) (kind : Kind) (bytes : List ℕ) : Type 0 where
  pub none : HasNoReportLine bytes
  pub refused : Refused supported bytes number kind ⊎ LacksLine number kind bytes

-- the bytes have a permitted length, and no scene stands before a line `report`: they are refused at this line, by this kind of fault
pub record IsFaultyBeforeReport (number : ℕ) (kind : Kind) (bytes : List ℕ) : Type 0 where
  pub short : length bytes ≤ MOST_TEXT_BYTES
  pub refused : RefusesFront number kind bytes ⊎ RefusesWhole number kind bytes

-- there is one scene alone, of which something is said
abbrev pub IsOneScene : (Scene → Type 0) → List Scene → Type 0
IsOneScene P (scene ∷ []) = P scene
IsOneScene P scenes = ⊥

-- the bytes spell these scenes, in their order
abbrev pub SpellsInput : Input → List ℕ → List Scene → Type 0
SpellsInput nothing bytes scenes = (bytes ≡ []) × (scenes ≡ [])
SpellsInput one_scene bytes scenes = IsOneScene (λ scene. IsTextOf scene bytes) scenes
SpellsInput several_scenes bytes scenes = IsBatchOf scenes bytes
SpellsInput scene_and_report bytes scenes = IsOneScene (λ scene. IsTextBeforeReport scene bytes) scenes

-- the bytes are refused at this line, by this kind of fault
abbrev pub RefusesInput : Input → ℕ → Kind → List ℕ → Type 0
RefusesInput nothing number kind bytes = ⊥
RefusesInput one_scene number kind bytes = IsFaultyText number kind bytes
RefusesInput several_scenes number kind bytes = IsFaultyBatch number kind bytes
RefusesInput scene_and_report number kind bytes = IsFaultyBeforeReport number kind bytes

-- the middle of the first goal of each scene is clear
abbrev pub AreGoalsClear : List Scene → Type 0
AreGoalsClear [] = Unit {0}
AreGoalsClear (scene ∷ scenes) = ClearAt (space_of scene) (goal_middle scene) × AreGoalsClear scenes

-- the start of each scene is clear
abbrev pub AreStartsClear : List Scene → Type 0
AreStartsClear [] = Unit {0}
AreStartsClear (scene ∷ scenes) = ClearAt (space_of scene) scene.start × AreStartsClear scenes
