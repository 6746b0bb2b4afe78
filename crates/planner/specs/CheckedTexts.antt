-- What a refusal to check a report says of the bytes that were read.
use Rattle.planner.specs.Terms.{ClearAt, IsCutAtReport, IsVerdict, List, Refusal, Refused, Scene, Spells, Task, Verdict, space_of, supported, ℕ}
use Rattle.planner.specs.Conclusions.{BlocksStart}
use Rattle.planner.specs.Inputs.{RefusesWhole, RefusesInput, scene_and_report}
use Rattle.planner.specs.declared.commands.Command.TheVariants as commands
use Rattle.planner.specs.declared.refusals.Refusal.TheVariants as refusals

-- the text spells a scene whose start is not clear
pub record SpellsBlocked (text : List ℕ) : Type 0 where
  pub scene : Scene
  pub spelled : Spells supported text scene
  pub blocked : ¬ ClearAt (space_of scene) scene.start

-- of the text before a line `report`
abbrev pub RefusesSceneText : List ℕ → Refusal → Type 0
RefusesSceneText text (refusals.Text number kind) = Refused supported text number kind
RefusesSceneText text refusals.StartBlocked = SpellsBlocked text
RefusesSceneText text refusals.Memory = Unit {0}
RefusesSceneText text refusal = ⊥

-- of bytes without a line `report`
abbrev pub RefusesWithoutReport : List ℕ → Refusal → Type 0
RefusesWithoutReport bytes (refusals.Text number kind) = RefusesWhole number kind bytes
RefusesWithoutReport bytes refusals.Memory = Unit {0}
RefusesWithoutReport bytes refusal = ⊥

-- of all bytes
abbrev pub RefusesCheck : List ℕ → Refusal → Type 0
RefusesCheck bytes (refusals.Text number kind) = RefusesInput scene_and_report number kind bytes
RefusesCheck bytes refusals.StartBlocked = BlocksStart commands.Check bytes
RefusesCheck bytes refusals.Memory = Unit {0}
RefusesCheck bytes refusal = ⊥

-- the verdict is that on what stands after the line `report`, as a report of the scene before it, whose start is clear
pub record Judges (bytes : List ℕ) (verdict : Verdict) : Type 0 where
  pub front : List ℕ
  pub report : List ℕ
  pub cut : IsCutAtReport bytes front report
  pub task : Task
  pub spelled : Spells supported front task.scene
  pub start : ClearAt (space_of task.scene) task.scene.start
  pub judged : IsVerdict task report verdict
