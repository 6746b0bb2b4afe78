-- What a source that is read to its end gives, and what is left of it: before and now are the bytes that it has left before the call and after it, if
-- they are known.
use Rattle.std.specs.Prelude.{◌≡◌, ℕ, ◌+◌, ◌<◌, ◌≤◌, ◌↔◌, ◌++◌, Option, Some, List, length, Result, Vec, IfOk, IsErrOf, codes, decimal}
use Rattle.std.specs.Io.KnownBytes.{Consumes}
use Rattle.plan_model.specs.declared.limits.TheConstants.{MOST_TEXT_BYTES}
use Rattle.scene_text.specs.declared.fetching.FetchFault.{FetchFault}
use Rattle.plan_model.specs.Texts.SceneGrammar.{RefusesBatch, Refused, supported}
use Rattle.scene_text.specs.declared.refusals.SceneRefusal.{SceneRefusal}
use Rattle.scene_text.specs.declared.fetching.FetchFault.TheVariants as faults
use Rattle.scene_text.specs.declared.refusals.SceneRefusal.TheVariants as scene

-- the bytes are all that the source had, if those are known
abbrev pub IsAllOf : Option (List ℕ) → List ℕ → Type 0
IsAllOf before bytes = (known : List ℕ) → before ≡ Some known → bytes ≡ known

-- the bytes that came are at most one more than a text may have
abbrev pub ReadsWithin : Option (List ℕ) → Option (List ℕ) → Type 0
ReadsWithin before now = (came : List ℕ) × (length came ≤ MOST_TEXT_BYTES + 1) × Consumes before now came

-- more bytes came than a text may have
abbrev pub CameTooLong : Option (List ℕ) → Option (List ℕ) → Type 0
CameTooLong before now = (came : List ℕ) × (MOST_TEXT_BYTES < length came) × Consumes before now came

-- These bytes came: on success they are the text, and the result is `TooLong` exactly if they are more than a text may have.
pub record Fetches {Z : Type 0} (before now : Option (List ℕ)) (result : Result (Vec ℕ Z) FetchFault) : Type 0 where
  pub came : List ℕ
  pub consumed : Consumes before now came
  pub within : length came ≤ MOST_TEXT_BYTES + 1
  pub text : IfOk result (λ text. text.items ≡ came)
  pub too_long : IsErrOf result faults.TooLong ↔ (MOST_TEXT_BYTES < length came)

-- how a fault is shown
abbrev pub fault_message : FetchFault → List ℕ
fault_message faults.Read = codes "read failed"
fault_message faults.TooLong = codes "text longer than " ++ decimal MOST_TEXT_BYTES ++ codes " bytes"
fault_message faults.Memory = codes "out of memory"

-- ---- What a refusal says of a batch, and of one of its parts.
-- a part with so many lines before it is refused at its first line with a fault, or the program is out of memory
abbrev pub IsPartRefusal : ℕ → List ℕ → SceneRefusal → Type 0
IsPartRefusal before part (scene.Fault fault) = (line : ℕ) × (fault.line ≡ before + line) × Refused supported part line fault.kind
IsPartRefusal before part scene.Memory = Unit {0}

-- a text is refused as a batch, or the program is out of memory
abbrev pub IsBatchRefusal : List ℕ → SceneRefusal → Type 0
IsBatchRefusal text (scene.Fault fault) = RefusesBatch supported text fault.line fault.kind
IsBatchRefusal text scene.Memory = Unit {0}
