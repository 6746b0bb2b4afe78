-- What the fields of a draft give, and what one more line adds.
use Rattle.std.specs.Prelude.{◌≡◌, ℕ, ◌≤◌, true, false, ℤ, pos, Option, Some, None, List, [], ◌∷◌, length, map, if◌then◌else◌, codes}
use Rattle.std.specs.List.{list_all, join_with_byte}
use Rattle.plan_model.specs.declared.text_terms.Key.{Key}
use Rattle.plan_model.specs.Texts.TextLines.{is_skipped, is_number}
use Rattle.plan_model.specs.Texts.Keys.{fits_words, fault_words}
use Rattle.plan_model.specs.Texts.LineChecks.{Given, with_statement, version_of, is_repeated, is_too_many, fault_of_words, AllMayStand}
use Rattle.plan_model.specs.Texts.SceneGrammar.{is_supported, supported, Refused}
use Rattle.plan_model.specs.Texts.CanonicalText.{point_numbers, goal_numbers, corner_numbers}
use Rattle.scene_text.specs.declared.drafts.Draft.{Draft}
use Rattle.plan_model.specs.declared.text_terms.Kind.{Kind}
use Rattle.scene_text.specs.declared.refusals.SceneRefusal.{SceneRefusal}
use Rattle.scene_text.specs.declared.refusals.LineRefusal.{LineRefusal}
use Rattle.plan_model.specs.declared.text_terms.Key.TheVariants as keys
use Rattle.scene_text.specs.declared.refusals.SceneRefusal.TheVariants as scene
use Rattle.scene_text.specs.declared.refusals.LineRefusal.TheVariants as line

-- ---- what a draft gives
-- the numbers of the one line of a field, if it is known
abbrev pub line_numbers : {A : Type 0} → (A → List ℤ) → Option A → List (List ℤ)
line_numbers numbers None = []
line_numbers numbers (Some field) = numbers field ∷ []

-- the one number of a field
abbrev pub amount_numbers : ℕ → List ℤ
amount_numbers n = pos n ∷ []

-- the numbers of the lines that have given the fields of a draft
abbrev pub given_by_draft : Draft → Given
given_by_draft draft keys.Room = line_numbers point_numbers draft.room
given_by_draft draft keys.Body = line_numbers corner_numbers draft.body
given_by_draft draft keys.Obstacle = map corner_numbers draft.obstacles.items
given_by_draft draft keys.Clearance = line_numbers amount_numbers draft.clearance
given_by_draft draft keys.Start = line_numbers point_numbers draft.start
given_by_draft draft keys.Goal = map goal_numbers draft.goals.items
given_by_draft draft keys.Step = line_numbers amount_numbers draft.step
given_by_draft draft keys.Gamma = line_numbers amount_numbers draft.gamma
given_by_draft draft keys.Seed = line_numbers amount_numbers draft.seed
given_by_draft draft keys.Strips = line_numbers amount_numbers draft.strips
given_by_draft draft keys.Informed = line_numbers amount_numbers draft.informed
given_by_draft draft keys.Marks = line_numbers amount_numbers draft.drawn
given_by_draft draft keys.Mark = map point_numbers draft.marks.items

-- if a version was read, it is one of the format, and by it the numbers of each line may stand after its key
pub record IsSoundDraft (draft : Draft) : Type 0 where
  pub low : (version : ℕ) → draft.version ≡ Some version → 1 ≤ version
  pub high : (version : ℕ) → draft.version ≡ Some version → version ≤ 2
  pub stand : (version : ℕ) → draft.version ≡ Some version → AllMayStand version (given_by_draft draft)

-- ---- one more line
-- the checks of a line that come before those of its numbers pass
pub record IsFormed (version : ℕ) (given : Given) (key : Key) (words : List (List ℕ)) : Type 0 where
  pub built : is_supported key ≡ true
  pub fresh : is_repeated version given key ≡ false
  pub fits : fits_words key (length words) ≡ true
  pub few : is_too_many version given key (length words) ≡ false
  pub numbers : list_all is_number words ≡ true

-- what is given after one more line, which before the version is the version
abbrev pub given_after : Option ℕ → Given → List (List ℕ) → Given
given_after None given words = given
given_after (Some version) given words = if is_skipped words then given else with_statement given words

-- the version after one more line
abbrev pub version_after : Option ℕ → List (List ℕ) → Option ℕ
version_after None words = if is_skipped words then None else version_of supported.reads words
version_after (Some version) words = Some version

-- the line has no fault, and the new draft gives what the old one gave, and the numbers of the line
pub record TakesLine (old new : Draft) (words : List (List ℕ)) : Type 0 where
  pub sound : fault_of_words supported old.version (given_by_draft old) words ≡ None
  pub version : new.version ≡ version_after old.version words
  pub given : given_by_draft new ≡ given_after old.version (given_by_draft old) words

-- ---- What a refusal says of the text, or of the line, that is refused.
-- the refusal of a text whose line with this number is refused
abbrev pub refusal_at : ℕ → LineRefusal → SceneRefusal
refusal_at number (line.Fault kind) = scene.Fault (record { line = number; kind = kind })
refusal_at number line.Memory = scene.Memory

-- a line is refused for its fault, or the program is out of memory
abbrev pub IsLineRefusal : Option Kind → LineRefusal → Type 0
IsLineRefusal fault (line.Fault kind) = fault ≡ Some kind
IsLineRefusal fault line.Memory = Unit {0}

-- a text is refused at its first line with a fault, for the first check that the line fails, or the program is out of memory
abbrev pub IsSceneRefusal : List ℕ → SceneRefusal → Type 0
IsSceneRefusal text (scene.Fault fault) = Refused supported text fault.line fault.kind
IsSceneRefusal text scene.Memory = Unit {0}

-- how a fault is shown: the words that name it, with a space between two
abbrev pub fault_text : ℕ → Kind → List ℕ
fault_text number kind = join_with_byte 32 (fault_words number kind)

-- how a refusal is shown
abbrev pub refusal_text : SceneRefusal → List ℕ
refusal_text (scene.Fault fault) = fault_text fault.line fault.kind
refusal_text scene.Memory = codes "out of memory"
