-- The grammar of scene texts: two relations over the list of lines, one for each answer of a reader.
use Rattle.std.specs.Prelude.{◌≡◌, ℕ, ◌+◌, ◌<◌, ◌==◌, Bool, true, ℤ, pos, unsigned_abs, ◌⊎◌, Option, Some, None, List, [], ◌∷◌, length, map, take, drop, zero}
use Rattle.std.specs.Prelude.{suc, ◌≤◌, ◌++◌, get_or, bytes_eq, codes, if◌then◌else◌}
use Rattle.plan_model.specs.Terms.{Drawn, Goal, Key, Kind, Listed, MOST_SCENES, Marks, Point, Vertex}
use Rattle.plan_model.specs.declared.scenes.Scene.{Scene}
use Rattle.plan_model.specs.Texts.TextLines.{lines_of, words_of, statements_of}
use Rattle.plan_model.specs.Texts.LineChecks.{Format, Given, given_by, version_of, corners_from, fault_of_words, fault_at_end}
use Rattle.plan_model.specs.declared.text_terms.Key.TheVariants as keys
use Rattle.plan_model.specs.declared.text_terms.Kind.TheVariants as kinds

-- ---- faults
-- the version that the first of the statements gives
abbrev pub version_given : (ℕ → Bool) → List (List (List ℕ)) → Option ℕ
version_given reads [] = None
version_given reads (first ∷ statements) = version_of reads first

-- what the statements after the version give
abbrev pub given_after_version : List (List (List ℕ)) → Given
given_after_version statements = given_by (drop 1 statements)

-- the fault of line i, counted from 0, against the statements of the lines before it
abbrev pub fault_of_line : Format → List (List ℕ) → ℕ → Option Kind
fault_of_line format lines i = let before = statements_of (take i lines) in
    fault_of_words format (version_given format.reads before) (given_after_version before) (words_of (get_or lines i []))

-- what is missing after the last line
abbrev pub fault_of_end : Format → List (List (List ℕ)) → Option Kind
fault_of_end format statements = fault_at_end (version_given format.reads statements) (given_after_version statements)

-- ---- the scene that lines give
-- the numbers of the first line
abbrev pub first_of : List (List ℤ) → List ℤ
first_of lists = get_or lists 0 []

-- the point with the first two numbers as its column and row
abbrev pub point_from : List ℤ → Point
point_from (x ∷ y ∷ zs) = record { x = unsigned_abs x; y = unsigned_abs y }
point_from zs = record { x = 0; y = 0 }

-- the goal with the first two numbers as its low corner and the next two as its high one
abbrev pub goal_from : List ℤ → Goal
goal_from zs = record { low = point_from zs; high = point_from (drop 2 zs) }

-- the number of a line, or the one that holds without it
abbrev pub number_or : ℕ → List ℤ → ℕ
number_or default [] = default
number_or default (z ∷ zs) = unsigned_abs z

-- the body without a `body` line is one corner, the origin
abbrev pub body_from : List (List ℤ) → List Vertex
body_from [] = record { x = pos 0; y = pos 0 } ∷ []
body_from (zs ∷ rest) = corners_from zs

-- the plan: drawn marks by a `marks` line, or else the listed ones
abbrev pub plan_from : List (List ℤ) → List (List ℤ) → Marks
plan_from [] points = Listed (map point_from points)
plan_from (zs ∷ rest) points = Drawn (number_or 0 zs)

-- the version is the one that was read, and the other fields are those of the lines, or those that hold without a line
pub record HasFields (version_read : Option ℕ) (given : Given) (scene : Scene) : Type 0 where
  pub version : version_read ≡ Some scene.version
  pub room : scene.room ≡ point_from (first_of (given keys.Room))
  pub body : scene.body ≡ body_from (given keys.Body)
  pub obstacles : scene.obstacles ≡ map corners_from (given keys.Obstacle)
  pub clearance : scene.clearance ≡ number_or 0 (first_of (given keys.Clearance))
  pub start : scene.start ≡ point_from (first_of (given keys.Start))
  pub goals : scene.goals ≡ map goal_from (given keys.Goal)
  pub step : scene.step ≡ number_or 0 (first_of (given keys.Step))
  pub gamma : scene.gamma ≡ number_or 0 (first_of (given keys.Gamma))
  pub seed : scene.seed ≡ number_or 0 (first_of (given keys.Seed))
  pub strips : scene.strips ≡ number_or 1 (first_of (given keys.Strips))
  pub informed : scene.informed ≡ (number_or 0 (first_of (given keys.Informed)) == 1)
  pub plan : scene.plan ≡ plan_from (given keys.Marks) (given keys.Mark)

-- ---- the two relations
-- no line below line n, counted from 0, has a fault
abbrev pub IsSoundBelow : Format → List (List ℕ) → ℕ → Type 0
IsSoundBelow format lines n = (i : ℕ) → i < n → fault_of_line format lines i ≡ None

-- The text spells the scene: no line has a fault, nothing is missing, and the fields are those of the lines.
pub record Spells (format : Format) (text : List ℕ) (scene : Scene) : Type 0 where
  pub sound : IsSoundBelow format (lines_of text) (length (lines_of text))
  pub complete : fault_of_end format (statements_of (lines_of text)) ≡ None
  pub fields : HasFields (version_given format.reads (statements_of (lines_of text))) (given_after_version (statements_of (lines_of text))) scene

-- the check that line i fails, counted from 0, or what is missing after the last line
abbrev pub FailsAt : Format → List (List ℕ) → ℕ → Kind → Type 0
FailsAt format lines i kind = ((i < length lines) × (fault_of_line format lines i ≡ Some kind))
    ⊎ ((i ≡ length lines) × (fault_of_end format (statements_of lines) ≡ Some kind))

-- The text is refused at a line, counted from 1, for the first check that the line fails: it is the first line with a
-- fault, or the one after the last, if something is missing.
abbrev pub Refused : Format → List ℕ → ℕ → Kind → Type 0
Refused format text number kind = (i : ℕ) × (number ≡ i + 1) × IsSoundBelow format (lines_of text) i × FailsAt format (lines_of text) i kind

-- ---- what is supported
-- the keys that are supported: every key
abbrev pub is_supported : Key → Bool
is_supported key = true

-- what the reader reads: both versions, with the keys that are supported
abbrev pub supported : Format
supported = record { reads = λ version. true; built = is_supported }

-- the grammar of both versions, with every key
abbrev pub whole_format : Format
whole_format = record { reads = λ version. true; built = λ key. true }

-- ---- Batches: several scene texts in one text, with a line `next` between two of them.
-- ---- the parts of a text
-- a part is a list of lines
abbrev pub Part : Type 0
Part = List (List ℕ)

-- the line between two parts
abbrev pub separator : List ℕ
separator = codes "next"

-- a line before those of the first part
abbrev pub onto_first_part : List ℕ → List Part → List Part
onto_first_part line [] = (line ∷ []) ∷ []
onto_first_part line (first ∷ rest) = (line ∷ first) ∷ rest

-- The parts of lines: these are cut at each line that is exactly `next`. There is one part at least, and each may be empty.
abbrev pub parts_of : List (List ℕ) → List Part
parts_of [] = [] ∷ []
parts_of (line ∷ lines) = if bytes_eq line separator then [] ∷ parts_of lines else onto_first_part line (parts_of lines)

-- a part as a text: each line ends with a line feed
abbrev pub text_of : Part → List ℕ
text_of [] = []
text_of (line ∷ lines) = line ++ 10 ∷ text_of lines

-- part k, counted from 0, as a text
abbrev pub part_text : List Part → ℕ → List ℕ
part_text parts k = text_of (get_or parts k [])

-- how many lines stand before part k: those of the parts before it, and the line `next` after each
abbrev pub lines_before : List Part → ℕ → ℕ
lines_before parts zero = 0
lines_before [] (suc k) = 0
lines_before (part ∷ parts) (suc k) = length part + 1 + lines_before parts k

-- ---- the two relations
-- The text spells the scenes: each of its parts spells the scene with its number, and they are not too many.
pub record SpellsBatch (format : Format) (text : List ℕ) (scenes : List Scene) : Type 0 where
  pub count : length scenes ≡ length (parts_of (lines_of text))
  pub few : length scenes ≤ MOST_SCENES
  pub each : (k : ℕ) (d : Scene) → k < length scenes → Spells format (part_text (parts_of (lines_of text)) k) (get_or scenes k d)

-- each part before part n spells a scene
abbrev pub AreSpelledBelow : Format → List Part → ℕ → Type 0
AreSpelledBelow format parts n = (k : ℕ) → k < n → (scene : Scene) × Spells format (part_text parts k) scene

-- the part is refused at a line, which has this number in the whole text
abbrev pub IsRefusedPart : Format → List Part → ℕ → ℕ → Kind → Type 0
IsRefusedPart format parts k number kind = (line : ℕ) × (number ≡ lines_before parts k + line) × Refused format (part_text parts k) line kind

-- Part k is refused, or it is the first one too many: then the line before it is.
abbrev pub FailsAtPart : Format → List Part → ℕ → ℕ → Kind → Type 0
FailsAtPart format parts k number kind = ((k < MOST_SCENES) × IsRefusedPart format parts k number kind)
    ⊎ ((k ≡ MOST_SCENES) × (number ≡ lines_before parts k) × (kind ≡ kinds.Many))

-- The text is refused at a line, counted from 1, for the first check that the line fails: it is that of the first part that is refused,
-- or else the line `next` before the first part that is one too many.
abbrev pub RefusesBatch : Format → List ℕ → ℕ → Kind → Type 0
RefusesBatch format text number kind =
    (k : ℕ) × (k < length (parts_of (lines_of text))) × AreSpelledBelow format (parts_of (lines_of text)) k
    × FailsAtPart format (parts_of (lines_of text)) k number kind
