-- The checks of a line, over the version and the numbers that the lines before it give.
use Rattle.std.specs.Prelude.{◌≡◌, ℕ, ◌≤◌, ◌*◌, ◌==◌, nat_lt, nat_le, ◌&&◌, ◌||◌, not, Bool, true, false, ℤ, int_le, Option, Some, ◌∷◌, ◌++◌, if◌then◌else◌}
use Rattle.plan_model.specs.Terms.{All, Key, Kind, List, None, Vertex, [], bytes_eq, drop, filter, length, list_all, map}
use Rattle.plan_model.specs.declared.text_terms.Key.TheVariants as keys
use Rattle.plan_model.specs.declared.text_terms.Kind.TheVariants as kinds
use Rattle.plan_model.specs.Geometry.Plane.{is_strictly_convex}
use Rattle.plan_model.specs.Texts.TextLines.{is_skipped, is_number, value_of}
use Rattle.plan_model.specs.Texts.Keys.{format_name, every_version, version_among, name_of, key_of, fits_words, most_corners, most_lines, rival_of, least_of}
use Rattle.plan_model.specs.Texts.Keys.{most_of}

-- Which versions are read, and which of their keys are supported.
pub record Format : Type 0 where
  pub reads : ℕ → Bool
  pub built : Key → Bool

-- ---- the numbers that lines give
-- the numbers of the lines with each key, in the order of the lines
abbrev pub Given : Type 0
Given = Key → List (List ℤ)

-- a statement begins with this key
abbrev pub begins_with : Key → List (List ℕ) → Bool
begins_with key [] = false
begins_with key (word ∷ words) = bytes_eq word (name_of key)

-- the numbers after the first word of a statement
abbrev pub numbers_in : List (List ℕ) → List ℤ
numbers_in words = map value_of (drop 1 words)

-- what statements give: the numbers of each statement with the key
abbrev pub given_by : List (List (List ℕ)) → Given
given_by statements key = map numbers_in (filter (begins_with key) statements)

-- what is given after one more statement
abbrev pub with_statement : Given → List (List ℕ) → Given
with_statement given words key = if begins_with key words then given key ++ numbers_in words ∷ [] else given key

-- there is a member
abbrev pub is_inhabited : {A : Type 0} → List A → Bool
is_inhabited [] = false
is_inhabited (x ∷ xs) = true

-- a line with the key stands
abbrev pub stands : Given → Key → Bool
stands given key = is_inhabited (given key)

-- ---- the checks
-- a line with this key stands, if there is one
abbrev pub stands_any : Given → Option Key → Bool
stands_any given None = false
stands_any given (Some key) = stands given key

-- a key that may stand once stands already, or one stands that may not stand beside it
abbrev pub is_repeated : ℕ → Given → Key → Bool
is_repeated version given key = (most_lines version key == 1 && stands given key) || stands_any given (rival_of key)

-- there are more corners than may be, or as many lines with the key as there may be stand already
abbrev pub is_too_many : ℕ → Given → Key → ℕ → Bool
is_too_many version given key n = nat_lt (2 * most_corners key) n || nat_le (most_lines version key) (length (given key))

-- the corners of a goal are in order
abbrev pub is_ordered : Key → List ℤ → Bool
is_ordered keys.Goal (x0 ∷ y0 ∷ x1 ∷ y1 ∷ zs) = int_le x0 x1 && int_le y0 y1
is_ordered key zs = true

-- each number is from low to high
abbrev pub are_between : ℤ → ℤ → List ℤ → Bool
are_between low high zs = list_all (λ z. int_le low z && int_le z high) zs

-- each number may stand after the key, and the corners of a goal are in order
abbrev pub is_in_range : ℕ → Key → List ℤ → Bool
is_in_range version key zs = is_ordered key zs && are_between (least_of version key) (most_of version key) zs

-- the corners that a list of coordinates gives
abbrev pub corners_from : List ℤ → List Vertex
corners_from (x ∷ y ∷ zs) = record { x = x; y = y } ∷ corners_from zs
corners_from zs = []

-- an obstacle, and a body of three or more corners, is strictly convex and counterclockwise
abbrev pub has_corners : Key → List ℤ → Bool
has_corners keys.Body zs = length zs == 2 || is_strictly_convex (corners_from zs)
has_corners keys.Obstacle zs = is_strictly_convex (corners_from zs)
has_corners key zs = true

-- ---- the first check that fails
-- whether a check passes, and the kind of the fault if it does not
abbrev pub Check : Type 0
Check = Bool × Kind

-- the kind of the first check that fails
abbrev pub first_failing : List Check → Option Kind
first_failing [] = None
first_failing (check ∷ checks) = if check.0 then first_failing checks else Some check.1

-- the checks of the numbers after a key
abbrev pub number_checks : ℕ → Key → List ℤ → List Check
number_checks version key zs = (is_in_range version key zs, kinds.Range) ∷ (has_corners key zs, kinds.Corners) ∷ []

-- the checks of a line with the key, by the keys that are supported: those of its form, and then those of its numbers
abbrev pub checks_of : (Key → Bool) → ℕ → Given → Key → List (List ℕ) → List Check
checks_of built version given key words =
    (built key, kinds.Unbuilt)
    ∷ (not (is_repeated version given key), kinds.Repeat)
    ∷ (fits_words key (length words), kinds.Words)
    ∷ (not (is_too_many version given key (length words)), kinds.Many)
    ∷ (list_all is_number words, kinds.Number)
    ∷ number_checks version key (map value_of words)

-- the fault of the words after a key, if the line begins with one
abbrev pub fault_at_key : (Key → Bool) → ℕ → Given → Option Key → List (List ℕ) → Option Kind
fault_at_key built version given None words = Some kinds.Key
fault_at_key built version given (Some key) words = first_failing (checks_of built version given key words)

-- the fault of a line after the version
abbrev pub fault_of_statement : (Key → Bool) → ℕ → Given → List (List ℕ) → Option Kind
fault_of_statement built version given [] = None
fault_of_statement built version given (word ∷ words) = fault_at_key built version given (key_of version word) words

-- the version, if there is one that is read
abbrev pub version_within : (ℕ → Bool) → Option ℕ → Option ℕ
version_within reads None = None
version_within reads (Some version) = if reads version then Some version else None

-- the version that the first statement gives: the name of the format, and then the number of a version that is read
abbrev pub version_of : (ℕ → Bool) → List (List ℕ) → Option ℕ
version_of reads (first ∷ second ∷ []) = if bytes_eq first format_name then version_within reads (version_among second every_version) else None
version_of reads words = None

-- the fault of the first statement, by the version that it gives
abbrev pub fault_of_version : Option ℕ → Option Kind
fault_of_version None = Some kinds.Version
fault_of_version (Some version) = None

-- the fault of a line that is not skipped, after the version or as the first
abbrev pub fault_after : Format → Option ℕ → Given → List (List ℕ) → Option Kind
fault_after format None given words = fault_of_version (version_of format.reads words)
fault_after format (Some version) given words = fault_of_statement format.built version given words

-- the fault of a line, after the version if there is one
abbrev pub fault_of_words : Format → Option ℕ → Given → List (List ℕ) → Option Kind
fault_of_words format version given words = if is_skipped words then None else fault_after format version given words

-- the keys that each scene needs
abbrev pub needed_keys : List Key
needed_keys = keys.Room ∷ keys.Start ∷ keys.Goal ∷ keys.Step ∷ []

-- what is missing after the last line
abbrev pub fault_at_end : Option ℕ → Given → Option Kind
fault_at_end None given = Some kinds.Version
fault_at_end (Some version) given = if list_all (stands given) needed_keys then None else Some kinds.Missing

-- ---- what lines without a fault give
-- these numbers may stand after the key
pub record MayStand (version : ℕ) (key : Key) (zs : List ℤ) : Type 0 where
  pub count : fits_words key (length zs) ≡ true
  pub few : nat_lt (2 * most_corners key) (length zs) ≡ false
  pub ranged : is_in_range version key zs ≡ true
  pub corners : has_corners key zs ≡ true

-- the numbers of each line may stand after its key, and no key stands too often
pub record AllMayStand (version : ℕ) (given : Given) : Type 0 where
  pub stand : (key : Key) → All (MayStand version key) (given key)
  pub few : (key : Key) → length (given key) ≤ most_lines version key
