-- The versions, the keys of lines, and the tables of what may stand after each key, and how often, by the version.
use Rattle.std.specs.Prelude.{ℕ, List, [], ◌∷◌, codes, decimal, ◌*◌, ◌%◌, ◌==◌, nat_le, ◌&&◌, ◌||◌, not, Bool, true, ℤ, pos, Option, Some, None, bytes_eq}
use Rattle.std.specs.Prelude.{if◌then◌else◌}
use Rattle.plan_model.specs.Terms.{Key, Kind, LEAST_BODY_COORDINATE, LEAST_CORNERS, LEAST_SIDE, LEAST_STEP, LEAST_STRIPS, MOST_BODY_COORDINATE}
use Rattle.plan_model.specs.Terms.{MOST_BODY_CORNERS, MOST_GAMMA, MOST_MARKS, MOST_OBSTACLES, MOST_OBSTACLE_CORNERS, MOST_SEED, MOST_STRIPS}
use Rattle.plan_model.specs.Scenes.Limits.{by_version, least_obstacle_coordinate, most_clearance, most_goals, most_obstacle_coordinate, most_side, most_step}
use Rattle.plan_model.specs.declared.text_terms.Kind.TheVariants as kinds
use Rattle.plan_model.specs.declared.text_terms.Key.TheVariants as keys

-- ---- The numbers and the names of the kinds of faults, and the words that name a fault.
-- the number of a kind
abbrev pub number_of_kind : Kind → ℕ
number_of_kind kinds.Version = 1
number_of_kind kinds.Key = 2
number_of_kind kinds.Words = 3
number_of_kind kinds.Number = 4
number_of_kind kinds.Range = 5
number_of_kind kinds.Repeat = 6
number_of_kind kinds.Corners = 7
number_of_kind kinds.Many = 8
number_of_kind kinds.Missing = 9
number_of_kind kinds.Unbuilt = 10

-- the name of a kind
abbrev pub name_of_kind : Kind → List ℕ
name_of_kind kinds.Version = codes "Version"
name_of_kind kinds.Key = codes "Key"
name_of_kind kinds.Words = codes "Words"
name_of_kind kinds.Number = codes "Number"
name_of_kind kinds.Range = codes "Range"
name_of_kind kinds.Repeat = codes "Repeat"
name_of_kind kinds.Corners = codes "Corners"
name_of_kind kinds.Many = codes "Many"
name_of_kind kinds.Missing = codes "Missing"
name_of_kind kinds.Unbuilt = codes "Unbuilt"

-- the words that name a fault: the number of its line, and its kind by number and by name
abbrev pub fault_words : ℕ → Kind → List (List ℕ)
fault_words number kind = codes "line" ∷ decimal number ∷ codes "kind" ∷ decimal (number_of_kind kind) ∷ name_of_kind kind ∷ []

-- ---- keys
-- ---- names
-- the word that a scene text begins with
abbrev pub format_name : List ℕ
format_name = codes "prrt"

-- the second word, the number of the version
abbrev pub version_word : ℕ → List ℕ
version_word version = by_version version (codes "1") (codes "2")

-- all versions, in the order in which the second word is compared with theirs
abbrev pub every_version : List ℕ
every_version = 1 ∷ 2 ∷ []

-- the first of the versions with this word
abbrev pub version_among : List ℕ → List ℕ → Option ℕ
version_among word [] = None
version_among word (version ∷ versions) = if bytes_eq word (version_word version) then Some version else version_among word versions

-- the word that a key is written as
abbrev pub name_of : Key → List ℕ
name_of keys.Room = codes "room"
name_of keys.Body = codes "body"
name_of keys.Obstacle = codes "obstacle"
name_of keys.Clearance = codes "clearance"
name_of keys.Start = codes "start"
name_of keys.Goal = codes "goal"
name_of keys.Step = codes "step"
name_of keys.Gamma = codes "gamma"
name_of keys.Seed = codes "seed"
name_of keys.Strips = codes "strips"
name_of keys.Informed = codes "informed"
name_of keys.Marks = codes "marks"
name_of keys.Mark = codes "mark"

-- all keys of all versions, in the order in which a word is compared with them
abbrev pub every_key : List Key
every_key = keys.Room ∷ keys.Body ∷ keys.Obstacle ∷ keys.Clearance ∷ keys.Start ∷ keys.Goal ∷ keys.Step ∷ keys.Gamma ∷ keys.Seed
    ∷ keys.Strips ∷ keys.Informed ∷ keys.Marks ∷ keys.Mark ∷ []

-- the first of the keys with this name
abbrev pub key_among : List ℕ → List Key → Option Key
key_among word [] = None
key_among word (key ∷ keys) = if bytes_eq word (name_of key) then Some key else key_among word keys

-- the key is one of the version
abbrev pub is_key : ℕ → Key → Bool
is_key version keys.Clearance = not (version == 1)
is_key version keys.Informed = not (version == 1)
is_key version key = true

-- the key, if there is one of the version
abbrev pub key_within : ℕ → Option Key → Option Key
key_within version None = None
key_within version (Some key) = if is_key version key then Some key else None

-- the key of the version that a word names
abbrev pub key_of : ℕ → List ℕ → Option Key
key_of version word = key_within version (key_among word every_key)

-- ---- how many words stand after a key
-- the coordinates of the corners of a polygon
abbrev pub are_polygon_words : ℕ → Bool
are_polygon_words n = n % 2 == 0 && nat_le (2 * LEAST_CORNERS) n

-- so many words may stand after the key
abbrev pub fits_words : Key → ℕ → Bool
fits_words keys.Room n = n == 2
fits_words keys.Body n = n == 2 || are_polygon_words n
fits_words keys.Obstacle n = are_polygon_words n
fits_words keys.Start n = n == 2
fits_words keys.Goal n = n == 4
fits_words keys.Mark n = n == 2
fits_words key n = n == 1

-- the most corners that a line with the key gives; a line of no polygon gives two at most, those of a box
abbrev pub most_corners : Key → ℕ
most_corners keys.Body = MOST_BODY_CORNERS
most_corners keys.Obstacle = MOST_OBSTACLE_CORNERS
most_corners key = 2

-- ---- how often a key stands
-- how many lines with the key may stand
abbrev pub most_lines : ℕ → Key → ℕ
most_lines version keys.Obstacle = MOST_OBSTACLES
most_lines version keys.Goal = most_goals version
most_lines version keys.Mark = MOST_MARKS
most_lines version key = 1

-- the key that may not stand beside this one
abbrev pub rival_of : Key → Option Key
rival_of keys.Marks = Some keys.Mark
rival_of keys.Mark = Some keys.Marks
rival_of key = None

-- ---- the ranges of the numbers after a key
-- the least number that may stand after the key
abbrev pub least_of : ℕ → Key → ℤ
least_of version keys.Room = pos LEAST_SIDE
least_of version keys.Body = LEAST_BODY_COORDINATE
least_of version keys.Obstacle = least_obstacle_coordinate version
least_of version keys.Step = pos LEAST_STEP
least_of version keys.Strips = pos LEAST_STRIPS
least_of version key = pos 0

-- the greatest number that may stand after the key
abbrev pub most_of : ℕ → Key → ℤ
most_of version keys.Body = MOST_BODY_COORDINATE
most_of version keys.Obstacle = most_obstacle_coordinate version
most_of version keys.Clearance = pos (most_clearance version)
most_of version keys.Step = pos (most_step version)
most_of version keys.Gamma = pos MOST_GAMMA
most_of version keys.Seed = pos MOST_SEED
most_of version keys.Strips = pos MOST_STRIPS
most_of version keys.Informed = pos (by_version version 0 1)
most_of version keys.Marks = pos MOST_MARKS
most_of version key = pos (most_side version)
