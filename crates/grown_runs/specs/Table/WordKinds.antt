-- What may become of a word, by its kind: what was seen against what is so now, now against later, and the entry of a call against its
-- return are all compared so.
use Rattle.std.specs.Prelude.{◌≡◌, ℕ, ◌+◌, ◌-◌, ◌%◌, ◌<◌, ◌≤◌, ◌==◌, ◌^◌, ◌⊎◌, ◌&&◌, nat_lt, nat_le, max, if◌then◌else◌}
use Rattle.grown_runs.specs.Table.Words.{cost_in}
use Rattle.grown_runs.specs.Table.WordNames.{Word, Words}
use Rattle.grown_runs.specs.Table.WordNames.Word.{Count, Best, Counter, PointOf, ChildOf, TreeOf, FirstOf, RecordOf}
use Rattle.grown_runs.specs.Table.WordPlaces.{Sizes, node_place}

-- a number that only rises; a word that is written or filled once; a pair of a parent and a cost that only falls; and one that views keep
-- apart from the others, of which nothing is said here
pub data WordKind : Type 0 where
  Rising : WordKind
  Once : WordKind
  Falling : WordKind
  Apart : WordKind

-- counts rise; points, children, first words and records are there once and stay; the costs of tree words fall; what a view saw last of the
-- best word is a number of its own
abbrev pub kind_of : Word → WordKind
kind_of Count = Rising
kind_of Best = Apart
kind_of (Counter strip) = Rising
kind_of (PointOf node) = Once
kind_of (ChildOf node side) = Once
kind_of (TreeOf node) = Falling
kind_of (FirstOf node) = Once
kind_of (RecordOf mark) = Once

-- a pair stays, or gives way to one of a lower cost, whatever its parent
abbrev pub Falls : ℕ → ℕ → Type 0
Falls word later = (word ≡ later) ⊎ ((2 ^ 63 ≤ later) × (cost_in later < cost_in word))

-- what a word of this kind may become; 0 is no word yet, but of a number
abbrev pub MayBecome : WordKind → ℕ → ℕ → Type 0
MayBecome Rising word later = word ≤ later
MayBecome Once word later = (word ≡ 0) ⊎ (word ≡ later)
MayBecome Falling word later = (word ≡ 0) ⊎ Falls word later
MayBecome Apart word later = Unit {0}

-- a tree word is 0, or written
abbrev pub HaveWholePairs : Words → Type 0
HaveWholePairs words = (n : ℕ) → (words (TreeOf n) ≡ 0) ⊎ (2 ^ 63 ≤ words (TreeOf n))

-- each word may become the one that stands there in the other table
abbrev pub AreBehind : Words → Words → Type 0
AreBehind words later = (name : Word) → MayBecome (kind_of name) (words name) (later name)

-- ---- two tables
-- of two words of a kind that may both become one word, the later
abbrev pub later_word : WordKind → ℕ → ℕ → ℕ
later_word Rising one other = max one other
later_word Once one other = if one == 0 then other else one
later_word Falling one other = if one == 0 then other else if nat_le (2 ^ 63) other && nat_lt (cost_in other) (cost_in one) then other else one
later_word Apart one other = one

-- the kind of the word at a place
abbrev pub kind_at : Sizes → ℕ → WordKind
kind_at sizes place =
    if place == 1 then Apart else
    if nat_le place (sizes.strips + 1) then Rising else
    if nat_lt place (node_place sizes (sizes.marks + 1)) && (place - node_place sizes 0) % 5 == 3 then Falling else Once
