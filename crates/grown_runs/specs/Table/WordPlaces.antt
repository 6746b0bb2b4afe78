-- The place of each word in the list of a run's words: the count of nodes, the best word, a counter for each strip, five words for each
-- node, a word for each record.
use Rattle.std.specs.Prelude.{ℕ, ◌+◌, ◌*◌, ◌<◌, ◌≤◌, nat_lt, nat_le, Bool, true, false, List, slice_index, if◌then◌else◌}
use Rattle.grown_runs.specs.Table.WordNames.{Word, Words}
use Rattle.grown_runs.specs.Table.WordNames.Word.{Count, Best, Counter, PointOf, ChildOf, TreeOf, FirstOf, RecordOf}

-- how many strips and how many marks a run has; it has a number more for nodes than for marks
pub record Sizes : Type 0 where
  pub strips : ℕ
  pub marks : ℕ

-- the place of the first word of a node
abbrev pub node_place : Sizes → ℕ → ℕ
node_place sizes node = (sizes.strips + 2) + 5 * node

-- the place of a word
abbrev pub place_of : Sizes → Word → ℕ
place_of sizes Count = 0
place_of sizes Best = 1
place_of sizes (Counter strip) = strip + 2
place_of sizes (PointOf node) = node_place sizes node
place_of sizes (ChildOf node false) = node_place sizes node + 1
place_of sizes (ChildOf node true) = node_place sizes node + 2
place_of sizes (TreeOf node) = node_place sizes node + 3
place_of sizes (FirstOf node) = node_place sizes node + 4
place_of sizes (RecordOf mark) = node_place sizes (sizes.marks + 1) + mark

-- how many words there are
abbrev pub word_count : Sizes → ℕ
word_count sizes = node_place sizes (sizes.marks + 1) + sizes.marks

-- a run of these sizes has this word
abbrev pub HasWord : Sizes → Word → Type 0
HasWord sizes Count = Unit {0}
HasWord sizes Best = Unit {0}
HasWord sizes (Counter strip) = strip < sizes.strips
HasWord sizes (PointOf node) = node ≤ sizes.marks
HasWord sizes (ChildOf node side) = node ≤ sizes.marks
HasWord sizes (TreeOf node) = node ≤ sizes.marks
HasWord sizes (FirstOf node) = node ≤ sizes.marks
HasWord sizes (RecordOf mark) = mark < sizes.marks

-- the same as a test
abbrev pub has_word : Sizes → Word → Bool
has_word sizes Count = true
has_word sizes Best = true
has_word sizes (Counter strip) = nat_lt strip sizes.strips
has_word sizes (PointOf node) = nat_le node sizes.marks
has_word sizes (ChildOf node side) = nat_le node sizes.marks
has_word sizes (TreeOf node) = nat_le node sizes.marks
has_word sizes (FirstOf node) = nat_le node sizes.marks
has_word sizes (RecordOf mark) = nat_lt mark sizes.marks

-- the word of this name in the list of a run's words; 0 if the run has none
unfoldable pub word_at : Sizes → List ℕ → Words
word_at sizes items name = if has_word sizes name then slice_index items (place_of sizes name) else 0
