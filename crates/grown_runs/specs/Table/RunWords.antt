-- The words in the list of a run by their names.
use Rattle.grown_runs.specs.Table.PlacesOfWords.{sizes_in}
use Rattle.grown_runs.specs.Table.WordNames.{Words, Word, ChangesOnly}
use Rattle.grown_runs.specs.Table.WordPlaces.{word_at}
use Rattle.grown_runs.specs.declared.run_words.RunWords.{RunWords}
use Rattle.std.specs.Prelude.{◌≡◌, ℕ, ◌<◌, false}
use Rattle.grown_runs.specs.Table.WordNames.Word.{PointOf, TreeOf, FirstOf}
use Rattle.grown_runs.specs.Runs.GrownWords.{has_node, IsBlank}

abbrev pub words_in : RunWords → Words
words_in words = word_at (sizes_in words.places) words.list.items

-- ---- Words of numbers without a node, while they are cleared one number after another.
-- the point, the tree word and the first word of these numbers
abbrev pub IsNodeWord : (ℕ → Type 0) → Word → Type 0
IsNodeWord which (PointOf node) = which node
IsNodeWord which (TreeOf node) = which node
IsNodeWord which (FirstOf node) = which node
IsNodeWord which _ = ⊥

-- the words of number n are 0, and nothing else changed
pub record ClearsNode (n : ℕ) (before after : Words) : Type 0 where
  pub blank : IsBlank after n
  pub others : ChangesOnly (IsNodeWord (λ node. node ≡ n)) before after

-- so are those of the numbers below m that have no node
pub record ClearsNodes (m : ℕ) (before after : Words) : Type 0 where
  pub blank : (n : ℕ) → n < m → has_node before n ≡ false → IsBlank after n
  pub others : ChangesOnly (IsNodeWord (λ node. (node < m) × (has_node before node ≡ false))) before after
