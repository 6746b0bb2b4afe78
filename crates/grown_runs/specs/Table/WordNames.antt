-- The words of a run by their names: what each is the word of. Where a word stands is known to WordPlaces alone.
use Rattle.std.specs.Prelude.{◌≡◌, ◌≢◌, ℕ, Bool}

-- The count of nodes, and the best cost with its goal node; of each strip the counter of its claimed marks; of each node its point, its child
-- on each side, its tree word (parent and kept cost) and its first word (what it was placed with); of each mark its record.
pub data Word : Type 0 where
  Count : Word
  Best : Word
  Counter : (strip : ℕ) → Word
  PointOf : (node : ℕ) → Word
  ChildOf : (node : ℕ) (side : Bool) → Word
  TreeOf : (node : ℕ) → Word
  FirstOf : (node : ℕ) → Word
  RecordOf : (mark : ℕ) → Word

-- the word of each name
abbrev pub Words : Type 0
Words = Word → ℕ

-- ---- changes
-- no word changes but these
abbrev pub ChangesOnly : (Word → Type 0) → Words → Words → Type 0
ChangesOnly which before after = (name : Word) → ¬ which name → after name ≡ before name

-- one word is written, and all others stay
pub record WritesWord (name : Word) (value : ℕ) (before after : Words) : Type 0 where
  pub here : after name ≡ value
  pub others : (other : Word) → other ≢ name → after other ≡ before other

-- the words of children
abbrev pub IsChildWord : Word → Type 0
IsChildWord (ChildOf node side) = Unit {0}
IsChildWord _ = ⊥

-- the counters
abbrev pub IsCounter : Word → Type 0
IsCounter (Counter strip) = Unit {0}
IsCounter _ = ⊥

-- the points and the tree words of these nodes
abbrev pub IsKnotWord : (ℕ → Type 0) → Word → Type 0
IsKnotWord which (PointOf node) = which node
IsKnotWord which (TreeOf node) = which node
IsKnotWord which _ = ⊥
