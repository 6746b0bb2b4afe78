-- The law of notes: each change of a word that others load is noted by the view that makes it, with the steps that all views have made by then.
-- So it can be said of what a view has seen whether it was so when the view looked.
use Rattle.std.specs.Prelude.{◌≡◌, ◌≢◌, ℕ, ◌<◌, ◌≤◌, ◌⊎◌, Bool, List, [], ◌∷◌, length, slice_index}
use Rattle.step_core.specs.Terms.{Best, ChildOf, Count, Counter, FirstOf, MayBecome, Note, PointOf, RecordOf, SharedRun, TreeOf, View, Word, Words, get_elem?}
use Rattle.step_core.specs.Terms.{kind_of, place_of, some}
use Rattle.step_core.specs.Views.{last_look, last_zero, run_sizes, sees}

-- ---- words that others load
-- The words that passes load while others change them. Points, first words and records are written once, before they can be seen.
abbrev pub IsLoaded : SharedRun → Word → Type 0
IsLoaded run Count = Unit {0}
IsLoaded run Best = Unit {0}
IsLoaded run (Counter g) = g < run.strips
IsLoaded run (ChildOf n side) = n ≤ length run.marks
IsLoaded run (TreeOf n) = n ≤ length run.marks
IsLoaded run name = ⊥

-- each word as a view last saw it, the best word too
abbrev pub last_seen : View → Words
last_seen view Count = sees view Count
last_seen view Best = view.best
last_seen view (Counter g) = sees view (Counter g)
last_seen view (PointOf n) = sees view (PointOf n)
last_seen view (ChildOf n side) = sees view (ChildOf n side)
last_seen view (TreeOf n) = sees view (TreeOf n)
last_seen view (FirstOf n) = sees view (FirstOf n)
last_seen view (RecordOf k) = sees view (RecordOf k)

-- what such a word may become; the best word falls
abbrev pub GoesTo : Word → ℕ → ℕ → Type 0
GoesTo Count word later = MayBecome (kind_of Count) word later
GoesTo Best word later = later ≤ word
GoesTo (Counter g) word later = MayBecome (kind_of (Counter g)) word later
GoesTo (PointOf n) word later = MayBecome (kind_of (PointOf n)) word later
GoesTo (ChildOf n side) word later = MayBecome (kind_of (ChildOf n side)) word later
GoesTo (TreeOf n) word later = MayBecome (kind_of (TreeOf n)) word later
GoesTo (FirstOf n) word later = MayBecome (kind_of (FirstOf n)) word later
GoesTo (RecordOf k) word later = MayBecome (kind_of (RecordOf k)) word later

-- ---- notes
-- the note is one of the list
abbrev pub IsAmong : Note → List Note → Type 0
IsAmong note [] = ⊥
IsAmong note (first ∷ notes) = (first ≡ note) ⊎ IsAmong note notes

-- the view has this note
abbrev pub HasNoted : View → Note → Type 0
HasNoted view note = IsAmong note view.notes

-- the note is of this word
abbrev pub IsNoteOf : SharedRun → Word → Note → Type 0
IsNoteOf run name note = note.place ≡ place_of (run_sizes run) name

-- some view has it
pub record IsNoted (views : List View) (note : Note) : Type 0 where
  pub id : ℕ
  pub view : View
  pub at : get_elem? views id ≡ some view
  pub has : HasNoted view note

-- a word has a note with this property
pub record SomeNote (run : SharedRun) (views : List View) (name : Word) (has : Note → Type 0) : Type 0 where
  pub note : Note
  pub is_noted : IsNoted views note
  pub of_word : IsNoteOf run name note
  pub same : has note

-- ---- the law
-- The view at index i has made so many steps. A spent view says nothing of the steps that it had made.
abbrev pub HasMade : SharedRun → List View → ℕ → ℕ → Type 0
HasMade run views i steps = (steps ≡ 0) ⊎ ((view : View) × (get_elem? views i ≡ some view) × (view.run ≡ run → steps ≤ view.steps))

-- The tree word of a node, which the view has not seen, is as the node was placed: that was written before the node could be seen.
abbrev pub IsAsPlaced : Words → View → Word → Type 0
IsAsPlaced words view name = (n : ℕ) × (name ≡ TreeOf n) × (last_seen view (TreeOf n) ≡ 0) × (words (TreeOf n) ≡ words (FirstOf n))

-- No note tells of more steps of a view than it has made, and none of a view that is not there. What was left in a word may become what it is now.
-- Whoever has looked at the word since, by steps of its own, has seen at least that. If a view sees a word otherwise than it is, what it is was
-- noted, or is what its node was placed with.
pub record Notes (run : SharedRun) (words : Words) (views : List View) : Type 0 where
  pub made : (note : Note) → IsNoted views note → (i : ℕ) → HasMade run views i (slice_index note.steps i)
  pub still : (note : Note) → IsNoted views note → (name : Word) → IsLoaded run name → IsNoteOf run name note → GoesTo name note.word (words name)
  pub fresh : (i : ℕ) (view : View) → get_elem? views i ≡ some view → view.run ≡ run → (note : Note) → IsNoted views note → (name : Word)
      → IsLoaded run name → IsNoteOf run name note → slice_index note.steps i < last_look view name → GoesTo name note.word (last_seen view name)
  pub noted : (i : ℕ) (view : View) → get_elem? views i ≡ some view → view.run ≡ run → (name : Word) → IsLoaded run name
      → last_seen view name ≢ words name → IsAsPlaced words view name ⊎ SomeNote run views name (λ note. note.word ≡ words name)

-- If a place of a child is filled, no view has found it empty by a later step than those that it had made by then, as a note says.
abbrev pub Empties : SharedRun → Words → List View → Type 0
Empties run words views =
    (n : ℕ) (side : Bool) → words (ChildOf n side) ≢ 0 → (i : ℕ) (view : View) → get_elem? views i ≡ some view
    → (last_zero view (ChildOf n side) ≡ 0) ⊎ SomeNote run views (ChildOf n side) (λ note. last_zero view (ChildOf n side) ≤ slice_index note.steps i)

-- ---- one step
-- The view notes no place of a child that it did not note before.
abbrev pub FillsNoPlace : View → View → Type 0
FillsNoPlace view then = (n : ℕ) (side : Bool) (note : Note) → HasNoted then note → IsNoteOf view.run (ChildOf n side) note → HasNoted view note

-- Of this word it notes nothing but what it sees then.
abbrev pub NotesAsSeen : View → View → Word → Type 0
NotesAsSeen view then name = (note : Note) → HasNoted then note → IsNoteOf view.run name note → HasNoted view note ⊎ (note.word ≡ last_seen then name)

-- It has seen something of this word, if that is a tree word.
abbrev pub SeesSome : View → Word → Type 0
SeesSome view name = (n : ℕ) → name ≡ TreeOf n → last_seen view name ≢ 0

-- It knows of this word what it did.
abbrev pub KnowsAsBefore : View → View → Word → Type 0
KnowsAsBefore view then name = (last_look then name ≡ last_look view name) × (last_seen then name ≡ last_seen view name)
