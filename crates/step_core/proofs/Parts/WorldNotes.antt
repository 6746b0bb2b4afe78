-- The parts of the law of worlds on notes, and on places that were found empty, after a step of one view, a split and a join.
use Rattle.step_core.proofs.Words.{◌≡◌, ◌≢◌, ◌<◌, ◌≤◌, [], ◌∷◌, ◌++◌, ◌∙◌, ◌⊎◌, ℕ, zero, suc, Bool, true, false, List, set, refl, sym, ap, subst, inl, inr}
use Rattle.step_core.proofs.Words.{arith, cond, replicate, slice_index, cases_eq, some, some-ne-none, some-injective, get_elem?, Empties, GoesTo, HasMade}
use Rattle.step_core.proofs.Words.{HasNoted, IsAmong, IsAsPlaced, IsLoaded, IsNoted, IsNoteOf, KnowsAsBefore, Notes, SomeNote, last_seen, steps_by, saw}
use Rattle.step_core.proofs.Words.{stepped, steps_made, IsViewOf, last_look, last_zero, no_run, run_sizes, sees, spent, MayBecome, MayBecome-both}
use Rattle.step_core.proofs.Words.{MayBecome-refl, MayBecome-trans, kind_of, Sizes, has_word, place_of, Word, Words, Best, ChildOf, FirstOf, PointOf, RecordOf}
use Rattle.step_core.proofs.Words.{TreeOf, HasWord, IsWorld, Note, SharedRun, View, Falling}
use Rattle.grown_runs.specs.Table.WordPlaces.{word_at}
use Rattle.step_core.proofs.Seen.SeenByViews.{WritesWord-zero, last_zero-other}
use Rattle.step_core.proofs.Parts.Shifts.{IsShift, Shift, at-then, later_views, same_run}
use Rattle.step_core.proofs.Parts.ViewLists.{at-after_push, at-after_set, at-push, at-set, at-set_other, same-at}
use Rattle.step_core.proofs.Parts.WorldParts.{of_run-step}
use Rattle.step_core.proofs.Seen.SeenWords.{MayBecome-zero}

-- ---- tables of 0

-- each word of a list of zeros is 0
zeros : (n i : ℕ) → slice_index (replicate n 0) i ≡ 0
zeros zero i = refl
zeros (suc n) zero = refl
zeros (suc n) (suc i) = zeros n i

pub zero-read : (sizes : Sizes) (n : ℕ) (name : Word) → word_at sizes (replicate n 0) name ≡ 0
unfolding word_at
zero-read sizes n name = by_test (has_word sizes name)
  where
    by_test : (t : Bool) → cond t (slice_index (replicate n 0) (place_of sizes name)) 0 ≡ 0
    by_test true = zeros n (place_of sizes name)
    by_test false = refl

-- a spent view has found no word 0, and has looked at none
pub last_zero-spent : (name : Word) → last_zero spent name ≡ 0
last_zero-spent name = zero-read (run_sizes no_run) 0 name

pub last_look-spent : (name : Word) → last_look spent name ≡ 0
last_look-spent name = zero-read (run_sizes no_run) 0 name

-- A step on one word finds no other word 0, and that word only if it is.
pub last_zero-saw :
    (run : SharedRun) (view : View) → IsViewOf run view → (name : Word) → HasWord (run_sizes run) name → (found left : ℕ) (other : Word)
    → (other ≡ name → found ≢ 0) → last_zero (saw view name found left) other ≡ last_zero view other
last_zero-saw run view of_run name here found left other apart =
    elim (cases_eq found 0) [
      | inl none ↦ ap (λ f. last_zero (saw view name f left) other) none ∙ (WritesWord-zero run view of_run name here left).others other (λ e. apart e none)
      | inr some_word ↦ ap (λ z. z other) (last_zero-other run view of_run name here found left some_word)
    ]

-- ---- words that others load

-- such a word is one of the run's
pub HasWord-loaded : (run : SharedRun) (name : Word) → IsLoaded run name → HasWord (run_sizes run) name
HasWord-loaded run (PointOf n) may = absurd may
HasWord-loaded run (FirstOf n) may = absurd may
HasWord-loaded run (RecordOf k) may = absurd may
HasWord-loaded run name may = may

-- what is seen of any word but the best
pub last_seen-table : (view : View) (name : Word) → name ≢ Best → last_seen view name ≡ sees view name
last_seen-table view Best off = absurd (off refl)
last_seen-table view name off = refl

-- what such a word may become
pub GoesTo-of : (name : Word) (word later : ℕ) → MayBecome (kind_of name) word later → (name ≡ Best → later ≤ word) → GoesTo name word later
GoesTo-of Best word later goes best = best refl
GoesTo-of name word later goes best = goes

pub GoesTo-refl : (name : Word) (word : ℕ) → GoesTo name word word
GoesTo-refl name word = GoesTo-of name word word (MayBecome-refl (kind_of name) word) (λ e. omega arith)

pub GoesTo-trans : (name : Word) (word later last : ℕ) → GoesTo name word later → GoesTo name later last → GoesTo name word last
GoesTo-trans Best word later last first next = omega (arith, first, next)
GoesTo-trans name word later last first next = MayBecome-trans (kind_of name) word later last first next

-- two words that may become one another are one
pub GoesTo-both : (name : Word) (word other : ℕ) → GoesTo name word other → GoesTo name other word → other ≡ word
GoesTo-both Best word other on back = omega (arith, on, back)
GoesTo-both name word other on back = MayBecome-both (kind_of name) (λ e. cc) word other on back

-- what a view saw of each word may become what it is
pub GoesTo-now :
    (run : SharedRun) (words : Words) (views : List View) → IsWorld run words views → (i : ℕ) (view : View) → get_elem? views i ≡ some view
    → view.run ≡ run → (name : Word) → GoesTo name (last_seen view name) (words name)
GoesTo-now run words views world i view at own Best = (world.bests i view at own).falls
GoesTo-now run words views world i view at own name = world.seen.behind i view at name

-- and what one view saw may become what another sees, if that is so of each word
pub GoesTo-seen :
    (one other : View) (name : Word) → MayBecome (kind_of name) (sees one name) (sees other name) → other.best ≤ one.best
    → GoesTo name (last_seen one name) (last_seen other name)
GoesTo-seen one other Best goes falls = falls
GoesTo-seen one other name goes falls = goes

-- ---- steps that views have made

steps_made-at : (l : List View) (i : ℕ) (u : View) → get_elem? l i ≡ some u → slice_index (steps_made l) i ≡ u.steps
steps_made-at [] i u e = absurd (some-ne-none u (sym e))
steps_made-at (x ∷ l) zero u e = ap (λ v. v.steps) (some-injective x u e)
steps_made-at (x ∷ l) (suc i) u e = steps_made-at l i u e

steps_made-of : (l : List View) (i : ℕ) → (slice_index (steps_made l) i ≡ 0) ⊎ ((u : View) × (get_elem? l i ≡ some u))
steps_made-of [] i = inl refl
steps_made-of (x ∷ l) zero = inr (x, refl)
steps_made-of (x ∷ l) (suc i) = steps_made-of l i

-- ---- a step of one view

-- A note of this step: the steps by then, and what is left in the word.
abbrev pub IsNewNote : Shift → Note → Type 0
IsNewNote s note = (note.steps ≡ steps_by s.now) × ((name : Word) → IsLoaded s.now.run name → IsNoteOf s.now.run name note → note.word ≡ s.after name)

-- a tree word that was 0, and is as the first word is
abbrev pub IsWrittenTree : Words → Words → Word → Type 0
IsWrittenTree before after name = (n : ℕ) × (name ≡ TreeOf n) × (before (TreeOf n) ≡ 0) × (after (TreeOf n) ≡ after (FirstOf n))

-- what is left in the word is noted
abbrev pub IsNotedThen : Shift → Word → Type 0
IsNotedThen s name = (note : Note) × HasNoted s.then note × IsNoteOf s.now.run name note × (note.word ≡ s.after name)

-- the view knows of the word what it did, or sees it as it is
abbrev pub SeesAsItIs : Shift → Word → Type 0
SeesAsItIs s name = KnowsAsBefore s.now.view s.then name ⊎ (last_seen s.then name ≡ s.after name)

-- What a step notes of the words that others load: it keeps what is noted, and notes what it changes, but for the tree word of a node that nobody has
-- seen.
pub record LeavesNotes (s : Shift) : Type 0 where
  pub keeps : (note : Note) → HasNoted s.now.view note → HasNoted s.then note
  pub only : (note : Note) → HasNoted s.then note → HasNoted s.now.view note ⊎ IsNewNote s note
  pub words : (name : Word) → IsLoaded s.now.run name → (s.after name ≡ s.now.words name) ⊎ (IsWrittenTree s.now.words s.after name ⊎ IsNotedThen s name)
  pub firsts : (n : ℕ) → s.now.words (TreeOf n) ≢ 0 → s.after (FirstOf n) ≡ s.now.words (FirstOf n)
  pub sees : (name : Word) → IsLoaded s.now.run name → SeesAsItIs s name

module _ {s : Shift} (is : IsShift s) (step : LeavesNotes s) where
  abbrev run : SharedRun
  run = s.now.run

  abbrev before : Words
  before = s.now.words

  abbrev after : Words
  after = s.after

  abbrev later : List View
  later = later_views s

  world : IsWorld run before s.now.views
  world = is.moment.world

  goes : (name : Word) → GoesTo name (before name) (after name)
  goes name = GoesTo-of name (before name) (after name) (is.go name) (λ e. subst (λ m. after m ≤ before m) (sym e) is.best)

  -- all notes are there still
  stays : (note : Note) → IsNoted s.now.views note → IsNoted later note
  stays note old =
      elim (same-at s.now.views old.id s.now.id old.view s.now.view old.at is.moment.at) [
        | inl (same, own) ↦ record { id = s.now.id; view = s.then; at = at-then is; has = step.keeps note (subst (λ u. HasNoted u note) own old.has) }
        | inr apart ↦ record { id = old.id; view = old.view; at = at-set_other s.now.views s.now.id old.id s.then apart ∙ old.at; has = old.has }
      ]

  -- and no others but those of this step
  was : (note : Note) → IsNoted later note → IsNoted s.now.views note ⊎ IsNewNote s note
  was note now =
      elim (at-after_set s.now.views s.now.id now.id s.then now.view now.at) [
        | inr other ↦ inl (record { id = now.id; view = now.view; at = other.1; has = now.has })
        | inl own ↦ elim (step.only note (subst (λ u. HasNoted u note) (sym own.1) now.has)) [
          | inl old ↦ inl (record { id = s.now.id; view = s.now.view; at = is.moment.at; has = old })
          | inr new ↦ inr new
        ]
      ]

  HasMade-set : (i made : ℕ) → HasMade run s.now.views i made → HasMade run later i made
  HasMade-set i made (inl none) = inl none
  HasMade-set i made (inr (u, there, most)) =
      elim (same-at s.now.views i s.now.id u s.now.view there is.moment.at) [
        | inl (same, own) ↦
            let steps = ap (λ v. v.steps) own in
            inr (
              s.then,
              ap (get_elem? later) same ∙ at-then is,
              λ of. omega (arith, most (ap (λ v. v.run) own ∙ sym (same_run is) ∙ of), steps, is.one_more),
            )
        | inr apart ↦ inr (u, at-set_other s.now.views s.now.id i s.then apart ∙ there, most)
      ]

  -- a view has made so many steps by then
  steps_now : (i : ℕ) (u : View) → get_elem? later i ≡ some u → slice_index (steps_by s.now) i ≡ u.steps
  steps_now i u e =
      elim (at-after_set s.now.views s.now.id i s.then u e) [
        | inl own ↦
            steps_made-at (set s.now.views s.now.id (stepped s.now.view)) i (stepped s.now.view)
            (ap (get_elem? (set s.now.views s.now.id (stepped s.now.view))) own.0 ∙ at-set s.now.views s.now.id s.now.view (stepped s.now.view)
            is.moment.at) ∙ sym is.one_more ∙ ap (λ v. v.steps) own.1
        | inr other ↦ steps_made-at (set s.now.views s.now.id (stepped s.now.view)) i u (at-set_other s.now.views s.now.id i (stepped s.now.view) other.0 ∙
            other.1)
      ]

  HasMade-now : (i : ℕ) → HasMade run later i (slice_index (steps_by s.now) i)
  HasMade-now i =
      elim (steps_made-of (set s.now.views s.now.id (stepped s.now.view)) i) [
        | inl none ↦ inl none
        | inr (u, e) ↦ elim (at-after_set s.now.views s.now.id i (stepped s.now.view) u e) [
          | inl own ↦ (
              let there : get_elem? later i ≡ some s.then = ap (get_elem? later) own.0 ∙ at-then is in
              inr (s.then, there, λ of. omega (arith, steps_now i s.then there)))
          | inr other ↦ (
              let there : get_elem? later i ≡ some u = at-set_other s.now.views s.now.id i s.then other.0 ∙ other.1 in
              inr (u, there, λ of. omega (arith, steps_now i u there)))
        ]
      ]

  -- each view is of the run, or spent: it has looked by none but steps that it has made
  looks_made : (i : ℕ) (u : View) → get_elem? later i ≡ some u → (name : Word) → (last_look u name ≤ u.steps) × (last_zero u name ≤ u.steps)
  looks_made i u e name =
      elim (of_run-step is i u e) [
        | inr live ↦ (live.looks name, live.zero_looks name)
        | inl gone ↦ (
          omega (arith, ap (λ v. last_look v name) gone, last_look-spent name),
          omega (arith, ap (λ v. last_zero v name) gone, last_zero-spent name),
        )
      ]

  still_then : (note : Note) → IsNoted later note → (name : Word) → IsLoaded run name → IsNoteOf run name note → GoesTo name note.word (after name)
  still_then note now name may of =
      elim (was note now) [
        | inl old ↦ GoesTo-trans name note.word (before name) (after name) (world.notes.still note old name may of) (goes name)
        | inr new ↦ subst (GoesTo name note.word) (new.1 name may of) (GoesTo-refl name note.word)
      ]

  fresh_then :
      (i : ℕ) (u : View) → get_elem? later i ≡ some u → u.run ≡ run → (note : Note) → IsNoted later note → (name : Word) → IsLoaded run name
      → IsNoteOf run name note → slice_index note.steps i < last_look u name → GoesTo name note.word (last_seen u name)
  fresh_then i u e live note now name may of low =
      elim (was note now) [
        | inr new ↦ absurd (omega (arith, low, ap (λ l. slice_index l i) new.0, steps_now i u e, (looks_made i u e name).0))
        | inl old ↦ elim (at-after_set s.now.views s.now.id i s.then u e) [
          | inr other ↦ world.notes.fresh i u other.1 live note old name may of low
          | inl own ↦ subst (λ v. GoesTo name note.word (last_seen v name)) own.1 (elim (step.sees name may) [
            | inr as_it_is ↦ subst (GoesTo name note.word) (sym as_it_is) (still_then note now name may of)
            | inl knows ↦
                subst (GoesTo name note.word) (sym knows.1) (world.notes.fresh s.now.id s.now.view is.moment.at is.moment.own note old name may of
                (omega (arith, low, ap (slice_index note.steps) own.0, ap (λ v. last_look v name) own.1, knows.0)))
          ])
        ]
      ]

  -- A view that sees a word otherwise than it is knew so much of it before.
  knew : (i : ℕ) (u : View) → get_elem? later i ≡ some u → u.run ≡ run → (name : Word) → IsLoaded run name → last_seen u name ≢ after name
      → (j : ℕ) × (v : View) × (get_elem? s.now.views j ≡ some v) × (v.run ≡ run) × (last_seen u name ≡ last_seen v name)
  knew i u e live name may differs =
      elim (at-after_set s.now.views s.now.id i s.then u e) [
        | inr other ↦ (i, u, other.1, live, refl)
        | inl own ↦ elim (step.sees name may) [
          | inl knows ↦ (s.now.id, s.now.view, is.moment.at, is.moment.own, ap (λ v. last_seen v name) (sym own.1) ∙ knows.1)
          | inr as_it_is ↦ absurd (differs (ap (λ v. last_seen v name) (sym own.1) ∙ as_it_is))
        ]
      ]

  noted_then :
      (i : ℕ) (u : View) → get_elem? later i ≡ some u → u.run ≡ run → (name : Word) → IsLoaded run name → last_seen u name ≢ after name
      → IsAsPlaced after u name ⊎ SomeNote run later name (λ note. note.word ≡ after name)
  noted_then i u e live name may differs =
      let (j, v, at, own, seen) = knew i u e live name may differs in
      elim (step.words name may) [
        | inr (inr (note, has, of, left)) ↦
            inr (record { note = note; is_noted = record { id = s.now.id; view = s.then; at = at-then is; has = has }; of_word = of; same = left })
        | inr (inl (n, is_tree, none, placed)) ↦
            inl (
              n,
              is_tree,
              subst (λ m. last_seen u m ≡ last_seen v m) is_tree seen
                  ∙ MayBecome-zero Falling (λ e. cc) (sees v (TreeOf n))
                  (subst (MayBecome Falling (sees v (TreeOf n))) none (world.seen.behind j v at (TreeOf n))),
              placed,
            )
        | inl same ↦ elim (world.notes.noted j v at own name may (λ as_it_is. differs (seen ∙ as_it_is ∙ sym same))) [
          | inr old ↦ inr (record {
            note = old.note;
            is_noted = stays old.note old.is_noted;
            of_word = old.of_word;
            same = old.same ∙ sym same;
          })
          | inl (n, is_tree, none, placed) ↦ (
              let seen_none : last_seen u (TreeOf n) ≡ 0 = subst (λ m. last_seen u m ≡ last_seen v m) is_tree seen ∙ none in
              let same_tree : after (TreeOf n) ≡ before (TreeOf n) = subst (λ m. after m ≡ before m) is_tree same in
              let apart : last_seen u (TreeOf n) ≢ after (TreeOf n) = subst (λ m. last_seen u m ≢ after m) is_tree differs in
              inl (n, is_tree, seen_none, same_tree ∙ placed ∙ sym (step.firsts n (λ gone. apart (seen_none ∙ sym gone ∙ sym same_tree)))))
        ]
      ]

  pub Notes-step : Notes run after later
  Notes-step = record { made = made; still = still_then; fresh = fresh_then; noted = noted_then }
    where
      made : (note : Note) → IsNoted later note → (i : ℕ) → HasMade run later i (slice_index note.steps i)
      made note now i =
          elim (was note now) [
            | inl old ↦ HasMade-set i (slice_index note.steps i) (world.notes.made note old i)
            | inr new ↦ subst (λ l. HasMade run later i (slice_index l i)) (sym new.0) (HasMade-now i)
          ]

  -- A place that is filled was so, and the view has not found it empty by this step; or this step notes it.
  pub Empties-step :
      ((n : ℕ) (side : Bool) → after (ChildOf n side) ≢ 0
      → ((before (ChildOf n side) ≢ 0) × (last_zero s.then (ChildOf n side) ≡ last_zero s.now.view (ChildOf n side)))
      ⊎ ((note : Note) × HasNoted s.then note × IsNoteOf run (ChildOf n side) note × (note.steps ≡ steps_by s.now))) → Empties run after later
  Empties-step fills n side some_child i u e =
      elim (fills n side some_child) [
        | inr (note, has, of, then_steps) ↦ inr (record {
          note = note;
          is_noted = record { id = s.now.id; view = s.then; at = at-then is; has = has };
          of_word = of;
          same = omega (arith, (looks_made i u e (ChildOf n side)).1, steps_now i u e, ap (λ l. slice_index l i) then_steps);
        })
        | inl old ↦ elim (at-after_set s.now.views s.now.id i s.then u e) [
          | inr other ↦ as_before i u refl (world.empties n side old.0 i u other.1)
          | inl own ↦
              as_before i s.now.view (ap (λ v. last_zero v (ChildOf n side)) (sym own.1) ∙ old.1)
              (world.empties n side old.0 i s.now.view (ap (get_elem? s.now.views) own.0 ∙ is.moment.at))
        ]
      ]
    where
      as_before :
          (j : ℕ) (v : View) → last_zero u (ChildOf n side) ≡ last_zero v (ChildOf n side) → (last_zero v (ChildOf n side) ≡ 0)
          ⊎ SomeNote run s.now.views (ChildOf n side) (λ note. last_zero v (ChildOf n side) ≤ slice_index note.steps j)
          → (last_zero u (ChildOf n side) ≡ 0) ⊎ SomeNote run later (ChildOf n side) (λ note. last_zero u (ChildOf n side) ≤ slice_index note.steps j)
      as_before j v same (inl never) = inl (same ∙ never)
      as_before j v same (inr old) =
          inr (record {
            note = old.note;
            is_noted = stays old.note old.is_noted;
            of_word = old.of_word;
            same = omega (arith, same, old.same);
          })

-- ---- splits and joins

-- Of other views with the same notes it is asked that none says to have made fewer steps, and that each has looked as one did at its place, or has not
-- looked at the word, and sees of it what one of them saw.
module _ (run : SharedRun) (words : Words) (views last : List View) (stays : (note : Note) → IsNoted views note → IsNoted last note)
    (was : (note : Note) → IsNoted last note → IsNoted views note) where
  some_still : (name : Word) (has other : Note → Type 0) → ((note : Note) → has note → other note) → SomeNote run views name has → SomeNote run last name other
  some_still name has other on old = record { note = old.note; is_noted = stays old.note old.is_noted; of_word = old.of_word; same = on old.note old.same }

  pub Notes-views :
      Notes run words views → ((i steps : ℕ) → HasMade run views i steps → HasMade run last i steps)
      → ((i : ℕ) (u : View) → get_elem? last i ≡ some u → u.run ≡ run → (name : Word) → (last_look u name ≡ 0)
      ⊎ ((v : View) × (get_elem? views i ≡ some v) × (v.run ≡ run) × (last_look u name ≡ last_look v name) × GoesTo name (last_seen v name) (last_seen u name)))
      → ((i : ℕ) (u : View) → get_elem? last i ≡ some u → u.run ≡ run → (name : Word)
      → (j : ℕ) × (v : View) × (get_elem? views j ≡ some v) × (v.run ≡ run) × (last_seen u name ≡ last_seen v name)) → Notes run words last
  Notes-views notes made looks sees_from = record {
    made = λ note now i. made i (slice_index note.steps i) (notes.made note (was note now) i);
    still = λ note now. notes.still note (was note now);
    fresh = λ i u e live note now name may of low.
        elim (looks i u e live name) [
          | inl none ↦ absurd (omega (arith, low, none))
          | inr (v, at, own, same, goes) ↦
              GoesTo-trans name note.word (last_seen v name) (last_seen u name)
              (notes.fresh i v at own note (was note now) name may of (omega (arith, low, same))) goes
        ];
    noted = λ i u e live name may differs.
        let (j, v, at, own, seen) = sees_from i u e live name in
        elim (notes.noted j v at own name may (λ is. differs (seen ∙ is))) [
          | inl (n, is, none, first) ↦ inl (n, is, subst (λ m. last_seen u m ≡ last_seen v m) is seen ∙ none, first)
          | inr old ↦ inr (some_still name (λ note. note.word ≡ words name) (λ note. note.word ≡ words name) (λ note same. same) old)
        ];
  }

  pub Empties-views :
      Empties run words views → ((i : ℕ) (u : View) → get_elem? last i ≡ some u → (name : Word)
      → (last_zero u name ≡ 0) ⊎ ((v : View) × (get_elem? views i ≡ some v) × (last_zero u name ≡ last_zero v name))) → Empties run words last
  Empties-views empties zeros_from n side some_child i u e =
      elim (zeros_from i u e (ChildOf n side)) [
        | inl none ↦ inl none
        | inr (v, at, same) ↦ elim (empties n side some_child i v at) [
          | inl never ↦ inl (same ∙ never)
          | inr old ↦ inr (some_still (ChildOf n side) (λ note. last_zero v (ChildOf n side) ≤ slice_index note.steps i)
              (λ note. last_zero u (ChildOf n side) ≤ slice_index note.steps i) (λ note low. omega (arith, same, low)) old)
        ]
      ]

-- One view more, which has noted nothing, has looked at nothing, and has seen as much as another.
module _ (run : SharedRun) (words : Words) (views : List View) (right : View) (none : right.notes ≡ []) where
  abbrev more : List View
  more = views ++ right ∷ []

  was_noted : (note : Note) → IsNoted more note → IsNoted views note
  was_noted note now =
      elim (at-after_push views right now.view now.id now.at) [
        | inl there ↦ record { id = now.id; view = now.view; at = there; has = now.has }
        | inr same ↦ absurd (subst (IsAmong note) (ap (λ v. v.notes) (sym same) ∙ none) now.has)
      ]

  noted_still : (note : Note) → IsNoted views note → IsNoted more note
  noted_still note old = record { id = old.id; view = old.view; at = at-push views right old.view old.id old.at; has = old.has }

  pub Notes-push :
      Notes run words views → ((name : Word) → last_look right name ≡ 0) → (j : ℕ) (v : View) → get_elem? views j ≡ some v → v.run ≡ run
      → ((name : Word) → last_seen right name ≡ last_seen v name) → Notes run words more
  Notes-push notes looks j v at own alike =
      Notes-views run words views more noted_still was_noted notes made (λ i u e live name.
      elim (at-after_push views right u i e) [
        | inl there ↦ inr (u, there, live, refl, GoesTo-refl name (last_seen u name))
        | inr same ↦ inl (ap (λ w. last_look w name) (sym same) ∙ looks name)
      ]) (λ i u e live name.
      elim (at-after_push views right u i e) [
        | inl there ↦ (i, u, there, live, refl)
        | inr same ↦ (j, v, at, own, ap (λ w. last_seen w name) (sym same) ∙ alike name)
      ])
    where
      made : (i steps : ℕ) → HasMade run views i steps → HasMade run more i steps
      made i steps (inl none) = inl none
      made i steps (inr (u, there, most)) = inr (u, at-push views right u i there, most)

  pub Empties-push : Empties run words views → ((name : Word) → last_zero right name ≡ 0) → Empties run words more
  Empties-push empties zero_looks =
      Empties-views run words views more noted_still was_noted empties (λ i u e name.
      elim (at-after_push views right u i e) [
        | inl there ↦ inr (u, there, refl)
        | inr same ↦ inl (ap (λ v. last_zero v name) (sym same) ∙ zero_looks name)
      ])

-- notes of two lists
among_left : (note : Note) (one other : List Note) → IsAmong note one → IsAmong note (one ++ other)
among_left note [] other there = absurd there
among_left note (x ∷ one) other (inl here) = inl here
among_left note (x ∷ one) other (inr there) = inr (among_left note one other there)

among_right : (note : Note) (one other : List Note) → IsAmong note other → IsAmong note (one ++ other)
among_right note [] other there = there
among_right note (x ∷ one) other there = inr (among_right note one other there)

among_either : (note : Note) (one other : List Note) → IsAmong note (one ++ other) → IsAmong note one ⊎ IsAmong note other
among_either note [] other there = inr there
among_either note (x ∷ one) other (inl here) = inl (inl here)
among_either note (x ∷ one) other (inr there) =
    elim (among_either note one other there) [
      | inl mine ↦ inl (inr mine)
      | inr theirs ↦ inr theirs
    ]

-- The one has the notes of both, has looked as it had, and sees of each word what either saw; the other is spent.
module _ (run : SharedRun) (words : Words) (views : List View) (id : ℕ) (view : View) (j : ℕ) (other both : View) (at : get_elem? views id ≡ some view)
    (was : get_elem? views j ≡ some other) (apart : j ≢ id) (there : get_elem? (set views id both) j ≡ some other) (own : view.run ≡ run)
    (own_too : other.run ≡ run) (dead : no_run ≢ run) (same_run : both.run ≡ view.run) (more_steps : view.steps ≤ both.steps)
    (together : both.notes ≡ view.notes ++ other.notes) where
  abbrev middle : List View
  middle = set views id both

  abbrev last : List View
  last = set middle j spent

  at_both : get_elem? last id ≡ some both
  at_both = at-set_other middle j id spent (λ e. apart (sym e)) ∙ at-set views id view both at

  joined_stays : (note : Note) → IsNoted views note → IsNoted last note
  joined_stays note old =
      elim (same-at views old.id id old.view view old.at at) [
        | inl (same, is) ↦ has_both (among_left note view.notes other.notes (subst (λ u. HasNoted u note) is old.has))
        | inr off ↦ elim (same-at views old.id j old.view other old.at was) [
          | inl (same, is) ↦ has_both (among_right note view.notes other.notes (subst (λ u. HasNoted u note) is old.has))
          | inr off_too ↦ record {
            id = old.id;
            view = old.view;
            at = at-set_other middle j old.id spent off_too ∙ at-set_other views id old.id both off ∙ old.at;
            has = old.has;
          }
        ]
      ]
    where
      has_both : IsAmong note (view.notes ++ other.notes) → IsNoted last note
      has_both has = record { id = id; view = both; at = at_both; has = subst (IsAmong note) (sym together) has }

  joined_was : (note : Note) → IsNoted last note → IsNoted views note
  joined_was note now =
      elim (at-after_set middle j now.id spent now.view now.at) [
        | inl gone ↦ absurd (subst (λ u. HasNoted u note) (sym gone.1) now.has)
        | inr off ↦ elim (at-after_set views id now.id both now.view off.1) [
          | inr old ↦ record { id = now.id; view = now.view; at = old.1; has = now.has }
          | inl here ↦ elim (among_either note view.notes other.notes (subst (IsAmong note) together (subst (λ u. HasNoted u note) (sym here.1) now.has))) [
            | inl mine ↦ record { id = id; view = view; at = at; has = mine }
            | inr theirs ↦ record { id = j; view = other; at = was; has = theirs }
          ]
        ]
      ]

  made_after : (i steps : ℕ) → HasMade run views i steps → HasMade run last i steps
  made_after i steps (inl none) = inl none
  made_after i steps (inr (u, e, most)) =
      elim (same-at views i id u view e at) [
        | inl (same, is) ↦
            inr (
              both,
              ap (get_elem? last) same ∙ at_both,
              λ of. omega (
                arith,
                most (ap (λ v. v.run) is ∙ own),
                ap (λ v. v.steps) is,
                more_steps,
              ),
            )
        | inr off ↦ elim (cases_eq i j) [
          | inl same ↦ inr (spent, ap (get_elem? last) same ∙ at-set middle j other spent there, λ of. absurd (dead of))
          | inr off_too ↦ inr (u, at-set_other middle j i spent off_too ∙ at-set_other views id i both off ∙ e, most)
        ]
      ]

  -- a view of the run was there, or is the one that took the other over
  each_joined : (i : ℕ) (u : View) → get_elem? last i ≡ some u → u.run ≡ run → ((i ≡ id) × (both ≡ u)) ⊎ (get_elem? views i ≡ some u)
  each_joined i u e live =
      elim (at-after_set middle j i spent u e) [
        | inl gone ↦ absurd (dead (ap (λ v. v.run) gone.1 ∙ live))
        | inr off ↦ elim (at-after_set views id i both u off.1) [
          | inl here ↦ inl here
          | inr old ↦ inr old.1
        ]
      ]

  pub Notes-joined :
      Notes run words views → ((name : Word) → last_look both name ≡ last_look view name)
      → ((name : Word) → GoesTo name (last_seen view name) (last_seen both name))
      → ((name : Word) → (last_seen both name ≡ last_seen view name) ⊎ (last_seen both name ≡ last_seen other name)) → Notes run words last
  Notes-joined notes looks goes either =
      Notes-views run words views last joined_stays joined_was notes made_after (λ i u e live name.
      elim (each_joined i u e live) [
        | inr old ↦ inr (u, old, live, refl, GoesTo-refl name (last_seen u name))
        | inl here ↦ inr (
          view,
          ap (get_elem? views) here.0 ∙ at,
          own,
          ap (λ v. last_look v name) (sym here.1) ∙ looks name,
          subst (λ v. GoesTo name (last_seen view name) (last_seen v name)) here.1 (goes name),
        )
      ]) (λ i u e live name.
      elim (each_joined i u e live) [
        | inr old ↦ (i, u, old, live, refl)
        | inl here ↦ elim (either name) [
          | inl mine ↦ (id, view, at, own, ap (λ v. last_seen v name) (sym here.1) ∙ mine)
          | inr theirs ↦ (j, other, was, own_too, ap (λ v. last_seen v name) (sym here.1) ∙ theirs)
        ]
      ])

  pub Empties-joined : Empties run words views → ((name : Word) → last_zero both name ≡ last_zero view name) → Empties run words last
  Empties-joined empties looks =
      Empties-views run words views last joined_stays joined_was empties (λ i u e name.
      elim (at-after_set middle j i spent u e) [
        | inl gone ↦ inl (ap (λ v. last_zero v name) (sym gone.1) ∙ last_zero-spent name)
        | inr off ↦ elim (at-after_set views id i both u off.1) [
          | inr old ↦ inr (u, old.1, refl)
          | inl here ↦ inr (view, ap (get_elem? views) here.0 ∙ at, ap (λ v. last_zero v name) (sym here.1) ∙ looks name)
        ]
      ])
