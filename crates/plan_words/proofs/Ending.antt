-- From the last words of a table to the closed run that they are.
use Rattle.plan_words.proofs.Words.{◌≡◌, ◌≢◌, ℕ, zero, suc, ◌<◌, ◌≤◌, List, [], ◌∷◌, get_or, length, Some, None, sym, ap, ◌∙◌, subst, inl, inr, arith, is_some}
use Rattle.plan_words.proofs.Words.{cases_eq, cases_lt, Final, Seen, State, quota_of, AreSameRuns, Record, Task, HoldRun, cleared, record_at, run_words}
use Rattle.plan_words.proofs.Words.{sizes_of, state_of_words, state_of_grown, words_of_grown, sizes_in, words_in, Words, Counter, FirstOf, RecordOf, Sizes}
use Rattle.plan_words.proofs.Words.{record_of_word, AreSameRuns-trans, HasNoneLeft, Aim, Opening, HoldsWorld, run_of_opening, StandsAsSeen, state_of_links}
use Rattle.plan_words.proofs.Words.{run_of, run_sizes, sees, share, words_of_run, IsWorld, state_in, AreSameRuns-cleared, HoldRun-whole, StandsAsSeen-whole}
use Rattle.plan_words.proofs.Words.{own_workers-whole, Grown, RunWords, View}
use mathlib.Core.Option.{some, some-injective, some-ne-none}
use lib.ListN.{get_elem?}
use Rattle.grown_runs.specs.Table.WordPlaces.{word_at}
use Rattle.plan_words.proofs.WholeTrees.{AreSameRuns-whole}

-- an element that is there is read
pub read-there : (items : List ℕ) (i x d : ℕ) → get_elem? items i ≡ some x → get_or items i d ≡ x
read-there [] i x d e = absurd (some-ne-none x (sym e))
read-there (y ∷ items) zero x d e = some-injective y x e
read-there (y ∷ items) (suc i) x d e = read-there items i x d e

-- the rule of the table, with the view of a seat
abbrev pub EndsWith : Opening → ℕ → View → State Aim View → Type 0
EndsWith key id view = Seen (λ s. HoldsWorld (run_of_opening key) s.words s.views) id view

module _ (task : Task) (workers opening : ℕ) (key : Opening) (view : View) (id : ℕ) (items : List ℕ) (slots : List Aim)
    (key_is : run_of_opening key ≡ run_of task workers opening) (own : view.run ≡ run_of task workers opening)
    (final : Final (EndsWith key id view) items slots) (whole : share view ≡ workers) (idle : view.hand ≡ None) (left : HasNoneLeft view) where
  abbrev words : Words
  words = run_words task items

  views : List View
  views = final.0.views

  world : IsWorld (run_of task workers opening) words final.0.views
  world =
      subst (λ list. IsWorld (run_of task workers opening) (run_words task list) final.0.views) final.2
      (subst (λ run. IsWorld run (words_of_run run final.0.words) final.0.views) key_is final.1.0.world)

  full : (g : ℕ) → g < task.scene.strips → quota_of task.scene.strips g left.limit ≤ sees view (Counter g)
  full = subst (λ run. (g : ℕ) → g < run.strips → quota_of run.strips g left.limit ≤ sees view (Counter g)) own left.full

  -- they are those of a closed run
  pub HoldRun-ended : HoldRun task view.most (cleared words)
  HoldRun-ended = HoldRun-whole task workers opening words final.0.views id view world final.1.1 whole idle left.limit left.most full

  pub StandsAsSeen-ended : StandsAsSeen view (state_of_words (sizes_of task) (cleared words))
  StandsAsSeen-ended = StandsAsSeen-whole task workers opening words final.0.views id view world final.1.1 whole idle left.limit left.most full own

  pub own_workers-ended : (k : ℕ) (entry : Record) → opening ≤ k → record_at (cleared words) k ≡ Some entry → entry.worker < workers
  own_workers-ended = own_workers-whole task workers opening words final.0.views id view world final.1.1 whole idle left.limit left.most full

  -- what they are of is the run that the pass has seen
  pub AreSameRuns-ended : AreSameRuns (state_of_links (run_sizes view.run) (sees view)) (state_of_words (sizes_of task) (cleared words))
  AreSameRuns-ended =
      AreSameRuns-trans (state_of_links (run_sizes view.run) (sees view)) (state_in (run_of task workers opening) words)
      (state_of_words (sizes_of task) (cleared words))
      (AreSameRuns-whole (run_of task workers opening) words final.0.views id view world final.1.1 own whole)
      (AreSameRuns-cleared task workers opening words final.0.views id view world final.1.1 whole idle left.limit left.most full)

-- its limit is the least mark without a record
pub limit-ended :
    (task : Task) (last limit : ℕ) (words : Words) → HoldRun task last (cleared words) → ((k : ℕ) → k < limit → words (RecordOf k) ≢ 0)
    → (limit < length task.marks → words (RecordOf limit) ≡ 0) → limit ≤ length task.marks → limit ≡ last
limit-ended task last limit words held before first most =
    elim (cases_lt limit last) [
      | inl less ↦ (
          let none = first (omega (arith, less, held.closed.within)) in
          let recorded = held.closed.records.recorded limit less in
          let gone = sym (ap (λ w. is_some (record_of_word w (cleared words (FirstOf (suc limit))))) none) ∙ recorded in
          cc)
      | inr enough ↦ elim (cases_eq limit last) [
        | inl same ↦ same
        | inr apart ↦ absurd (before last (omega (arith, enough, apart)) (held.unrecorded last (omega arith)))
      ]
    ]

-- the same by the words as they were looked at
pub limit-found :
    (task : Task) (last limit : ℕ) (sizes : Sizes) (shown words : Words) → sizes ≡ sizes_of task → shown ≡ words
    → HoldRun task last (cleared words) → ((k : ℕ) → k < limit → shown (RecordOf k) ≢ 0)
    → (limit < sizes.marks → shown (RecordOf limit) ≡ 0) → limit ≤ sizes.marks → limit ≡ last
limit-found task last limit sizes shown words of_task same held before first most =
    let marks : sizes.marks ≡ length task.marks = ap (λ s. s.marks) of_task in
    limit-ended task last limit words held (λ k low none. before k low (ap (λ w. w (RecordOf k)) same ∙ none))
    (λ low. sym (ap (λ w. w (RecordOf limit)) same) ∙ first (omega (arith, low, marks))) (omega (arith, most, marks))

-- words of the task that were copied are those of the table
pub words-copied :
    (task : Task) (words : RunWords) (items : List ℕ) → sizes_in words.places ≡ sizes_of task → words.list.items ≡ items
    → words_in words ≡ run_words task items
words-copied task words items of_task copied = ap (λ s. word_at s words.list.items) of_task ∙ ap (run_words task) copied

-- what stands in the words stands in the run that is made of them
pub stands_in_run :
    (task : Task) (view : View) (items : List ℕ) (shown : View) (grown : Grown) → view ≡ shown → grown.task ≡ task
    → words_of_grown grown ≡ cleared (run_words task items) → StandsAsSeen view (state_of_words (sizes_of task) (cleared (run_words task items)))
    → StandsAsSeen shown (state_of_grown grown)
stands_in_run task view items shown grown same of_task words stands =
    subst (λ v. StandsAsSeen v (state_of_grown grown)) same
    (subst (λ t. StandsAsSeen view (state_of_words (sizes_of t) (words_of_grown grown))) (sym of_task)
    (subst (λ w. StandsAsSeen view (state_of_words (sizes_of task) w)) (sym words) stands))

-- and what the words are of is that run
pub same_in_run :
    (task : Task) (view : View) (items : List ℕ) (shown : View) (grown : Grown) → view ≡ shown → grown.task ≡ task
    → words_of_grown grown ≡ cleared (run_words task items)
    → AreSameRuns (state_of_links (run_sizes view.run) (sees view)) (state_of_words (sizes_of task) (cleared (run_words task items)))
    → AreSameRuns (state_of_links (run_sizes shown.run) (sees shown)) (state_of_grown grown)
same_in_run task view items shown grown same of_task words same_run =
    subst (λ v. AreSameRuns (state_of_links (run_sizes v.run) (sees v)) (state_of_grown grown)) same
    (subst (λ t. AreSameRuns (state_of_links (run_sizes view.run) (sees view)) (state_of_words (sizes_of t) (words_of_grown grown))) (sym of_task)
    (subst (λ w. AreSameRuns (state_of_links (run_sizes view.run) (sees view)) (state_of_words (sizes_of task) w)) (sym words) same_run))
