-- Each word of a run has a place of its own. A word that is read from the list of a run's words, and one that is written there.
use Rattle.grown_runs.proofs.Words.{◌≡◌, ℕ, ◌<◌, true, false, List, length, get_or, arith, refl, sym, ap, ◌∙◌, inl, inr, ◌≢◌, slice_index, slice_set}
use Rattle.grown_runs.proofs.Words.{if◌then◌else◌, cases_Bool, lt-ltb, le-leb, ltb-true, leb-true, get_or_default, get_or-set_same, get_or-set_other, Word}
use Rattle.grown_runs.proofs.Words.{WritesWord, Count, Best, Counter, PointOf, ChildOf, TreeOf, FirstOf, RecordOf, Sizes, place_of, word_count, HasWord}
use Rattle.grown_runs.proofs.Words.{has_word}
use Rattle.grown_runs.specs.Table.WordPlaces.{word_at}

-- ---- places

-- Words of different names have different places.
pub place_of-once : (sizes : Sizes) (name other : Word) → HasWord sizes name → HasWord sizes other → place_of sizes name ≡ place_of sizes other → name ≡ other
place_of-once sizes Count Count here there e = refl
place_of-once sizes Best Best here there e = refl
place_of-once sizes (Counter g) (Counter h) here there e = ap Counter (omega (arith, e))
place_of-once sizes (PointOf n) (PointOf m) here there e = ap PointOf (omega (arith, e))
place_of-once sizes (ChildOf n false) (ChildOf m false) here there e = ap (λ i. ChildOf i false) (omega (arith, e))
place_of-once sizes (ChildOf n true) (ChildOf m true) here there e = ap (λ i. ChildOf i true) (omega (arith, e))
place_of-once sizes (TreeOf n) (TreeOf m) here there e = ap TreeOf (omega (arith, e))
place_of-once sizes (FirstOf n) (FirstOf m) here there e = ap FirstOf (omega (arith, e))
place_of-once sizes (RecordOf k) (RecordOf j) here there e = ap RecordOf (omega (arith, e))
place_of-once sizes name (ChildOf m true) here there e = absurd (omega arith)
place_of-once sizes name other here there e = absurd (omega arith)

-- each stands among the words
pub place_of-within : (sizes : Sizes) (name : Word) → HasWord sizes name → place_of sizes name < word_count sizes
place_of-within sizes Count here = omega arith
place_of-within sizes Best here = omega arith
place_of-within sizes (ChildOf n true) here = omega (arith, here)
place_of-within sizes name here = omega (arith, here)

-- ---- which words there are

has_word-has : (sizes : Sizes) (name : Word) → HasWord sizes name → has_word sizes name ≡ true
has_word-has sizes Count here = refl
has_word-has sizes Best here = refl
has_word-has sizes (Counter g) here = lt-ltb g sizes.strips here
has_word-has sizes (RecordOf k) here = lt-ltb k sizes.marks here
has_word-has sizes name here = le-leb _ sizes.marks here

pub HasWord-true : (sizes : Sizes) (name : Word) → has_word sizes name ≡ true → HasWord sizes name
HasWord-true sizes Count h = tt
HasWord-true sizes Best h = tt
HasWord-true sizes (Counter g) h = ltb-true g sizes.strips h
HasWord-true sizes (RecordOf k) h = ltb-true k sizes.marks h
HasWord-true sizes name h = leb-true _ sizes.marks h

-- ---- reading

-- a word that the run has stands at its place
pub word_at-has : (sizes : Sizes) (items : List ℕ) (name : Word) → HasWord sizes name → word_at sizes items name ≡ get_or items (place_of sizes name) 0
unfolding word_at
word_at-has sizes items name here = ap (λ b. if b then get_or items (place_of sizes name) 0 else 0) (has_word-has sizes name here)

-- any other is 0
pub word_at-false : (sizes : Sizes) (items : List ℕ) (name : Word) → has_word sizes name ≡ false → word_at sizes items name ≡ 0
unfolding word_at
word_at-false sizes items name none = ap (λ b. if b then get_or items (place_of sizes name) 0 else 0) none

pub word_at-none : (sizes : Sizes) (items : List ℕ) (name : Word) → ¬ HasWord sizes name → word_at sizes items name ≡ 0
word_at-none sizes items name none =
    elim (cases_Bool (has_word sizes name)) [
      | inl here ↦ absurd (none (HasWord-true sizes name here))
      | inr gone ↦ word_at-false sizes items name gone
    ]

-- what stands at its place within the list is the word
pub word-read : (sizes : Sizes) (items : List ℕ) (place x : ℕ) (name : Word) → length items ≡ word_count sizes → HasWord sizes name
    → place ≡ place_of sizes name → x ≡ get_or items place x → x ≡ word_at sizes items name
word-read sizes items place x name sized here found read =
    let within : place < length items = omega (arith, place_of-within sizes name here, sized, found) in
    read ∙ get_or_default items place x 0 within ∙ ap (λ i. get_or items i 0) found ∙ sym (word_at-has sizes items name here)

-- the same of a slice, which says 0 past its end
pub word-found :
    (sizes : Sizes) (items : List ℕ) (place : ℕ) (name : Word) → HasWord sizes name → place ≡ place_of sizes name
    → slice_index items place ≡ word_at sizes items name
word-found sizes items place name here found = ap (λ i. get_or items i 0) found ∙ sym (word_at-has sizes items name here)

-- ---- writing

-- What is written at the place of a word is that word, and all others stay.
pub WritesWord-set :
    (sizes : Sizes) (items : List ℕ) (place word value : ℕ) (name : Word) → length items ≡ word_count sizes → HasWord sizes name
    → place ≡ place_of sizes name → word ≡ value → WritesWord name value (word_at sizes items) (word_at sizes (slice_set items place word))
WritesWord-set sizes items place word value name sized here found is = record {
  here =
      let within : place < length items = omega (arith, place_of-within sizes name here, sized, found) in
      word_at-has sizes (slice_set items place word) name here ∙ ap (λ i. get_or (slice_set items place word) i 0) (sym found)
      ∙ get_or-set_same items place word 0 within ∙ is;
  others = others;
}
  where
    others : (other : Word) → other ≢ name → word_at sizes (slice_set items place word) other ≡ word_at sizes items other
    others other apart =
        elim (cases_Bool (has_word sizes other)) [
          | inl has ↦ (
              let there = HasWord-true sizes other has in
              word_at-has sizes (slice_set items place word) other there
              ∙ get_or-set_other items place (place_of sizes other) word 0 (λ e. apart (place_of-once sizes other name there here (e ∙ found)))
              ∙ sym (word_at-has sizes items other there))
          | inr none ↦ word_at-false sizes (slice_set items place word) other none ∙ sym (word_at-false sizes items other none)
        ]
