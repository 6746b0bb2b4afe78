-- What a view has seen after a step on one word: that word is as the step left it, and all others are as they were.
use Rattle.step_core.proofs.Words.{◌≡◌, ◌≢◌, ◌+◌, ◌≤◌, ◌∙◌, ◌==◌, ℕ, Bool, true, false, Option, List, length, refl, sym, ap, subst, inl, inr, arith, slice_set}
use Rattle.step_core.proofs.Words.{cond, eqb-false, eqb-true, ne_eqb, length-set, place_in, saw, with_best, IsViewOf, last_look, last_zero, run_sizes, sees}
use Rattle.step_core.proofs.Words.{words_of_run, Best, Word, Words, WritesWord, HasWord, word_count, WritesWord-set, Hand, Note, SharedRun, View}
use Rattle.step_core.proofs.Seen.Looks.{same_name}

-- a table of the view with one word set
abbrev table_set : View → List ℕ → Word → ℕ → Words
table_set view items name x = words_of_run view.run (slice_set items (place_in view name) x)

module _ (run : SharedRun) (view : View) (of_run : IsViewOf run view) (name : Word) (here : HasWord (run_sizes run) name) where
  own_word : HasWord (run_sizes view.run) name
  own_word = subst (λ r. HasWord (run_sizes r) name) (sym of_run.run_is) here

  own_count : word_count (run_sizes run) ≡ word_count (run_sizes view.run)
  own_count = ap (λ r. word_count (run_sizes r)) (sym of_run.run_is)

  writes_table : (items : List ℕ) (x : ℕ) → length items ≡ word_count (run_sizes run)
      → WritesWord name x (words_of_run view.run items) (table_set view items name x)
  writes_table items x sized = WritesWord-set (run_sizes view.run) items (place_in view name) x x name (sized ∙ own_count) own_word refl refl

  -- the word is seen as it was left
  pub WritesWord-saw : (found left : ℕ) → WritesWord name left (sees view) (sees (saw view name found left))
  WritesWord-saw found left = writes_table view.seen left of_run.seen

  -- and the step was the last on it
  pub WritesWord-looked : (found left : ℕ) → WritesWord name (view.steps + 1) (last_look view) (last_look (saw view name found left))
  WritesWord-looked found left = writes_table view.looked (view.steps + 1) of_run.looked

  -- if it found 0, it was the last that did
  pub WritesWord-zero : (left : ℕ) → WritesWord name (view.steps + 1) (last_zero view) (last_zero (saw view name 0 left))
  WritesWord-zero left = writes_table view.found_zero (view.steps + 1) of_run.found_zero

  -- and if not, the last is the same
  pub last_zero-other : (found left : ℕ) → found ≢ 0 → last_zero (saw view name found left) ≡ last_zero view
  last_zero-other found left some_word =
      ap (λ b. words_of_run view.run (cond b (slice_set view.found_zero (place_in view name) (view.steps + 1)) view.found_zero)) (ne_eqb found 0 some_word)

  -- the tables stay as long
  pub IsViewOf-saw : (found left : ℕ) → IsViewOf run (saw view name found left)
  IsViewOf-saw found left = record {
    run_is = of_run.run_is;
    seen = length-set view.seen (place_in view name) left ∙ of_run.seen;
    looked = length-set view.looked (place_in view name) (view.steps + 1) ∙ of_run.looked;
    found_zero = by_test (found == 0);
    looks = λ other.
        elim (same_name other name) [
          | inl e ↦ omega (arith, ap (last_look (saw view name found left)) e, (WritesWord-looked found left).here)
          | inr apart ↦ omega (arith, (WritesWord-looked found left).others other apart, of_run.looks other)
        ];
    zero_looks = λ other. zeros other (found == 0) refl;
  }
    where
      zeros : (other : Word) (b : Bool) → (found == 0) ≡ b → last_zero (saw view name found left) other ≤ view.steps + 1
      zeros other false e = omega (arith, ap (λ z. z other) (last_zero-other found left (eqb-false found 0 e)), of_run.zero_looks other)
      zeros other true e =
          let none : found ≡ 0 = eqb-true found 0 e in
          elim (same_name other name) [
            | inl same ↦
                omega (arith, ap (last_zero (saw view name found left)) same, ap (λ n. last_zero (saw view name n left) name) none, (WritesWord-zero left).here)
            | inr apart ↦
                omega (arith, ap (λ n. last_zero (saw view name n left) other) none, (WritesWord-zero left).others other apart, of_run.zero_looks other)
          ]

      by_test : (b : Bool) → length (cond b (slice_set view.found_zero (place_in view name) (view.steps + 1)) view.found_zero) ≡ word_count (run_sizes run)
      by_test true = length-set view.found_zero (place_in view name) (view.steps + 1) ∙ of_run.found_zero
      by_test false = of_run.found_zero

-- after a step on the best word that was the last on it, and the tables stay as long
module _ (run : SharedRun) (view : View) (of_run : IsViewOf run view) (best : ℕ) (next : Option Hand) (notes : List Note) where
  abbrev then : View
  then = record (with_best view best next) { notes = notes }

  pub WritesWord-look_best : WritesWord Best (view.steps + 1) (last_look view) (last_look then)
  WritesWord-look_best = writes_table run view of_run Best tt view.looked (view.steps + 1) of_run.looked

  pub IsViewOf-best : IsViewOf run then
  IsViewOf-best = record {
    run_is = of_run.run_is;
    seen = of_run.seen;
    looked = length-set view.looked (place_in view Best) (view.steps + 1) ∙ of_run.looked;
    found_zero = of_run.found_zero;
    looks = λ name.
        elim (same_name name Best) [
          | inl e ↦ omega (arith, ap (last_look then) e, WritesWord-look_best.here)
          | inr apart ↦ omega (arith, WritesWord-look_best.others name apart, of_run.looks name)
        ];
    zero_looks = λ name. omega (arith, of_run.zero_looks name);
  }
