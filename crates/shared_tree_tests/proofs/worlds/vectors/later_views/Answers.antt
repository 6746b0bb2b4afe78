use Rattle.shared_tree_tests.proofs.Words.{◌≡◌, ◌<◌, true, arith, refl, ap, inl, inr, ◌≢◌, ◌⊎◌, last_look, last_zero, run_sizes, sees, same_name, kind_of}
use Rattle.shared_tree_tests.proofs.Words.{Apart, Word, WritesWord, ChildOf, Count, Counter, AreBehind-refl, WritesWord-set, SharedRun, waited, claimed_table}
use Rattle.shared_tree_tests.proofs.Words.{idle, never, small_run}
use Rattle.grown_runs.specs.Table.WordPlaces.{word_at}
use Rattle.shared_tree_tests.proofs.worlds.vectors.later_views.Goals as goal

-- one word of each table of steps is another
count_alone : WritesWord Count 4 (last_look (idle claimed_table)) (last_look waited)
count_alone = WritesWord-set (run_sizes small_run) never 0 4 4 Count refl tt refl refl

child_alone : WritesWord (ChildOf 0 true) 5 (last_zero (idle claimed_table)) (last_zero waited)
child_alone = WritesWord-set (run_sizes small_run) never 5 5 5 (ChildOf 0 true) refl (omega arith) refl refl

-- the last look at the count alone is another
looked : (name : Word) → (last_look waited name ≡ last_look (idle claimed_table) name) ⊎ (3 < last_look waited name)
unfolding word_at
looked name =
    elim (same_name name Count) [
      | inl is ↦ rw is (inr (omega arith))
      | inr off ↦ inl (count_alone.others name off)
    ]

abbrev FindsZero : Word → Type 0
FindsZero name =
    (last_zero waited name ≡ last_zero (idle claimed_table) name) ⊎ ((3 < last_zero waited name) × (sees (idle claimed_table) name ≡ 0))

found : (name : Word) → kind_of name ≢ Apart → FindsZero name
unfolding word_at
found name own =
    elim (same_name name (ChildOf 0 true)) [
      | inl is ↦ rw is (inr (omega arith, refl))
      | inr off ↦ inl (child_alone.others name off)
    ]

pub returns : goal.returns
unfolding word_at
returns c = record {
  looked_and_found = record {
    run = refl;
    seen = AreBehind-refl (sees (idle claimed_table));
    best = omega arith;
    steps = omega arith;
    looked = looked;
    zero_found = found;
  };
  other_run = λ h. (let e : 1 ≡ 0 = ap (λ (r : SharedRun). r.opening) h.run in omega (arith, e));
  less_seen = λ h. omega (arith, h.seen (Counter 0));
  fewer_steps = λ h. omega (arith, h.steps);
  looked_by_an_earlier_step = λ h. omega (arith, h.looked Count);
  found_by_an_earlier_step = λ h. omega (arith, h.zero_found (ChildOf 0 true) (λ e. cc));
  best_rises = λ h. omega (arith, h.best);
  found_where_a_child_was = λ h. omega (arith, h.zero_found (ChildOf 0 true) (λ e. cc));
}
