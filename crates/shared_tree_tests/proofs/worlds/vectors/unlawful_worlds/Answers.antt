use Rattle.shared_tree_tests.proofs.Words.{◌≡◌, ℕ, ◌+◌, ◌<◌, ◌≤◌, ◌^◌, true, false, List, Some, None, [], ◌∷◌, arith, refl, sym, ap, subst, inl, inr}
use Rattle.shared_tree_tests.proofs.Words.{◌⊎◌, slice_index, slice_set, placed_by, at, Word, Best, ChildOf, Count, Counter, TreeOf}
use Rattle.shared_tree_tests.proofs.Words.{place_of, best_word, no_best, point_word, tree_word, new_hand, IsViewOf, last_look, last_seen, run_sizes, sees}
use Rattle.shared_tree_tests.proofs.Words.{share, spent, HasMade, IsLoaded, GoesTo, IsAmong, IsNoted, Hand, Note, Half, Linked}
use Rattle.shared_tree_tests.proofs.Words.{Pointed, Posted, Treed, View, AreLawfulLooks, filled_at, hand_at, idle, linked_table, never, small_run, took_best}
use Rattle.shared_tree_tests.proofs.Words.{view_with, worker_at}
use mathlib.Core.Option.{some-injective}
use Rattle.shared_tree_tests.proofs.SmallRuns.MarkEdge.{both, edge}
use Rattle.plan_model.specs.Geometry.Lengths.{root_ceiling}
use Rattle.grown_runs.specs.Table.WordPlaces.{word_at}
use Rattle.shared_tree_tests.proofs.worlds.vectors.unlawful_worlds.Goals as goal

-- a view with a share is not spent
of_run : (view : View) → share view ≡ 1 → (view ≡ spent) ⊎ IsViewOf small_run view → IsViewOf small_run view
of_run view part (inl e) = absurd (omega (arith, part, ap share e))
of_run view part (inr h) = h

-- what was left at a place before the other looked there, it has seen
seen_since :
    {items seen : List ℕ} {hand : Hand} {place word : ℕ} → AreLawfulLooks items hand place word seen → (name : Word) → IsLoaded small_run name
    → place ≡ place_of (run_sizes small_run) name → last_look (record (idle seen) { looked = slice_set never place 3 }) name ≡ 3
    → GoesTo name word (last_seen (record (idle seen) { looked = slice_set never place 3 }) name)
seen_since {items} {seen} {hand} {place} {word} h name may of looked =
    h.notes.fresh 1 _ refl refl (record { place = place; word = word; steps = 3 ∷ 2 ∷ [] }) (record { id = 0; view = _; at = refl; has = inl refl }) name may of
    (omega (arith, looked))

made_four : (one other : View) → other.run ≡ small_run → other.steps ≡ 3 → ¬ HasMade small_run (one ∷ other ∷ []) 1 4
made_four one other run steps (inl e) = omega (arith, e)
made_four one other run steps (inr (view, at, made)) =
    let same : other ≡ view = some-injective other view at in
    omega (arith, steps, ap (λ (v : View). v.steps) same, made (subst (λ (v : View). v.run ≡ small_run) same run))

-- the view at index 1 has noted nothing
by_first : {one other : View} {note : Note} → other.notes ≡ [] → ¬ IsAmong note one.notes → ¬ IsNoted (one ∷ other ∷ []) note
by_first {note = note} none off now =
    both (λ v. ¬ IsAmong note v.notes) off (subst (λ l. ¬ IsAmong note l) (sym none) (λ has. has)) now.id now.view now.at now.has

pub returns : goal.returns
unfolding word_at
returns c = record {
  counter_above_quota = λ h. (let e : 1 ≤ 0 = h.numbers.quotas 0 (omega arith) in omega (arith, e));
  in_two_hands = λ h. (let e : 2 ≡ 1 = h.numbers.each_once 0 in omega (arith, e));
  in_no_hand = λ h. (let e : 0 ≡ 1 = h.numbers.each_once 0 in omega (arith, e));
  not_claimed = λ h. (let e : 1 ≡ 0 = h.numbers.each_once 0 in omega (arith, e));
  limit_past_marks = λ h. (let e : 2 ≤ 1 = h.numbers.limits 1 _ refl in omega (arith, e));
  record_not_packed = λ h. elim (h.numbers.packed 0) [ inl e ↦ omega (arith, e) | inr packed ↦ omega (arith, packed.2) ];
  recorded_in_hand = λ h. (let e : 2 ≡ 1 = h.numbers.each_once 0 in omega (arith, e));
  start_elsewhere = λ h. (let e : point_word (at 6 5) ≡ point_word (at 5 5) = h.links.start in omega (arith, e));
  child_of_no_node = λ h. (let e : Some 2 ≡ None = h.links.ways.empty 1 true (λ p. (let none : false ≡ true = p in cc)) in cc);
  linked_too_early = λ h. (let e : 1 ≡ 0 = h.links.linked 0 in omega (arith, e));
  not_linked = λ h. (let e : 0 ≡ 1 = h.links.linked 0 in omega (arith, e));
  counted_too_early = λ h. (let e : 2 ≡ 1 = h.links.count in omega (arith, e));
  not_counted = λ h. (let e : 1 ≡ 2 = h.links.count in omega (arith, e));
  point_not_written = λ h. (let e : 0 ≡ point_word (at 8 9) = h.hands.written 0 _ refl (hand_at Pointed 0 0) refl refl in omega (arith, e));
  point_elsewhere = λ h. omega (arith, h.hands.written 0 _ refl (hand_at Pointed 0 0) refl refl);
  point_too_early = λ h. (let e : point_word (at 8 9) ≡ 0 = h.hands.blank 0 refl refl in omega (arith, e));
  first_not_written = λ h. omega (arith, (h.pairs.first 0 _ refl (hand_at Half 0 1280) refl refl).word);
  first_too_early = λ h. (let e : tree_word 0 1280 ≡ 0 = h.pairs.no_first 0 refl refl in omega (arith, e));
  tree_not_written = λ h. (let e : 0 ≡ tree_word 0 1280 = h.pairs.tree 0 _ refl (hand_at Treed 0 1280) refl refl refl in omega (arith, e));
  tree_too_early = λ h. (let e : tree_word 0 1280 ≡ 0 = h.pairs.no_tree 0 refl refl in omega (arith, e));
  cost_below_the_edge = λ h. omega (arith, (h.pairs.first 0 _ refl (hand_at Half 0 1279) refl refl).hangs.above, edge);
  cost_above_the_edge = λ h. omega (arith, (h.pairs.first 0 _ refl (hand_at Half 0 1281) refl refl).below_first, edge);
  below_itself = λ h. (h.pairs.first 0 _ refl (hand_at Half 1 1280) refl refl).hangs.other refl;
  start_costs = λ h. (let e : 5 ≡ 0 = h.trees.order.start_cost in omega (arith, e));
  start_below_another = λ h. (let e : 1 ≡ 0 = h.trees.order.start_parent in omega (arith, e));
  other_bit_set = λ h. (let e : 2 ^ 63 + 2 ^ 62 ≡ 2 ^ 63 = (h.trees.written 0 refl).tree in omega (arith, e));
  no_first_word_of_start = λ h. (let e : 0 ≡ tree_word 0 0 = h.trees.start_first in omega (arith, e));
  costs_less_than_its_edge = λ h. (let e : 0 + root_ceiling 1638400 ≤ 1279 = (h.trees.order.hangs 0 refl).above in omega (arith, e, edge));
  costs_more_than_at_first = λ h. (let e : 1281 ≤ 1280 = h.trees.first_costs.kept 1 refl in omega (arith, e));
  turn_ahead = λ h. (let e : 1 ≡ 0 = (h.turns.members 1 _ refl 0 _ refl).turn in omega (arith, e));
  worker_twice = λ h. (let e : 2 ≡ 1 = h.turns.in_one_crew 0 in omega (arith, e));
  worker_of_no_run = λ h. (let e : 1 ≡ 0 = h.turns.in_one_crew 2 in omega (arith, e));
  share_lost = λ h. (let e : 1 ≡ 2 = h.shares.add_up in omega (arith, e));
  share_too_many = λ h. (let e : 3 ≡ 2 = h.shares.add_up in omega (arith, e));
  hand_without_share = λ h. (let e : Some (new_hand 0) ≡ None = h.shares.idle 0 _ refl refl in cc);
  saw_a_greater_count = λ h. (let e : 2 ≤ 1 = h.seen.behind 1 _ refl Count in omega (arith, e));
  saw_no_such_child = λ h. omega (arith, h.seen.behind 1 _ refl (ChildOf 0 true));
  saw_no_start = λ h. (let e : false ≡ true = (h.sights 1 _ refl refl).rooted.start in cc);
  saw_start_at_a_cost = λ h. (let e : 5 ≡ 0 = ap (λ (p : ℕ × ℕ). p.1) ((h.seen_pairs 1 _ refl refl).start (0, 5) refl) in omega (arith, e));
  took_more_than_it_sees = λ h. (let e : 2 ≤ 1 = h.seen.took 1 _ refl (Counter 0) in omega (arith, e));
  counter_seen_by_none = λ h. (
      let copy = h.copies (Counter 0) (omega arith) in
      both (λ v. ¬ (sees v (Counter 0) ≡ 1)) (λ e. omega (arith, e)) (λ e. omega (arith, e)) copy.id copy.view copy.at copy.same);
  looked_later = λ h. (let e : 4 ≤ 3 = (of_run _ refl (h.of_run 1 _ refl)).looks Count in omega (arith, e));
  found_zero_later = λ h. (let e : 4 ≤ 3 = (of_run _ refl (h.of_run 1 _ refl)).zero_looks (ChildOf 0 true) in omega (arith, e));
  too_few_words = λ h. (let e : 13 ≡ 14 = (of_run _ refl (h.of_run 1 _ refl)).looked in omega (arith, e));
  found_empty_when_filled = λ h.
      elim (h.empties 0 true (λ zero. omega (arith, zero)) 1 _ refl) [
        | inl none ↦ omega (arith, none)
        | inr some ↦ by_first refl (λ has. elim has [
          | inl is ↦ omega (arith, some.same, ap (λ (n : Note). slice_index n.steps 1) is)
          | inr more ↦ more
        ]) some.is_noted
      ];
  noted_too_many_steps =
      λ h. made_four (view_with (worker_at 0 0) 1 (Some (hand_at Linked 0 1280)) linked_table never (filled_at (3 ∷ 4 ∷ []))) (idle linked_table)
      refl refl (h.notes.made (record { place = 5; word = 1; steps = 3 ∷ 4 ∷ [] }) (record { id = 0; view = _; at = refl; has = inl refl }) 1);
  saw_a_stale_counter = λ h. (let e : 1 ≤ 0 = seen_since h (Counter 0) (omega arith) refl refl in omega (arith, e));
  saw_a_stale_count = λ h. (let e : 2 ≤ 1 = seen_since h Count tt refl refl in omega (arith, e));
  saw_no_child_where_one_was = λ h. omega (arith, seen_since h (ChildOf 0 true) (omega arith) refl refl);
  saw_a_stale_tree_word = λ h. omega (arith, seen_since h (TreeOf 1) (omega arith) refl refl);
  saw_a_stale_best = λ h. (let e : no_best ≤ best_word 1280 1 = seen_since h Best tt refl refl in omega (arith, e));
  claim_not_noted = λ h.
      elim (h.notes.noted 1 _ refl refl (Counter 0) (omega arith) (λ e. omega (arith, e))) [
        | inl placed ↦ (let no = placed.1 in cc)
        | inr some ↦ by_first refl (λ has. has) some.is_noted
      ];
  best_of_no_goal_node = λ h. (let e : false ≡ true = (h.best.pair (λ e. omega (arith, e))).0 in cc);
  best_of_no_node = λ h. (let e : false ≡ true = (h.best.pair (λ e. omega (arith, e))).0 in cc);
  best_below_the_cost = λ h. (let e : 1280 ≤ 1279 = (h.best.pair (λ e. omega (arith, e))).1 in omega (arith, e));
  recorded_goal_node_is_no_best = λ h. (let e : no_best ≤ best_word 1280 1 = h.best.placed 1 refl refl in omega (arith, e));
  best_above_a_recorded_goal_node = λ h. (let e : best_word 1281 1 ≤ best_word 1280 1 = h.best.placed 1 refl refl in omega (arith, e));
  saw_a_best_that_is_not = λ h. (let e : no_best ≤ best_word 1280 1 = (h.bests 0 _ refl refl).falls in omega (arith, e));
  saw_no_goal_node_as_best = λ h. (let e : false ≡ true = ((h.bests 0 _ refl refl).pair (λ e. omega (arith, e))).0 in cc);
  best_seen_by_none = λ h. (
      let copy = h.best_copy in
      both (λ v. ¬ (v.best ≡ best_word 1280 1)) (λ e. omega (arith, e)) (λ e. omega (arith, e)) copy.id copy.view copy.at copy.same);
  saw_recorded_goal_node_and_no_best = λ h. (let e : no_best ≤ best_word 1280 1 = (h.bests 1 _ refl refl).placed 1 refl refl in omega (arith, e));
  took_no_goal_node =
      λ h. (let e : false ≡ true = ((h.bests 0 _ refl refl).taken_pair (took_best (best_word 0 0)) _ refl refl (λ e. omega (arith, e))).0 in cc);
  posted_and_saw_no_best = λ h. omega (arith, (h.bests 0 _ refl refl).posted (hand_at Posted 0 1280) refl refl);
  recorded_by_no_worker = λ h. (let e : 2 < 2 = h.records.own_workers 0 (placed_by 2 0 0 0 1280 1) refl (omega arith) in omega (arith, e));
}
