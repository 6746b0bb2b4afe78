use Rattle.shared_tree_tests.proofs.Words.{◌≡◌, ◌+◌, ◌<◌, ◌≤◌, ◌^◌, true, false, Some, None, arith, refl, sym, ap, subst, inr, same_Some}
use Rattle.shared_tree_tests.proofs.Words.{mark_bound, steered, at, Point, same_x, ChildOf, best_cost_in}
use Rattle.shared_tree_tests.proofs.Words.{best_word, setup_in, new_hand, Half, Linked, Pointed, Posted, Treed, goal_run, hand_at, took_best}
use Rattle.plan_model.specs.Geometry.Lengths.{root_ceiling}
use Rattle.shared_tree_tests.proofs.SmallRuns.MarkEdge.{bound, edge}
use Rattle.grown_runs.specs.Table.WordPlaces.{word_at}
use Rattle.shared_tree_tests.proofs.worlds.vectors.unlawful_views.Goals as goal

pub returns : goal.returns
unfolding word_at
returns c = record {
  opens_past_the_marks = λ h. (let e : 2 ≤ 1 = h.run.opening in omega (arith, e));
  no_workers = λ h. (let e : 0 < 0 = h.run.workers.0 in omega (arith, e));
  too_few_places = λ h. (let e : 13 ≡ 14 = h.of_run.found_zero in omega (arith, e));
  limit_past_marks = λ h. (let e : 2 ≤ 1 = h.most in omega (arith, e));
  share_too_many = λ h. (let e : 3 ≤ 2 = h.crew in omega (arith, e));
  hand_without_share = λ h. (let e : Some (new_hand 0) ≡ None = h.idle refl in cc);
  no_such_mark = λ h. (let e : 1 < 1 = h.mark (new_hand 1) refl in omega (arith, e));
  no_such_worker = λ h. (let e : 2 < 2 = h.worker 0 _ refl in omega (arith, e));
  no_turn_left = λ h. (let e : 1 < 1 = h.turn (hand_at Linked 0 1280) 0 _ refl refl in omega (arith, e));
  turn_not_seen = λ h. (let e : 1 ≡ 0 = h.own_turn 0 _ refl in omega (arith, e));
  turn_of_another = λ h. (let e : 1 ≡ 0 = h.own_turn 0 _ refl in omega (arith, e));
  took_more_than_it_sees = λ h. omega (arith, h.took (ChildOf 0 true));
  no_start = λ h. (let e : false ≡ true = h.tree.rooted.start in cc);
  start_elsewhere = λ h. (let e : 6 ≡ 5 = same_x (at 6 5) (at 5 5) h.start in omega (arith, e));
  placed_without_point = λ h. (let e : false ≡ true = h.tree.placed 0 refl in cc);
  placed_without_first_word = λ h. (let e : 2 ^ 63 ≤ 0 = h.tree.placed_first 0 refl in omega (arith, e));
  child_twice = λ h. (let e : false ≡ true = (h.ways.once 1 0 0 false true refl refl).1 in cc);
  two_at_one_point = λ h. (let e : 0 ≡ 1 = h.distinct 0 1 (at 5 5) refl refl in omega (arith, e));
  number_past_the_marks = λ h. (let e : 2 ≤ 1 = h.within 2 (inr (0, true, refl)) in omega (arith, e));
  not_steered_there = λ h. (
      let from = (h.tree.holds (record (hand_at Pointed 0 0) { point = at 9 8 }) refl).steered_from refl in
      let e : at 9 8 ≡ at 8 9 = subst (λ p. at 9 8 ≡ steered p (at 8 9) 50) (sym (same_Some (at 5 5) from.from from.seen)) from.reached in
      (let x : 9 ≡ 8 = ap (λ (p : Point). p.x) e in omega (arith, x)));
  steered_from_itself = λ h. (h.tree.holds (record (hand_at Linked 0 1280) { nearest = 1 }) refl).other refl refl;
  linked_not_seen = λ h. (let e : None ≡ Some (at 8 9) = (h.tree.holds (hand_at Linked 0 1280) refl).shown refl in cc);
  linked_without_first_word = λ h. (let e : 2 ^ 63 ≤ 0 = (h.tree.holds (hand_at Linked 0 1280) refl).first_shown refl in omega (arith, e));
  seen_before_it_is_linked = λ h. h.unseen (hand_at Treed 0 1280) refl refl (inr (0, true, refl));
  went_on_past_a_best = λ h. (
      let own = (h.tree.holds (record (hand_at Pointed 0 0) { best = Some (best_word 1280 1) }) refl).unskipped refl (λ e. cc) in
      let same : best_word 1280 1 ≡ own.0 = same_Some (best_word 1280 1) own.0 own.1 in
      let low : mark_bound (setup_in goal_run) (at 8 9) < best_cost_in own.0 = own.2 (λ none. omega (arith, same, none)) in
      omega (arith, low, bound, ap best_cost_in same));
  posted_in_no_goal = λ h. (let e : false ≡ true = (h.tree.holds (hand_at Posted 0 1280) refl).posted refl in cc);
  parent_fits_no_word = λ h. (let e : 2 ^ 18 < 2 ^ 18 = (h.pair_fits (hand_at Half (2 ^ 18) 1280) refl refl).0 in omega (arith, e));
  cost_fits_no_word = λ h. (let e : 2 ^ 44 < 2 ^ 44 = (h.pair_fits (hand_at Half 0 (2 ^ 44)) refl refl).1 in omega (arith, e));
  cost_of_no_tree = λ h. (let e : 2 ^ 42 < 2 ^ 42 = (h.pairs 1 (omega arith)).low in omega (arith, e));
  parent_past_the_marks = λ h. (let e : 2 ≤ 1 = (h.pairs 1 (omega arith)).within in omega (arith, e));
  start_costs = λ h. (let e : 5 ≡ 0 = ((h.pairs 0 (omega arith)).start refl).1 in omega (arith, e));
  start_below_another = λ h. (let e : 1 ≡ 0 = ((h.pairs 0 (omega arith)).start refl).0 in omega (arith, e));
  below_itself = λ h. (h.pairs 1 (omega arith)).other (omega arith) refl;
  edge_too_long = λ h. (let e : 25 ≤ 16 = ((h.pairs 1 (omega arith)).edge (at 8 9) (at 5 5) refl refl).short in omega (arith, e));
  above_its_first_cost = λ h. (let e : 1281 ≤ 1280 = (h.pairs 1 (omega arith)).first (omega arith) in omega (arith, e));
  count_past_the_marks = λ h. (let e : 3 ≤ 2 = h.count in omega (arith, e));
  counter_past_the_marks = λ h. (let e : 2 ≤ 1 = h.counter 0 (omega arith) in omega (arith, e));
  best_past_a_recorded_goal_node = λ h. (let e : best_word 1281 1 ≤ best_word 1280 1 = h.best 1 refl refl in omega (arith, e));
  best_past_the_marks = λ h. (let e : 2 ≤ 1 = h.best_node (λ none. omega (arith, none)) in omega (arith, e));
  took_less_than_the_best = λ h. omega (arith, (h.taken (took_best (best_word 1279 1)) (best_word 1279 1) refl refl).0);
  whole_below_its_edge = λ h. (let e : 0 + root_ceiling 1638400 ≤ 1279 = ((h.order refl).hangs 0 refl).above in omega (arith, e, edge));
}
