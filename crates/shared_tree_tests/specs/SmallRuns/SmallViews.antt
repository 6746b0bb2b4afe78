-- What a pass may do by what it has seen, in the run of SmallWorlds; views that are not lawful or later, and runs that are not as was seen,
-- for one thing each.
use Rattle.std.specs.Prelude.{◌≡◌, ℕ, ◌^◌, true, false, Some, None, List, [], ◌∷◌, ◌++◌, replicate}
use Rattle.shared_tree_tests.specs.Terms.{ChildOf, Claimed, Count, Counted, Counter, Half, HasOrFell, IsLater, IsLawfulView, IsSteered, IsUnskipped, LeadsTo}
use Rattle.shared_tree_tests.specs.Terms.{Linked, MayBeRecorded, MayBeSkipped, MayHang, MayLoad, MayLower, MayPost, PointOf, Pointed, Posted, StandsAsSeen}
use Rattle.shared_tree_tests.specs.Terms.{TreeOf, Treed, View, at, best_loaded, best_word, claimed, joined, loaded, looker, new_hand, newcomer, no_best}
use Rattle.shared_tree_tests.specs.Terms.{placed_by, point_word, posted, record_word, run_sizes, state_of_links, tree_word, words_of_run}
use Rattle.plan_model.specs.declared.records.Outcome.TheVariants.{Blocked, Placed, Same, Skipped}
use Rattle.shared_tree_tests.specs.SmallRuns.SmallWorlds.{claimed_table, found_right, hand_at, handling, idle, linked_table, mark_node, never, no_node, node_by}
use Rattle.shared_tree_tests.specs.SmallRuns.SmallWorlds.{recorded_table, small_run, start_above, table, took_best, view_with, with_goal, worker_at}

-- ---- what a pass may do
-- the words with node 1 below the start, at one more than the edge costs
abbrev pub dearer_table : List ℕ
dearer_table = table 1 1 (start_above 1) (node_by (point_word (at 8 9)) 0 (tree_word 0 1281) (tree_word 0 1281)) 0

pub record AllowedStepVectors : Type 0 where
  pub loads_the_count : MayLoad (idle linked_table) Count
  pub loads_a_counter : MayLoad (idle linked_table) (Counter 0)
  pub loads_a_point : MayLoad (idle linked_table) (PointOf 1)
  pub loads_a_child : MayLoad (idle linked_table) (ChildOf 1 false)
  pub loads_the_other_child : MayLoad (idle linked_table) (ChildOf 1 true)
  pub loads_a_tree_word : MayLoad (idle linked_table) (TreeOf 1)
  pub steers_to_the_mark : IsSteered (handling (new_hand 0) claimed_table) 0 0 (at 8 9)
  -- at the cost below the nearest node, which is the parent
  pub hangs_below_the_start : MayHang (handling (hand_at Pointed 0 0) claimed_table) (hand_at Pointed 0 0) 0 1280
  pub lowers_by_one : MayLower (idle dearer_table) 1 0 1280
  pub leads_to_the_right : LeadsTo (idle claimed_table) (at 8 9) 0 true
  -- by rows at node 1
  pub leads_to_a_place_below : LeadsTo (idle linked_table) (at 5 9) 1 true
  pub placed_when_counted : MayBeRecorded Counted Placed
  pub blocked_when_claimed : MayBeRecorded Claimed Blocked
  pub same_when_treed : MayBeRecorded Treed (Same 0)
  pub skipped_when_claimed : MayBeRecorded Claimed Skipped
  -- a node that it sees
  pub posts_a_goal_node : MayPost (with_goal no_best (idle linked_table)) 1
  -- of the goal node at the mark, where the bound of the mark is 1280
  pub skips_by_a_path_at_the_bound : MayBeSkipped (with_goal no_best (idle claimed_table)) (took_best (best_word 1280 1)) 1
  pub goes_on_past_the_bound : IsUnskipped (with_goal no_best (idle claimed_table)) (took_best (best_word 1281 1))
  pub goes_on_with_no_best : IsUnskipped (with_goal no_best (idle claimed_table)) (took_best no_best)
  pub goes_on_where_none_is_skipped : IsUnskipped (idle claimed_table) (new_hand 0)

-- ---- what steps leave, and later views
-- two steps later, the third of which found the place to the right of node 0 empty
abbrev pub waited : View
waited = record (idle claimed_table) { steps = 5; looked = 4 ∷ replicate 13 0; found_zero = found_right 5 }

-- the step that looked at the best word, and a view that left it so by this step
abbrev pub looked_best : List ℕ
looked_best = 0 ∷ 4 ∷ replicate 12 0

abbrev pub left_best : ℕ → View → View
left_best best view = record view { steps = 4; best = best; looked = looked_best; notes = record { place = 1; word = best; steps = 4 ∷ [] } ∷ [] }

pub record StepVectors : Type 0 where
  -- a load of the child to the right of node 0, which is there, and of one that is not
  pub load_of_a_child : loaded (idle claimed_table) (ChildOf 0 true) 1
      ≡ record (idle (table 1 1 (start_above 1) no_node 0)) { steps = 4; looked = found_right 4 }
  pub load_of_no_child : loaded (idle claimed_table) (ChildOf 0 true) 0
      ≡ record (idle claimed_table) { steps = 4; looked = found_right 4; found_zero = found_right 4 }
  pub claim : claimed (idle (table 1 0 (start_above 0) no_node 0)) 0 0 1 (3 ∷ 4 ∷ [])
      ≡ record (view_with (worker_at 1 0) 1 (Some (new_hand 0)) claimed_table (0 ∷ 0 ∷ 4 ∷ replicate 11 0) []) {
        steps = 4;
        looked = 0 ∷ 0 ∷ 4 ∷ replicate 11 0;
        notes = record { place = 2; word = 1; steps = 3 ∷ 4 ∷ [] } ∷ [];
      }
  -- of the mark that worker 0 has in hand, one that the other has linked
  pub join : joined (view_with (worker_at 0 0) 1 None claimed_table never []) (idle linked_table)
      ≡ record (view_with (worker_at 0 0 ++ worker_at 1 0) 1 None linked_table never []) { took = linked_table; steps = 4 }
  -- a load of the best word, and that of one with a node of its own in hand
  pub load_of_the_best : best_loaded (handling (new_hand 0) claimed_table) (best_word 9 7)
      ≡ record (handling (took_best (best_word 9 7)) claimed_table) { steps = 4; best = best_word 9 7; looked = looked_best }
  pub load_that_is_not_taken : best_loaded (handling (hand_at Pointed 0 0) claimed_table) (best_word 9 7)
      ≡ record (handling (hand_at Pointed 0 0) claimed_table) { steps = 4; best = best_word 9 7; looked = looked_best }
  -- a post of node 1 at the cost 1280, where the best cost was greater and where it was less
  pub post_of_the_node_in_hand : posted (handling (hand_at Counted 0 1280) linked_table) 1 (best_word 1281 0) (4 ∷ [])
      ≡ left_best (best_word 1280 1) (handling (hand_at Posted 0 1280) linked_table)
  pub post_of_a_dearer_node : posted (handling (hand_at Linked 0 1280) linked_table) 1 (best_word 1280 0) (4 ∷ [])
      ≡ left_best (best_word 1280 0) (handling (hand_at Linked 0 1280) linked_table)
  pub post_of_another_node : posted (handling (hand_at Counted 0 1280) linked_table) 0 no_best (4 ∷ [])
      ≡ left_best (best_word 0 0) (handling (hand_at Counted 0 1280) linked_table)
  pub new_looker : looker waited ≡ record waited { crew = []; looked = never; found_zero = never }
  pub first_view : newcomer small_run claimed_table ≡ record (view_with (worker_at 0 0 ++ worker_at 1 0) 0 None claimed_table never []) { steps = 0 }

pub record LaterViewVectors : Type 0 where
  pub looked_and_found : IsLater (idle claimed_table) waited
  pub other_run : ¬ IsLater (idle claimed_table) (record waited { run = record small_run { opening = 1 } })
  pub less_seen : ¬ IsLater (idle claimed_table) (record waited { seen = table 1 0 (start_above 0) no_node 0 })
  pub fewer_steps : ¬ IsLater waited (record waited { steps = 4 })
  pub looked_by_an_earlier_step : ¬ IsLater (idle claimed_table) (record waited { looked = 3 ∷ replicate 13 0 })
  pub found_by_an_earlier_step : ¬ IsLater (idle claimed_table) (record waited { found_zero = found_right 3 })
  pub best_rises : ¬ IsLater (with_goal (best_word 1280 1) (idle claimed_table)) (with_goal (best_word 1281 1) (idle claimed_table))
  pub found_where_a_child_was : ¬ IsLater (idle linked_table) (record waited { seen = linked_table })

-- ---- lawful views
-- these words are lawfully seen by a view with nothing in hand
abbrev pub IsLawfullySeen : List ℕ → Type 0
IsLawfullySeen seen = IsLawfulView (idle seen)

pub record UnlawfulViewVectors : Type 0 where
  pub opens_past_the_marks : ¬ IsLawfulView (record (idle claimed_table) { run = record small_run { opening = 2 } })
  pub no_workers : ¬ IsLawfulView (record (idle claimed_table) { run = record small_run { workers = 0 } })
  pub too_few_places : ¬ IsLawfulView (record (idle claimed_table) { found_zero = replicate 13 0 })
  pub limit_past_marks : ¬ IsLawfulView (view_with (worker_at 1 0) 2 None claimed_table never [])
  pub share_too_many : ¬ IsLawfulView (view_with (worker_at 0 0 ++ worker_at 1 0 ++ worker_at 1 0) 0 None claimed_table never [])
  pub hand_without_share : ¬ IsLawfulView (view_with [] 1 (Some (new_hand 0)) claimed_table never [])
  pub no_such_mark : ¬ IsLawfulView (handling (new_hand 1) claimed_table)
  pub no_such_worker : ¬ IsLawfulView (view_with (worker_at 2 0) 0 None claimed_table never [])
  -- worker 0 has seen its record of the only mark, and has another in hand
  pub no_turn_left : ¬ IsLawfulView (view_with (worker_at 0 1) 1 (Some (hand_at Linked 0 1280)) (recorded_table 0) never [])
  pub turn_not_seen : ¬ IsLawfulView (view_with (worker_at 0 1) 0 None claimed_table never [])
  pub turn_of_another : ¬ IsLawfulView (view_with (worker_at 1 1) 0 None (recorded_table 0) never [])
  pub took_more_than_it_sees : ¬ IsLawfulView (record (idle claimed_table) { took = linked_table })
  -- its tree
  pub no_start : ¬ IsLawfullySeen (table 1 1 (node_by 0 0 (tree_word 0 0) (tree_word 0 0)) no_node 0)
  pub start_elsewhere : ¬ IsLawfullySeen (table 1 1 (node_by (point_word (at 6 5)) 0 (tree_word 0 0) (tree_word 0 0)) no_node 0)
  pub placed_without_point :
      ¬ IsLawfullySeen (table 2 1 (start_above 1) (node_by 0 0 (tree_word 0 1280) (tree_word 0 1280)) (record_word (placed_by 0 0 0 0 1280 1)))
  pub placed_without_first_word :
      ¬ IsLawfullySeen (table 2 1 (start_above 1) (node_by (point_word (at 8 9)) 0 (tree_word 0 1280) 0) (record_word (placed_by 0 0 0 0 1280 1)))
  pub child_twice : ¬ IsLawfullySeen (table 1 1 (point_word (at 5 5) ∷ 1 ∷ 1 ∷ tree_word 0 0 ∷ tree_word 0 0 ∷ []) mark_node 0)
  pub two_at_one_point : ¬ IsLawfullySeen (table 1 1 (start_above 1) (node_by (point_word (at 5 5)) 0 (tree_word 0 0) (tree_word 0 0)) 0)
  pub number_past_the_marks : ¬ IsLawfullySeen (table 1 1 (start_above 2) no_node 0)
  -- its hand
  pub not_steered_there : ¬ IsLawfulView (handling (record (hand_at Pointed 0 0) { point = at 9 8 }) claimed_table)
  pub steered_from_itself : ¬ IsLawfulView (handling (record (hand_at Linked 0 1280) { nearest = 1 }) linked_table)
  pub linked_not_seen : ¬ IsLawfulView (handling (hand_at Linked 0 1280) (table 1 1 (start_above 0) (node_by 0 0 0 (tree_word 0 1280)) 0))
  pub linked_without_first_word :
      ¬ IsLawfulView (handling (hand_at Linked 0 1280) (table 1 1 (start_above 1) (node_by (point_word (at 8 9)) 0 (tree_word 0 1280) 0) 0))
  pub seen_before_it_is_linked : ¬ IsLawfulView (handling (hand_at Treed 0 1280) linked_table)
  pub went_on_past_a_best :
      ¬ IsLawfulView (with_goal (best_word 1280 1) (handling (record (hand_at Pointed 0 0) { best = Some (best_word 1280 1) }) claimed_table))
  pub posted_in_no_goal : ¬ IsLawfulView (handling (hand_at Posted 0 1280) linked_table)
  pub parent_fits_no_word : ¬ IsLawfulView (handling (hand_at Half (2 ^ 18) 1280) claimed_table)
  pub cost_fits_no_word : ¬ IsLawfulView (handling (hand_at Half 0 (2 ^ 44)) claimed_table)
  -- parents, costs and numbers
  pub cost_of_no_tree : ¬ IsLawfullySeen (table 1 1 (start_above 1) (node_by (point_word (at 8 9)) 0 (tree_word 0 (2 ^ 42)) (tree_word 0 (2 ^ 42))) 0)
  pub parent_past_the_marks : ¬ IsLawfullySeen (table 1 1 (start_above 1) (node_by (point_word (at 8 9)) 0 (tree_word 2 1280) (tree_word 0 1280)) 0)
  pub start_costs : ¬ IsLawfullySeen (table 1 1 (node_by (point_word (at 5 5)) 0 (tree_word 0 5) (tree_word 0 0)) no_node 0)
  pub start_below_another : ¬ IsLawfullySeen (table 1 1 (node_by (point_word (at 5 5)) 0 (tree_word 1 0) (tree_word 0 0)) no_node 0)
  pub below_itself : ¬ IsLawfullySeen (table 1 1 (start_above 1) (node_by (point_word (at 8 9)) 0 (tree_word 1 1280) (tree_word 0 1280)) 0)
  pub edge_too_long : ¬ IsLawfulView (record (idle linked_table) { run = record small_run { step = 4 } })
  pub above_its_first_cost : ¬ IsLawfullySeen (table 1 1 (start_above 1) (node_by (point_word (at 8 9)) 0 (tree_word 0 1281) (tree_word 0 1280)) 0)
  pub count_past_the_marks : ¬ IsLawfullySeen (table 3 1 (start_above 0) no_node 0)
  pub counter_past_the_marks : ¬ IsLawfullySeen (table 1 2 (start_above 0) no_node 0)
  -- the best word
  pub best_past_a_recorded_goal_node : ¬ IsLawfulView (with_goal (best_word 1281 1) (idle (recorded_table 0)))
  pub best_past_the_marks : ¬ IsLawfulView (with_goal (best_word 1280 2) (idle claimed_table))
  pub took_less_than_the_best : ¬ IsLawfulView (with_goal (best_word 1280 1) (handling (took_best (best_word 1279 1)) claimed_table))
  -- with the share of both workers
  pub whole_below_its_edge : ¬ IsLawfulView (view_with (worker_at 0 0 ++ worker_at 1 0) 1 None
      (table 1 1 (start_above 1) (node_by (point_word (at 8 9)) 0 (tree_word 0 1279) (tree_word 0 1280)) 0) never [])

-- ---- runs that are as was seen
-- the run of these words is as the view saw it
abbrev pub StandsIn : List ℕ → View → Type 0
StandsIn items view = StandsAsSeen view (state_of_links (run_sizes small_run) (words_of_run small_run items))

-- a view that has seen these words, and of the limit 1
abbrev pub who_saw : List ℕ → View
who_saw seen = view_with (worker_at 0 0) 1 None seen never []

pub record LastViewVectors : Type 0 where
  pub node_gone : ¬ StandsIn claimed_table (who_saw linked_table)
  pub node_elsewhere :
      ¬ StandsIn (table 1 1 (start_above 1) (node_by (point_word (at 9 8)) 0 (tree_word 0 1280) (tree_word 0 1280)) 0) (who_saw linked_table)
  pub cost_rose : ¬ StandsIn dearer_table (who_saw linked_table)
  pub other_parent_at_one_cost :
      ¬ StandsIn (table 1 1 (start_above 1) (node_by (point_word (at 8 9)) 0 (tree_word 1 1280) (tree_word 0 1280)) 0) (who_saw linked_table)
  pub record_gone : ¬ StandsIn linked_table (who_saw (recorded_table 0))
  pub counter_above_the_limit : ¬ StandsIn claimed_table (view_with (worker_at 0 0) 0 None claimed_table never [])
  pub same_cost : HasOrFell (state_of_links (run_sizes small_run) (words_of_run small_run linked_table)) 1 (tree_word 0 1280)
  pub lower_cost : HasOrFell (state_of_links (run_sizes small_run) (words_of_run small_run linked_table)) 1 (tree_word 1 1281)
