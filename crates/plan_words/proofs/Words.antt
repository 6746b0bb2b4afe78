-- The definitions and lemmas that proofs of this crate are about, passed on from one place. Declares nothing.
pub use Rattle.atomic_table.specs.Seated.{TableId}
pub use Rattle.atomic_table.specs.Table.{Act, Allows, Final, Joins, Me, Seen, Splits, State, Valid, carried_after, step}
pub use Rattle.atomic_table.specs.Table.Act.{keeps}
pub use Rattle.grown_runs.proofs.Common.{AreBehind, AreMembers, AreMembers-chain, AreSameRuns, AreSameRuns-trans, Best, Blocked, ChangesOnly, ChildOf, Clear}
pub use Rattle.grown_runs.proofs.Common.{Count, Counter, Falling, FirstOf, FitsNumbers, FitsWord, HasOneMore, HasWord, HoldRun, IndexesChains, IsBounded}
pub use Rattle.grown_runs.proofs.Common.{IsCounter, IsCutAt-quota, IsGoalNode, IsIndex-same, IsLeastBest, IsPresent, IsPresent-goal, IsStep-steered, KeepsRoom}
pub use Rattle.grown_runs.proofs.Common.{MOST_MARKS, MOST_WORKERS, MovesNode, Outcome, Placed, Point, PointOf, Record, RecordOf, Same, Sizes, Skipped, setup_of}
pub use Rattle.grown_runs.proofs.Common.{StandsAt-present, StandsAt-unique, Task, TreeOf, Word, Words, WritesWord, WritesWord-set, best_cost_in, best_node_in}
pub use Rattle.grown_runs.proofs.Common.{best_of_word, best_word, child_of_word, class_from_powers, class_of, class_of-le, cleared, cost_in, cost_in-tree_word}
pub use Rattle.grown_runs.proofs.Common.{cost_of, cost_of-short, count-more, ending_as, has_node, if_written-set, is_claimed, is_goal_point, is_linked}
pub use Rattle.grown_runs.proofs.Common.{is_of_worker, last_field, later_word, lies_in_goals, mark_at, no_best, node_count, parent_in, parent_in-tree_word}
pub use Rattle.grown_runs.proofs.Common.{place_of, place_of-within, point_at, point_in, point_of, point_of_word, point_of_word-packed, point_word, quota_of}
pub use Rattle.grown_runs.proofs.Common.{record_at, record_of_word, record_word, run_words, seen_tree_of_words, siblings_from, siblings_from-here, sizes_in}
pub use Rattle.grown_runs.proofs.Common.{sizes_of, skipping_goals, space_of, squared_distance, state-best, state_of_grown, state_of_words, sum-le, sum-more}
pub use Rattle.grown_runs.proofs.Common.{node-held, times-else, times-here, tree_word, turns_of, word-found, word_at-none, word_count, words_in, words_of_grown}
pub use Rattle.grown_runs.proofs.Common.{node_present, parent-present}
pub use Rattle.grown_runs.specs.ChildChains.{times}
pub use Rattle.grown_runs.specs.declared.child_index.ChildIndex.{ChildIndex}
pub use Rattle.grown_runs.specs.declared.grown.Grown.{Grown}
pub use Rattle.grown_runs.specs.declared.run_words.RunWords.{RunWords}
pub use Rattle.grown_runs.specs.declared.word_places.WordPlaces.{WordPlaces}
pub use Rattle.plan_model.proofs.ListMembers.{Contains-after, Contains-first}
pub use Rattle.plan_words.specs.Nodes.{FindsGoalNode, FindsLess, HasLinked, HasParentsBelow, HasPostedGoals, IsEdgeSeen, IsLinkedAt, IsOrPosted, IsPairIn}
pub use Rattle.plan_words.specs.Nodes.{KeepsOrPosts, LeadsOn, LooksAndPosts, NamesChildOrPoint, NamesNode, OnlyPosts, SeesBestSince}
pub use Rattle.plan_words.specs.Claims.{AllFull, AllLoaded, GoesBefore, HasNoneLeft, IsClaimed, IsFirst, IsLeastNext, IsLeastOpen, IsNextOf, IsOpen, IsPassOf}
pub use Rattle.plan_words.specs.Claims.{KeepsHand, LoadsCounters, OwnsAllStrips, RaisesCounter, SeesAsBefore, StandsFor, each_after, is_own, next_mark}
pub use Rattle.plan_words.specs.LoweredChildren.{AreSeenFirst, CostsAtMostThrough, HasQueued, IsLoweredChild, IsOtherWord, IsSeenAbove, LooksOn}
pub use Rattle.plan_words.specs.LoweredChildren.{LowersChildren, PostsChanged, Reaches, SeesSamePoints, SitsAt, chain_of, seen_words, sibling_chain_in}
pub use Rattle.plan_words.specs.Plays.{Claims, Counts, FindsAsSeen, FindsCount, FindsPoint, FindsTree, FindsWholeCount, Finishes, Links, Loads, LoadsBest}
pub use Rattle.plan_words.specs.Plays.{Lowers, Posts, Tells, TellsHand, WritesFirst, WritesPoint, WritesTree, exchanged_at}
pub use Rattle.plan_words.specs.SearchLists.{AreMarked, HasSeenParent, IsNoted, IsOn, NoneMarked, SearchState, WaitingState, count_marked, found_in}
pub use Rattle.plan_words.specs.SearchLists.{found_of_spot, is_dearer, is_marked, lists_in, noted, noted_spot, numbers_of, spot_in}
pub use Rattle.plan_words.specs.States.{BelongsTo, GoesOn, HasFirstPairs, HasPairs, HasRoom, HasWholeShare, HoldsWorld, IsTableOf, IsTied, MayClaim, PassState}
pub use Rattle.plan_words.specs.States.{SharedState, StartsAs, first_member, first_view, new_pass, run_in, run_of_opening, tree_words, turn_of, turned}
pub use Rattle.plan_words.specs.States.{with_view, without_best, worker_of}
pub use Rattle.plan_words.specs.declared.claims.Next.{Next}
pub use Rattle.plan_words.specs.declared.lowered_children.Above.{Above}
pub use Rattle.plan_words.specs.declared.openings.Aim.{Aim}
pub use Rattle.plan_words.specs.declared.openings.Opening.{Opening}
pub use Rattle.plan_words.specs.declared.spots.Cell.{Cell}
pub use Rattle.plan_words.specs.declared.spots.Found.{Found}
pub use Rattle.plan_words.specs.declared.spots.Spot.{Spot}
pub use Rattle.std.proofs.Common.{Bool, List, None, Option, Some, [], ap, append-nil, arith, drop, eqb, false, get_or, inl, inr, le_trans, length, map, max}
pub use Rattle.std.proofs.Common.{refl, replicate, rules, set, subst, suc, sym, take, true, zero, ℕ, ⊎_elim, ◌%◌, ◌*◌, ◌++◌, ◌+◌, ◌-◌, ◌/◌, ◌<◌, ◌^◌, ◌∙◌, ◌∷◌}
pub use Rattle.std.proofs.Common.{◌≡◌, ◌≢◌, ◌≤◌, ◌⊎◌}
pub use Rattle.std.proofs.Math.Nat.{suc-mod, zero-mod}
pub use Rattle.std.proofs.Math.Seq.{drop-length, take-set-lt}
pub use Rattle.std.proofs.lemmas.Bool.{cases_Bool, cases_eq, cases_lt, eqb-false, eqb-true, le-ltb, lt-ltb, ltb-false, ltb-true, ne_eqb, true≢false}
pub use Rattle.std.proofs.lemmas.List.{append_assoc, drop-set-lt, get_or-drop, get_or-map, get_or-replicate, get_or-set_other, get_or-set_same, get_or-take}
pub use Rattle.std.proofs.lemmas.List.{get_or_append_left, get_or_default, get_or_past, length-map, length-replicate, length-set, length-take-le, map-append}
pub use Rattle.std.proofs.lemmas.List.{map-set, set-append_left, set-get_or, take-set-le, take_all, take_more, take_more_set}
pub use Rattle.std.proofs.lemmas.List.Elements.{All-cons, All-head, All-nil, All-tail}
pub use Rattle.std.proofs.lemmas.List.Filters.{FiltersInPlace, FiltersInPlace-more_no, FiltersInPlace-more_set}
pub use Rattle.std.proofs.lemmas.List.FromFn.{get_or-map-range_with_len, length-range_with_len}
pub use Rattle.std.proofs.lemmas.List.Sorted.{IsNonDecreasingBy-from_sort, IsNonDecreasingBy-from_sort_by_key, IsPermutation-map, length_permutation}
pub use Rattle.std.proofs.lemmas.List.Sums.{count_by-le-length}
pub use Rattle.std.proofs.lemmas.Map.Keys.{below_from_sorted, sorted_tail}
pub use Rattle.std.proofs.lemmas.Nat.{div-add-mod', div-mul-add, mod-mul-add, mod_below, mul-le}
pub use Rattle.std.proofs.lemmas.Option.{IfSome_then, get_or_from_slice_get, same_Some, slice_get-get_or, slice_get_within}
pub use Rattle.std.proofs.lemmas.Result.{IfOk-weaker}
pub use Rattle.std.specs.List.{AllByRecursion, list_any, range_with_len, sum_by}
unfoldable pub use Rattle.std.specs.List.{IsDistinct}
pub use Rattle.std.specs.List.Sorted.{IsNonDecreasing, IsNonDecreasingBy, IsStrictlySortedBy}
pub use Rattle.std.specs.Mem.Slots.{slots_counts, slots_items}
pub use Rattle.std.specs.Option.{option_or}
pub use Rattle.std.specs.Ordering.{nat_cmp}
pub use Rattle.std.specs.Prelude.{All, Contains, IfNone, IfSome, IsPermutation, IsSome, IsTrue, MatchOption, cond, filter, if◌then◌else◌, is_some, min, nat_le}
pub use Rattle.std.specs.Prelude.{nat_lt, not, option_to_list, slice_get, slice_index, slice_set, unwrap_or, ◌&&◌, ◌==◌, ◌||◌}
pub use Rattle.std.specs.Vec.{vec_capacity}
pub use Rattle.step_core.proofs.Common.{AreSameRuns-cleared, HasLooked, HasLooked-trans, HasWord-load, HoldRun-whole, IsBounded-seen, IsBounded-steered}
pub use Rattle.step_core.proofs.Common.{IsCostBelow, IsCut-looker, IsCut-parted, IsLater, IsLater-best, IsLater-claimed, IsLater-counted, IsLater-finished}
pub use Rattle.step_core.proofs.Common.{IsLater-half, IsLater-joined, IsLater-link, IsLater-loaded, IsLater-lowered, IsLater-pointed, IsLater-refl}
pub use Rattle.step_core.proofs.Common.{IsLater-stepped, IsLater-trans, IsLater-treed, IsLawfulView, IsLawfulView-world, IsOnWayOf-found, IsPresent-later}
pub use Rattle.step_core.proofs.Common.{IsPresent-seen, IsSeenPair, IsSteered, IsTurnWord-packed, IsUnskipped, IsViewOf, IsWorld, IsWorld-best_loaded}
pub use Rattle.step_core.proofs.Common.{IsWorld-claimed, IsWorld-counted, IsWorld-cut, IsWorld-half, IsWorld-joined, IsWorld-linked, IsWorld-loaded}
pub use Rattle.step_core.proofs.Common.{IsWorld-lowered, IsWorld-pointed, IsWorld-posted, IsWorld-recorded, IsWorld-started, IsWorld-treed, LeadsTo}
pub use Rattle.step_core.proofs.Common.{MayBeRecorded, MayEnd, MayHang, MayLoad, MayLower, MayPost, MayRecord, SeesCost, SeesGoal, SeesNode, SeesPoint}
pub use Rattle.step_core.proofs.Common.{SeesPoint-later, SeesTree-apart, SeesTree-looker, SeesTree-parted, SeesTree-stepped, StandsAsSeen, StandsAsSeen-whole}
pub use Rattle.step_core.proofs.Common.{WritesWord-look_best, WritesWord-looked, WritesWord-saw, WritesWord-zero, at-set, best_loaded, best_with}
pub use Rattle.step_core.proofs.Common.{children-whole, claimed, count-most, count-whole, counted, counters, crew_from, finished, finished_at, follow, goes_at}
pub use Rattle.step_core.proofs.Common.{half, hand_with_best, hand_with_post, has_first, has_point, in_hand, joined, last_look, last_note, last_seen}
pub use Rattle.step_core.proofs.Common.{last_seen-table, last_zero, linked, linked-present, linked_at, linked_point, linked_points, live, loaded, looker}
pub use Rattle.step_core.proofs.Common.{lower-found, lowered, mark_of, member_of, new_hand, nodes-whole, note_before, noting, one_turn_more, own_count}
pub use Rattle.step_core.proofs.Common.{own_count-most, own_workers-whole, pair_in_hand, parted, place_in, point_at-kept, point_at-seen, pointed, points-whole}
pub use Rattle.step_core.proofs.Common.{post_noted, posted, records-whole, run_of, run_sizes, same_name, saw, saw_at, second_alone, seen-within}
pub use Rattle.step_core.proofs.Common.{seen_first_cost, seen_within, sees, sees-linked, sees-whole, setup_in, share, spent, state_in, state_of_links, stays_at}
pub use Rattle.step_core.proofs.Common.{steps_then, took_over, tree, tree-written, tree_seen, treed, with_post, without_second, word_at-merged, words_of_run}
pub use Rattle.step_core.proofs.Common.{worker_apart, zero-read}
pub use Rattle.step_core.proofs.Parts.NotedSteps.{last_seen-same}
pub use Rattle.step_core.proofs.Seen.DistinctNumbers.{Contains-cases, Contains-none}
pub use Rattle.step_core.specs.declared.views.Hand.{Hand}
pub use Rattle.step_core.specs.declared.views.Member.{Member}
pub use Rattle.step_core.specs.declared.views.Note.{Note}
pub use Rattle.step_core.specs.declared.views.SharedRun.{SharedRun}
pub use Rattle.step_core.specs.declared.views.Stage.{Stage}
pub use Rattle.step_core.specs.declared.views.Stage.TheVariants.{Claimed, Counted, Half, Linked, Pointed, Posted, Treed}
pub use Rattle.step_core.specs.declared.views.View.{View}
pub use Rattle.grown_runs.proofs.Runs.FittingStates.{recorded-below}
pub use Rattle.grown_runs.proofs.Runs.HeldRuns.{none_past-held}
pub use Rattle.plan_model.proofs.WorkerTurns.{turns_of-longer}
