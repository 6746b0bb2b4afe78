-- The definitions and lemmas that proofs of this crate are about, passed on from one place. Declares nothing.
pub use Rattle.grown_runs.proofs.Common.{AddsNode, AddsPoint-stands, All-task_marks_within, Apart, AreBehind, AreBehind-refl, AreBehind-trans, AreDistinct}
pub use Rattle.grown_runs.proofs.Common.{AreDistinct-true, AreSameRuns, AreSeenLawfully, AreSeenLawfully-either, AreSeenLawfully-grows, AreSeenLawfully-whole}
pub use Rattle.grown_runs.proofs.Common.{AreTurns, AreTurns-longer, AreTurns-recorded, Best, Blocked, ChildOf, Children, Clear, Clear-alone, ClearAt, Count}
pub use Rattle.grown_runs.proofs.Common.{Counter, EndsBelow, EndsBelow-free, EndsSince, Falling, Falls, FillsPlaces, FirstOf, FitsWord, FollowSeenWays}
pub use Rattle.grown_runs.proofs.Common.{FollowSeenWays-true, FollowWays, FollowWays-links, GrowsInto, GrowsInto-refl, Hangs, Hangs-grows, HangsLawfully}
pub use Rattle.grown_runs.proofs.Common.{HasLawfulEnding, HasSeenAtLeast, HasSeenAtLeast-refl, HasWord, HasWord-true, HaveSameEarlier, HaveSameTree}
pub use Rattle.grown_runs.proofs.Common.{HaveWholePairs, HoldRun, IsAllowedEdge, IsBlank, IsBlockedLawfully, IsBounded, IsBounded-stands, IsBounded-word}
pub use Rattle.grown_runs.proofs.Common.{IsChosenLawfully, IsClosed, IsClosed-same_run, IsCutAt-quota, IsEarlier, IsFirstWord, IsFree, IsFree-ends, IsGoalNode}
pub use Rattle.grown_runs.proofs.Common.{IsGoalNode-before, IsGoalNode-grows, IsLaterMoment, IsLawfulRecord, IsLawfulRecord-grows, IsLeastBest, IsLinked}
pub use Rattle.grown_runs.proofs.Common.{IsNeighbour, IsOnWay, IsOnWay-fills, IsOnWay-true, IsOnWay-unique, IsPlacedLawfully, IsPointWord, IsPointWord-packed}
pub use Rattle.grown_runs.proofs.Common.{IsPresent, IsPresent-goal, IsPresent-grows, IsPresent-stands, IsPresent-true, IsRooted, IsSeen, IsSeen-more}
pub use Rattle.grown_runs.proofs.Common.{IsSkippedLawfully, IsSteeredLawfully, IsStep-steered, IsTreeWord, IsTreeWord-packed, IsTrueOf, IsTurnWord, IsWritten}
pub use Rattle.grown_runs.proofs.Common.{KeepsFirstCosts, KeepsFirstCosts-adds, KeepsFirstCosts-closed, KeepsFirstCosts-lowered, KeepsOrLowers, KeepsOrder}
pub use Rattle.grown_runs.proofs.Common.{KeepsOrder-adds, KeepsOrder-lowered, KeepsSight, LooksAt, LowersCosts, LowersCosts-rewires, LowersCosts-same}
pub use Rattle.grown_runs.proofs.Common.{MOST_NODES, MOST_WORKERS, MayBecome, MayBecome-both, MayBecome-refl, MayBecome-trans, MayLookAt, NewNode, NoWay, Once}
pub use Rattle.grown_runs.proofs.Common.{Outcome, Placed, Point, PointOf, Reached, ReachesLawfully, Record, RecordOf, RecordsMark, Rising, Same, SameNode}
pub use Rattle.grown_runs.proofs.Common.{SeenTree, SeenWords, Setup, SharedTree, Sight, Sizes, Skipped, StandsAt, StandsAt-present, StandsAt-unique}
pub use Rattle.grown_runs.proofs.Common.{StandsStill, Task, TreeOf, TreeState, Word, WordKind, Words, WritesWord, WritesWord-set, below, best_cost_in}
pub use Rattle.grown_runs.proofs.Common.{best_node_in, best_word, child_of_word, children_of_words, class_of, class_of-le, cleared, cost-grows, cost_in}
pub use Rattle.grown_runs.proofs.Common.{cost_in-tree_word, cost_of, cost_of-short, count-all, count-first, count-longer, count-next, count-none}
pub use Rattle.grown_runs.proofs.Common.{count-one_more, count-same, count-single, count-wider, earlier_count, earlier_step, ending_as, first_cost_of}
pub use Rattle.grown_runs.proofs.Common.{first_cost_through, first_hanging, goes_right, has_node, has_node-present, has_outcome, has_placed, has_word}
pub use Rattle.grown_runs.proofs.Common.{if_written-set, in_child, is_claimed, is_claimed-below, is_claimed-now, is_claimed-other, is_claimed-past, is_earlier}
pub use Rattle.grown_runs.proofs.Common.{is_earlier-same, is_earlier-same_records, is_earlier_record, is_goal_point, is_linked, is_linked-child}
pub use Rattle.grown_runs.proofs.Common.{is_linked-closed, is_linked-linked, is_linked-start, is_of_turn, is_of_worker, is_placed, is_within, kind_at, kind_of}
pub use Rattle.grown_runs.proofs.Common.{last_field, last_step, later_word, length-marks, mark_at, mark_bound, min-either, most_cost_of, most_cost_of-le}
pub use Rattle.grown_runs.proofs.Common.{most_cost_of-more, most_cost_of-within, new_or_recorded, no_best, no_goal_node, node_count, node_count-grows}
pub use Rattle.grown_runs.proofs.Common.{node_count-length, node_count-some, node_place, node_point, node_point_by, node_present, none_some, not_claimed-yet}
pub use Rattle.grown_runs.proofs.Common.{not_empty, number_of_outcome, once_if, outcome_in, outcome_in-record_word, parent_in, parent_in-tree_word, place_of}
pub use Rattle.grown_runs.proofs.Common.{place_of-within, point_at, point_at-words, point_in-stands, point_of, point_of-grows, point_of-stands, point_of_word}
pub use Rattle.grown_runs.proofs.Common.{point_of_word-packed, point_of_word-stands, point_word, points_of_words, present-within, quota_of, radius_of_class}
pub use Rattle.grown_runs.proofs.Common.{record_at, record_in, record_of_word, record_of_word-packed, record_word, record_word-again, recorded_or, run_words}
pub use Rattle.grown_runs.proofs.Common.{seen_point, seen_tree_of_words, seen_whole, setup_of, sight_of_words, sizes_of, skipping_goals, squared_distance}
pub use Rattle.grown_runs.proofs.Common.{start, start_present-held, start_stands-held, state_by-closed, state_of_grown, state_of_words, steered, step-steers}
pub use Rattle.grown_runs.proofs.Common.{sum-le, sum-more, sum-most, sum-up, tree_of_word, tree_word, turn-below, turn_in, turns_of, turns_of-recorded}
pub use Rattle.grown_runs.proofs.Common.{turns_of-recorded_by_other, unplaced_at, way_start, way_stops, whole_pair, whole_record, word_at-false, word_at-has}
pub use Rattle.grown_runs.proofs.Common.{word_at-none, word_count, words_of_grown, worker_in, zeros}
pub use Rattle.grown_runs.proofs.Table.WordReads.{place_of-once}
pub use Rattle.grown_runs.specs.Table.RunWords.{IsNodeWord}
pub use Rattle.grown_runs.specs.declared.grown.Grown.{Grown}
pub use Rattle.plan_model.proofs.ListMembers.{Contains-after}
pub use Rattle.plan_model.proofs.SumsBelow.{sum-same}
pub use Rattle.std.proofs.Common.{Bool, List, None, Option, Some, [], ap, arith, eqb, false, inl, inr, is_some, le_refl, le_trans, length, length-append, map}
pub use Rattle.std.proofs.Common.{max, refl, set, subst, suc, sym, true, zero, zero-le, ℕ, ◌%◌, ◌*◌, ◌++◌, ◌+◌, ◌-◌, ◌/◌, ◌<◌, ◌^◌, ◌∙◌, ◌∷◌, ◌≡◌, ◌≢◌, ◌≤◌}
pub use Rattle.std.proofs.Common.{◌⊎◌}
pub use Rattle.std.proofs.lemmas.Bool.{and_parts, cases_Bool, cases_eq, cases_lt, cases_order, eq-eqb, eqb-false, eqb-true, le-leb, le-ltb, leb-true, lt-leb}
pub use Rattle.std.proofs.lemmas.Bool.{lt-ltb, ltb-true, ne_eqb}
pub use Rattle.std.proofs.lemmas.List.{get_or_past, length-map, length-replicate, length-set}
pub use Rattle.std.proofs.lemmas.List.Elements.{All-get_or, Contains-append_cases, Contains-append_left, Contains-append_right}
pub use Rattle.std.proofs.lemmas.List.FromFn.{get_or-map-range_with_len, length-map-range_with_len, length-range_with_len, map-range_with_len_more}
pub use Rattle.std.proofs.lemmas.List.Sums.{length-filter, sum_by-append, sum_by-cons, sum_by_push}
pub use Rattle.std.proofs.lemmas.Map.Keys.{IsDistinct-cons}
pub use Rattle.std.proofs.lemmas.Map.Steps.{length-le_from_distinct_below}
pub use Rattle.std.proofs.lemmas.Nat.{div-add-mod', div-mul-add, mod-mul-add, mod_below}
pub use Rattle.std.proofs.lemmas.Option.{same_Some}
pub use Rattle.std.specs.Int.{abs_diff}
pub use Rattle.std.specs.List.{AllByRecursion, count_by, list_any, range_with_len, sum_by}
pub use Rattle.std.specs.Prelude.{Contains, IsSome, IsTrue, cond, if◌then◌else◌, nat_le, nat_lt, option_map, replicate, slice_index, slice_set, unwrap_or, ◌&&◌}
pub use Rattle.std.specs.Prelude.{◌==◌, ◌||◌, ◌↔◌}
pub use Rattle.step_core.specs.Histories.{HasCome, HasLooked, HasOrFell, IsLater, IsLawfulView, StandsAsSeen, WasFree, WasSo}
pub use Rattle.step_core.specs.Histories.HasCome.{steps}
pub use Rattle.step_core.specs.Notes.{Empties, FillsNoPlace, GoesTo, HasMade, HasNoted, IsAmong, IsAsPlaced, IsLoaded, IsNoteOf, IsNoted, KnowsAsBefore, Notes}
pub use Rattle.step_core.specs.Notes.{NotesAsSeen, SeesSome, SomeNote, last_seen}
pub use Rattle.step_core.specs.SeenBests.{IsAtMostPlaced, IsInformed, IsUnskipped, MayBeSkipped, MayPost, SeesGoal, seen_first_cost}
pub use Rattle.step_core.specs.SeenRecords.{IsOwnNeighbour, MayBeBlocked, MayBePlaced, MayEnd, MayReach, MayRecord, MaySteer, is_own_node, own_count}
pub use Rattle.step_core.specs.SeenRecords.{own_first_cost}
pub use Rattle.step_core.specs.Stages.{MayBeRecorded, has_count, has_first, has_link, has_point, has_tree, holds_at, linked_point, linked_points}
pub use Rattle.step_core.specs.Stages.{shared_tree_of_words, state_of_links}
pub use Rattle.step_core.specs.Steps.{IsMoment, MayFinish, Moment, Step, Steps, steps_by, view_after, views_after}
pub use Rattle.step_core.specs.Views.{IsSharedRun, IsViewOf, crew_from, holds, last_look, last_zero, member_of, newcomer, no_run, run_of, run_sizes, sees}
pub use Rattle.step_core.specs.Views.{setup_in, share, spent, times, took_over, tree_seen, words_of_run}
pub use Rattle.step_core.specs.ViewSteps.{best_loaded, best_taken, best_with, claimed, counted, finished, half, hand_with_best, hand_with_post, joined, linked}
pub use Rattle.step_core.specs.ViewSteps.{loaded, looker, lowered, mark_of, merged, new_hand, one_turn_more, pair_in_hand, parted, place_in, pointed}
pub use Rattle.step_core.specs.ViewSteps.{post_noted, posted, saw, second_alone, stepped, steps_made, steps_then, treed, unlooked, with_best, without_second}
pub use Rattle.step_core.specs.ViewSteps.{worker_apart}
pub use Rattle.step_core.specs.ViewTrees.{IsCostBelow, IsOnWayOf, IsSeenPair, IsSteered, LeadsTo, MayHang, MayLoad, MayLower, SeesCost, SeesHand, SeesNode}
pub use Rattle.step_core.specs.ViewTrees.{SeesPoint, SeesTree, sight_in}
pub use Rattle.step_core.specs.Worlds.{Agree, BestCopy, BestWord, ClaimedMarks, Copies, EachView, Hands, IsBestWord, IsFirstOf, IsMember, IsRecordWord, IsTold}
pub use Rattle.step_core.specs.Worlds.{IsWorld, LinkedTree, Pairs, Records, SeenBehind, SeenBests, SeenPairs, SeesBest, Shares, SomeSharer, Trees, TreesSeen}
pub use Rattle.step_core.specs.Worlds.{Turns, counted_once, counters, greatest_limit, hands_at, holders, is_recorded, limit_of, maximum, state_in}
pub use Rattle.step_core.specs.declared.views.Hand.{Hand}
pub use Rattle.step_core.specs.declared.views.Member.{Member}
pub use Rattle.step_core.specs.declared.views.Note.{Note}
pub use Rattle.step_core.specs.declared.views.SharedRun.{SharedRun}
pub use Rattle.step_core.specs.declared.views.Stage.{Stage}
pub use Rattle.step_core.specs.declared.views.Stage.TheVariants.{Claimed, Counted, Half, Linked, Pointed, Posted, Treed}
pub use Rattle.step_core.specs.declared.views.View.{View}
pub use lib.ListN.{get_elem?}
pub use mathlib.Core.Option.{some, some-injective, some-ne-none}
