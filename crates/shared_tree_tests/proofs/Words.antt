-- The definitions and lemmas that proofs of this crate are about, passed on from one place. Declares nothing.
pub use Rattle.grown_runs.proofs.Common.{Apart, AreBehind, AreBehind-refl, AreInRoom-from_clear, AreSeenLawfully, Best, Blocked, ChildOf, Clear}
pub use Rattle.grown_runs.proofs.Common.{Clear-empty_room, Clear-first, ClearAt, Count, Counter, FirstOf, FollowWays, FollowWays-start, HasWord, HaveWholePairs}
pub use Rattle.grown_runs.proofs.Common.{IsAllowedEdge, IsBounded, IsNotAbove, IsPresent, IsPresent-stands, IsRooted, IsSeen}
pub use Rattle.grown_runs.proofs.Common.{IsStartWord, IsWritten, Listed, MOST_MARKS, MOST_SIDE, NewNode, Outcome, Point, PointOf, Reached, Record, RecordOf}
pub use Rattle.grown_runs.proofs.Common.{SameNode, Sizes, StandsAt, StandsAt-present, TreeOf, Word, Words, WritesWord, WritesWord-set, at, begins, below_digits}
pub use Rattle.grown_runs.proofs.Common.{best_cost_in, best_of_word, best_word, child_of_word, children_of_words, class_from_powers, class_of, class_of-le}
pub use Rattle.grown_runs.proofs.Common.{cost_in, cost_of, count-single, distance_to, empty_room, ending_as, first_hanging, goals-some, goes_on}
pub use Rattle.grown_runs.proofs.Common.{goes_right, greatest-passes, has_node, has_placed, in_child, is_claimed, is_claimed-past, is_earlier_record}
pub use Rattle.grown_runs.proofs.Common.{is_goal_point, is_linked, is_mark, is_placed, is_plan, is_within, kind_of, lies_in_goals, mark_at, mark_bound}
pub use Rattle.grown_runs.proofs.Common.{no_best, no_goal_node, once_if, place_of, placed_by, point_at, point_of, point_of-stands}
pub use Rattle.grown_runs.proofs.Common.{point_of_word, point_word, quota_of, radius_of_class, record_at, record_at-past, record_at-unwritten}
pub use Rattle.grown_runs.proofs.Common.{root_ceiling-from_squares, root_ceiling-zero, same-from_distance, same_x, seen_tree_of_words, space_of}
pub use Rattle.grown_runs.proofs.Common.{squared_distance, steered, steered-near, times_of, tree_of_word, tree_word, turns_of, unplaced_record, word_at-none}
pub use Rattle.kd_shared.specs.Placings.{IsPlaced, IsPlacing, IsSame}
pub use Rattle.kd_shared.specs.Searches.{IsNearestSeen}
pub use Rattle.kd_shared.specs.declared.placing.Placing.{Placing}
pub use Rattle.plan_words.proofs.Common.{AllFull, BelongsTo-later, GoesOn, HasLinked, IsBounded-hand, KeepsHand, MayHang-nearest, MayHang-start, PassState}
pub use Rattle.plan_words.proofs.Common.{SharedState, at_hand, goal-at, if_hand, run_in, with_view}
pub use Rattle.plan_words.proofs.PlainScenes.{no_goals}
pub use Rattle.plan_words.specs.States.{MayClaim}
pub use Rattle.shared_tree_tests.specs.HeldPasses.HeldMarks.{HangsFromStart, HasShare, HoldsMark, TakesBest}
pub use Rattle.shared_tree_tests.specs.SmallRuns.SmallRecords.{claimer_at_start, claimer_in, counter_of, dearer, entries, tree_by}
pub use Rattle.shared_tree_tests.specs.SmallRuns.SmallViews.{waited}
pub use Rattle.shared_tree_tests.specs.SmallRuns.SmallWorlds.{AreLawfulLooks, claimed_table, filled_at, goal_run, hand_at, idle, linked_table, never, small_run}
pub use Rattle.shared_tree_tests.specs.SmallRuns.SmallWorlds.{start_table, took_best, view_with, worker_at}
pub use Rattle.shared_tree_tests.specs.SteeredPasses.HeldMarks.{HangsBelowNearest, IsNearestRecorded, SeesHandPoint, SteersFrom}
pub use Rattle.std.proofs.Common.{Bool, List, None, Option, Some, [], ap, arith, cond, false, inl, inr, leb, length, length-append, refl, subst, suc, sym, true}
pub use Rattle.std.proofs.Common.{zero, ℕ, ◌*◌, ◌++◌, ◌+◌, ◌-◌, ◌/◌, ◌<◌, ◌^◌, ◌∙◌, ◌∷◌, ◌≡◌, ◌≤◌}
pub use Rattle.std.proofs.Math.Nat.{mul-pos}
pub use Rattle.std.proofs.lemmas.Bool.{and_from, and_parts, cases_Bool, cases_lt, eq-eqb, le-leb, le-ltb, leb-true, lt-ltb, ne_eqb}
pub use Rattle.std.proofs.lemmas.List.{length-replicate}
pub use Rattle.std.proofs.lemmas.List.Elements.{All-pop, All-push, filter_agree}
pub use Rattle.std.proofs.lemmas.List.Folds.{list_all-append}
pub use Rattle.std.proofs.lemmas.List.Sums.{length-filter}
pub use Rattle.std.proofs.lemmas.Nat.{mod_below, pow_pos}
pub use Rattle.std.proofs.lemmas.Option.{same_Some}
pub use Rattle.std.specs.Int.{abs_diff}
pub use Rattle.std.specs.List.{filter, list_all, range_with_len, sum_by}
pub use Rattle.std.specs.Prelude.{All, Err, IfErr, IfNone, IfOk, IfSome, IsSome, IsTrue, Ok, Result, if◌then◌else◌, is_some, nat_le, nat_lt, not, replicate}
pub use Rattle.std.specs.Prelude.{slice_index, slice_index_or, slice_set, ◌&&◌, ◌==◌, ◌≢◌, ◌⊎◌}
pub use Rattle.step_core.proofs.Common.{Agree, AreBehind-nothing, AreSeenLawfully-all, EachView, HasFirst, HasMade, HasNoted, HasSeenAtLeast-later, HasTree}
pub use Rattle.step_core.proofs.Common.{IsInformed, IsLater, IsLater-trans, IsLawfulView, IsLoaded, IsMember, IsOwnNeighbour, IsPresent-seen}
pub use Rattle.step_core.proofs.Common.{IsUnskipped, IsViewOf, IsWorld, IsWrittenFor, LeadsTo, MayBePlaced, MayEnd, MayHang, MayPost, MayReach, MayRecord}
pub use Rattle.step_core.proofs.Common.{MaySteer, SeesBest, SeesCost, SeesNode, SeesPoint, SeesPoint-later, SeesTree, Trees, best_loaded}
pub use Rattle.step_core.proofs.Common.{best_taken, counters, half, hand_with_best, hand_with_post, has_link, has_node-recorded, has_point, is_own_node}
pub use Rattle.step_core.proofs.Common.{is_own_node-earlier, last_note, last_seen, last_seen-table, linked-present, linked_points, new_hand, own_count}
pub use Rattle.step_core.proofs.Common.{own_first_cost, own_recorded, point_at-linked, point_at-seen, pointed, post_noted, present_recorded, run_sizes}
pub use Rattle.step_core.proofs.Common.{same_name, seen-within, sees, setup_in, share, sight_in, spent, state_in, times, took_over, tree_seen, treed, with_post}
pub use Rattle.step_core.proofs.Common.{zero-read}
pub use Rattle.step_core.specs.Notes.{GoesTo, IsAmong, IsNoted}
pub use Rattle.step_core.specs.ViewSteps.{loaded}
pub use Rattle.step_core.specs.Views.{last_look, last_zero}
pub use Rattle.step_core.specs.declared.views.Hand.{Hand}
pub use Rattle.step_core.specs.declared.views.Member.{Member}
pub use Rattle.step_core.specs.declared.views.Note.{Note}
pub use Rattle.step_core.specs.declared.views.SharedRun.{SharedRun}
pub use Rattle.step_core.specs.declared.views.Stage.{Stage}
pub use Rattle.step_core.specs.declared.views.Stage.TheVariants.{Claimed, Counted, Half, Linked, Pointed, Posted, Treed}
pub use Rattle.step_core.specs.declared.views.View.{View}
