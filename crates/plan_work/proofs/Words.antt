-- The definitions and lemmas that proofs of this crate are about, passed on from one place. Declares nothing.
pub use Rattle.grown_runs.proofs.Common.{AddsNode, AddsNode-placed, All-goals_bounded, AreBehind, AreBehind-refl, AreBehind-trans, AreSameRuns}
pub use Rattle.grown_runs.proofs.Common.{AreSameRuns-trans, Best, Blocked, ChangesOnly, Clear, Clear-back, ClearAt, ConfigurationSpace, Contains-after}
pub use Rattle.grown_runs.proofs.Common.{Contains-first, Contains-near, Count, Counter, Ends, EndsSince, EndsSince-later, FirstHanging, FirstOf, Goal}
pub use Rattle.grown_runs.proofs.Common.{GrowsInto, Handles, HandlesAll, HandlesAll-length, HandlesAll-nodes, HandlesAll-push, HaveSameNodes-absent, HoldRun}
pub use Rattle.grown_runs.proofs.Common.{IsBestGoalNode, IsBestParent, IsBounded, IsBounded-scene_start, IsBoundedBox, IsClosed-textbook, IsCounter}
pub use Rattle.grown_runs.proofs.Common.{IsFirstLeast, IsFirstWord, IsFree, IsGoalNode, IsMarkOf-own, IsNotAbove, IsNotAbove-lesser}
pub use Rattle.grown_runs.proofs.Common.{IsOfTextbookRun, IsOpenTo, IsPresent, IsPresent-goal}
pub use Rattle.grown_runs.proofs.Common.{IsPresent-stands, IsStep-steered, IsSwept, IsTextbookRun, KeepsOrder, MayBeCheaper, MayBeCheaper-not_skipping}
pub use Rattle.grown_runs.proofs.Common.{MayBecome, NewNode, NoWay, Nodes, Outcome, PlacesNode, Point, PointOf, Reached, Reaches, Record, Record-from_fields}
pub use Rattle.grown_runs.proofs.Common.{RecordOf, RecordsMark-push, RecordsNext, Rewires, SameNode, Scene, Setup, Sight, Sizes, Skipped, StandsAt-present}
pub use Rattle.grown_runs.proofs.Common.{Steered, SteersTo, Task, TreeOf, TreeState, Word, Words, WritesWord, best_cost_in, best_node_in, best_of_word}
pub use Rattle.grown_runs.proofs.Common.{best_word, candidate-reachable, class_of, class_of-le, cost_in, cost_in-tree_word, cost_of, cost_of-swap, cost_through}
pub use Rattle.grown_runs.proofs.Common.{count-all, count-longer, count-same, count-some, distance_to, ending_of, goals-some, greatest-le, has_node, is_claimed}
pub use Rattle.grown_runs.proofs.Common.{is_claimed-below, is_claimed-now, is_claimed-other, is_claimed-past, is_goal_point, is_linked, is_linked-child}
pub use Rattle.grown_runs.proofs.Common.{is_linked-start, is_of_worker, is_placed, is_within, kind_of, lies_in_goals, ltb-next, mark_at, mark_bound}
pub use Rattle.grown_runs.proofs.Common.{mark_points, near, near_new, no_best, node_at-absent, node_count, node_count-same, node_point-here, parent_in}
pub use Rattle.grown_runs.proofs.Common.{parent_in-tree_word, parent_of, parent_or_zero, point_at, point_at-past, point_at-same, point_at-words, point_of}
pub use Rattle.grown_runs.proofs.Common.{point_of-stands, point_of_word, points_of, points_of_words, quota_of, quotas-add_up, radius_of, radius_of_class}
pub use Rattle.grown_runs.proofs.Common.{range-more, reached-unskipped, record_at, record_of_word, record_of_word-packed, record_word, same_point-true}
pub use Rattle.grown_runs.proofs.Common.{seen_point, seen_tree_of_words, setup_of, sizes_of, skipping_goals, space_of, squared_distance, start_alone, state_of}
pub use Rattle.grown_runs.proofs.Common.{state_of_grown, steered, steered-near, strip_of_mark, sum-le, sum-placed, sum_of, tree_word, turns_of, unplaced_record}
pub use Rattle.grown_runs.proofs.Common.{words_of_grown}
pub use Rattle.grown_runs.proofs.Runs.GrownPoints.{point_at-absent}
pub use Rattle.grown_runs.specs.declared.grown.Grown.{Grown}
pub use Rattle.kd_shared.proofs.Looking.{OnlyLooks-refl}
pub use Rattle.kd_shared.proofs.PassLooks.{PassLooks-load}
pub use Rattle.kd_shared.proofs.SearchResults.{SweepsWithin-begun, SweepsWithin-later, SweepsWithin-less}
pub use Rattle.kd_shared.proofs.SortedNear.{is_within-near, near-increases, near-within}
pub use Rattle.kd_shared.specs.Looking.{OnlyLooks, OnlyLooks-trans, PassLooks}
pub use Rattle.kd_shared.specs.Placings.{GoesOnPlacing, IsPlaced, IsPlacing, KeepsShare, SeesPlacing}
pub use Rattle.kd_shared.specs.Searches.{AreGathered, IsNearestSeen, SweepsWithin}
pub use Rattle.kd_shared.specs.declared.placing.Placing.{Placing}
pub use Rattle.plan_model.proofs.TreeChanges.{sum-same}
pub use Rattle.plan_model.specs.Runs.Endings.{ending_as}
pub use Rattle.plan_words.proofs.Common.{AllFull, AllLoaded, BelongsTo, BelongsTo-later, FindsGoalNode, GoesOn, GoesOn-more, GoesOn-trans, HasGoneOn}
pub use Rattle.plan_words.proofs.Common.{HasMember-held, HasNoneLeft, HasPostedGoals, HasPostedGoals-more, HasPostedGoals-step, HasWholeShare, IsClaimed}
pub use Rattle.plan_words.proofs.Common.{IsLeastOpen, IsOrPosted, KeepsHand, OwnsAllStrips-alone, PassState, RaisesCounter, SeesAsBefore, SeesBestSince}
pub use Rattle.plan_words.proofs.Common.{SeesBestSince-trans, SeesGoal-kept, SharedState, StartsAs, entry_fits, goal-at, lies-at, new_pass, no_goals}
pub use Rattle.plan_words.proofs.Common.{numbers_of, run_in, turn_of, weighed, with_view, without_best, worker_of}
pub use Rattle.plan_words.proofs.GoingOn.{GoesOn-refl}
pub use Rattle.plan_words.proofs.KeptPairs.{if_hand}
pub use Rattle.plan_words.proofs.RisingNumbers.{Contains-number}
pub use Rattle.plan_words.specs.States.{MayClaim}
pub use Rattle.plan_words.specs.declared.spots.Found.{Found}
pub use Rattle.plan_work.specs.ExtensionSteps.{FitsWord, HasBeenPlaced, HasCome, HasFilledNear, HasLoadedBest, HasReached, HasRecorded, IsFilledSince, IsHung}
pub use Rattle.plan_work.specs.ExtensionSteps.{IsNearestOf, IsPointed, IsSteeredAndHandled, IsSteeredTo, IsTried, KeepsRecords, MayPlace, given_by, hung_by}
pub use Rattle.plan_work.specs.ExtensionSteps.{own_placed, own_unplaced, placed_hand, placed_stage}
pub use Rattle.plan_work.specs.Extensions.{EndsAsSeen, HandlesMark, HasSteered, IsExtended, IsPlacedAt, IsWithinRadius, MayExtend, ReachesAsSeen}
pub use Rattle.plan_work.specs.Extensions.{WasChosen, WasNeighbour, WasNotSkipped, WasRewired, WasSkipped, WasSteered, radius_in, steered_point}
pub use Rattle.plan_work.specs.OneWorker.{HandlesRest, HasClaimed, HasCounted, HasHandled, IsFilledWhole, IsNotSkippedIn, IsOfTextbook, IsSteeredWhole}
pub use Rattle.plan_work.specs.OneWorker.{IsTriedWhole, KeepsNode, KeepsOthers, SeesButCount, SeesTextbook, WorksAlone}
pub use Rattle.plan_work.specs.Workers.{AllExtended, HasDone, HasLeft, HasStopped, HasTakenOver, HasWorked, IsReady, left_by, left_of, shares_of, workers_with}
pub use Rattle.plan_work.specs.declared.growing.Worker.{Worker}
pub use Rattle.plan_work.specs.declared.growing.Worker.TheVariants.{Away, Stopped, Working}
pub use Rattle.plan_work.specs.declared.mark_placing.Hanging.{Hanging}
pub use Rattle.plan_work.specs.declared.mark_steering.Steering.{Steering}
pub use Rattle.std.proofs.Common.{Bool, List, None, Option, Some, [], ap, arith, cond, false, inl, inr, length, length-append, ltb, refl, subst, suc, sym, take}
pub use Rattle.std.proofs.Common.{rules, true, zero, ℕ, ◌%◌, ◌*◌, ◌++◌, ◌+◌, ◌-◌, ◌/◌, ◌<◌, ◌^◌, ◌∙◌, ◌∷◌, ◌≡◌, ◌≢◌, ◌≤◌}
pub use Rattle.std.proofs.Math.Seq.{take-append_seam, take-suc}
pub use Rattle.std.proofs.lemmas.Bool.{cases_Bool, cases_eq, cases_lt, eq-eqb, le-ltb, leb-true, lt-ltb, true≢false}
pub use Rattle.std.proofs.lemmas.Bool.Decides.{nat_tests}
pub use Rattle.std.proofs.lemmas.List.{append-nil, append_assoc, get_or_past, length-take-le, map-append, take_all, take_more}
pub use Rattle.std.proofs.lemmas.List.Elements.{All-cons, All-contains, All-map, Contains-get_or, filter-append, filter_agree}
pub use Rattle.std.proofs.lemmas.List.FromFn.{length-map-range_with_len}
pub use Rattle.std.proofs.lemmas.List.Sums.{length-filter}
pub use Rattle.std.proofs.lemmas.Nat.{mul-le}
pub use Rattle.std.proofs.lemmas.Option.{get_or_from_slice_get, same_Some, slice_get_past, slice_get_within}
pub use Rattle.std.specs.List.{range_with_len}
pub use Rattle.std.specs.Prelude.{All, Contains, IfSome, IsSome, IsTrue, is_some, map, max, nat_le, option_to_list, slice_get, slice_index_or, unwrap_or, ◌==◌}
pub use Rattle.std.specs.Prelude.{min, ◌⊎◌}
pub use Rattle.step_core.proofs.Common.{Contains-cases, GrowsInto-seen, IsBounded-seen, IsCostBelow, IsInformed, IsLater, IsLaterMoment-later, IsLawfulView}
pub use Rattle.step_core.proofs.Common.{IsOwnNeighbour, IsSteered, IsUnskipped, KeepsSight-lawful, MayBeRecorded, MayBeSkipped, MayEnd, MayHang, MayPost}
pub use Rattle.step_core.proofs.Common.{MayReach, MayRecord, MaySteer, SeesGoal, SeesPoint, StandsAsSeen, WritesWord-looked, WritesWord-saw, best_loaded}
pub use Rattle.step_core.proofs.Common.{best_taken, counters, finished, half, hand_with_best, hand_with_post, has_count, has_first, has_link, has_node-recorded}
pub use Rattle.step_core.proofs.Common.{is_own_node, is_own_node-earlier, last_look, last_note, linked-present, linked-within, linked_points, loaded, mark_of}
pub use Rattle.step_core.proofs.Common.{member_of, new_hand, one_turn_more, own_count, own_first_cost, own_recorded, pair_in_hand, point_at-linked}
pub use Rattle.step_core.proofs.Common.{point_at-seen, pointed, post_noted, present_recorded, run_of, run_sizes, seen-within, sees, setup_in, share, sight_in}
pub use Rattle.step_core.proofs.Common.{state_of_links, tree_seen, treed, with_post}
pub use Rattle.step_core.specs.declared.views.Hand.{Hand}
pub use Rattle.step_core.specs.declared.views.Member.{Member}
pub use Rattle.step_core.specs.declared.views.SharedRun.{SharedRun}
pub use Rattle.step_core.specs.declared.views.Stage.{Stage}
pub use Rattle.step_core.specs.declared.views.Stage.TheVariants.{Claimed, Counted, Half, Pointed, Posted}
pub use Rattle.step_core.specs.declared.views.View.{View}
pub use Rattle.tree_rewire.proofs.ChosenFound.{AllWeighed-seen, IsNextWord-more, IsNextWord-none}
pub use Rattle.tree_rewire.proofs.ChosenParents.{IsInReach-later}
pub use Rattle.tree_rewire.proofs.CostSteps.{PassSees-point}
pub use Rattle.tree_rewire.proofs.FoundLists.{All-at, AreOf-weighed, Contains-image, Contains-source, numbers-weighed}
pub use Rattle.tree_rewire.proofs.SeenCosts.{SeesPair-later, cost_seen-later, point_later, stands_later}
pub use Rattle.tree_rewire.proofs.SpreadFalls.{HasSpreadFalls-still}
pub use Rattle.tree_rewire.specs.NearNodes.{AreOf, IsMeasured, IsNextWord, IsWeighed}
pub use Rattle.tree_rewire.specs.Spreads.{HasPlaced, HasSpreadFalls, Mirrors}
pub use Rattle.tree_rewire.specs.SeenCosts.{IsBestParentSeen, IsInReach, IsLoadedSince, NamesLoweredOrPoint, NamesTree, SeesAnew, SeesPair, cost_seen}
pub use Rattle.tree_rewire.specs.SeenCosts.{seen_cost_through}
pub use Rattle.edge_cost.proofs.CostBounds.{squared_distance-low}
pub use Rattle.edge_cost.specs.LeastParents.{IsLeastParent}
pub use Rattle.edge_cost.specs.declared.parents.Parent.{Parent}
pub use Rattle.tree_rewire.proofs.NearLists.{IsMeasured-later}
