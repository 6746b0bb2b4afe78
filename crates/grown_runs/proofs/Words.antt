-- The definitions and lemmas that proofs of this crate are about, passed on from one place. Declares nothing.
pub use Rattle.grown_runs.specs.ChildChains.{AreChained, AreMembers, HasInChain, IndexesChains, IsIndex, MovesNode, OnlyMoves, front_in, siblings_from, times}
pub use Rattle.grown_runs.specs.ChildChains.{firsts_of, nexts_of, previouses_of, walk_from}
pub use Rattle.grown_runs.specs.Runs.GrownRuns.{CostsInstead, MayCost, state_of_grown, words_of_grown}
pub use Rattle.grown_runs.specs.Runs.GrownWords.{HoldRun, IsBlank, IsLinked, IsPointWord, IsTreeWord, IsWritten, child_of_word, children_of_words, cleared}
pub use Rattle.grown_runs.specs.Runs.GrownWords.{has_node, has_placed, is_child_of, is_linked, node_point, points_of_words, record_at, sizes_of, state_by}
pub use Rattle.grown_runs.specs.Runs.GrownWords.{state_of_words}
pub use Rattle.grown_runs.specs.Runs.GrownWords.IsLinked.{below}
pub use Rattle.grown_runs.specs.Runs.PackedRuns.{ChangesNode, ChangesRecord, CountsMarks, FitWords, FitsNode, FitsRecord, HasKnot, HoldLists, HoldsNode}
pub use Rattle.grown_runs.specs.Runs.PackedRuns.{HoldsRecord, IsKnot, IsWholeRecord, IsWordOfRecords, WritesNodes, WritesRecords, kept_cost_of}
pub use Rattle.grown_runs.specs.Runs.PackedRuns.{state_of_lists}
pub use Rattle.grown_runs.specs.Table.RunWords.{ClearsNode, ClearsNodes, IsNodeWord, words_in}
pub use Rattle.grown_runs.specs.Table.PlacesOfWords.{sizes_in}
pub use Rattle.grown_runs.specs.Table.WordKinds.{AreBehind, MayBecome, WordKind, kind_of}
pub use Rattle.grown_runs.specs.Table.WordKinds.WordKind.{Apart, Falling, Once, Rising}
pub use Rattle.grown_runs.specs.Table.WordNames.{ChangesOnly, IsChildWord, IsCounter, IsKnotWord, Word, Words, WritesWord}
pub use Rattle.grown_runs.specs.Table.WordNames.Word.{Best, ChildOf, Count, Counter, FirstOf, PointOf, RecordOf, TreeOf}
pub use Rattle.grown_runs.specs.Table.WordPlaces.{HasWord, Sizes, has_word, place_of, word_count}
pub use Rattle.grown_runs.specs.Table.Words.{FitsWord, IsFirstWord, best_cost_in, best_node_in, best_word, cost_in, if_written, last_field, last_in, nearest_in}
pub use Rattle.grown_runs.specs.Table.Words.{no_best, number_of_outcome, outcome_in, parent_in, placed_in, point_in, point_of_word, point_word, record_in}
pub use Rattle.grown_runs.specs.Table.Words.{record_of_word, record_word, tree_of_word, tree_word, turn_in, unplaced_in, worker_in}
pub use Rattle.grown_runs.specs.Ways.KdLinks.{AreLinkedBelow, AreUnlinked, ChangesChildren, LinksRise, MayLink, StopsAt, goes_right_by, is_by_rows}
pub use Rattle.grown_runs.specs.Ways.KdLinks.{points_below, side_of, split_distance, tree_below}
pub use Rattle.grown_runs.specs.declared.child_index.ChildIndex.{ChildIndex}
pub use Rattle.grown_runs.specs.declared.kd_walks.Stop.{Stop}
pub use Rattle.plan_model.proofs.BestNodeLaws.{IsPresent-goal}
pub use Rattle.plan_model.proofs.ChainLaws.{node_count-cons}
pub use Rattle.plan_model.proofs.ClassLaws.{class_from_powers}
pub use Rattle.plan_model.proofs.ClosedLaws.{IsClosed-lowered}
pub use Rattle.plan_model.proofs.CountLaws.{node_count-closed}
pub use Rattle.plan_model.proofs.CountsBelow.{count-more}
pub use Rattle.plan_model.proofs.EmptyRoomClearance.{IsInRoom-from_clear_at}
pub use Rattle.plan_model.proofs.EndingLaws.{Record-from_fields}
pub use Rattle.plan_model.proofs.LoweredCosts.{LowersCosts-lowers, LowersNode, StandsStill}
pub use Rattle.plan_model.proofs.MarkBounds.{length-marks}
pub use Rattle.plan_model.proofs.NewNodes.{IsPresent-stands, StandsAt-present, not_present, point_of-stands}
pub use Rattle.plan_model.proofs.NodeCounts.{node_count-same}
pub use Rattle.plan_model.proofs.OrderLaws.{most_cost_of-within, parent-present}
pub use Rattle.plan_model.proofs.PlacedNodes.{is_placed-true, present-of_record, record-of_present}
pub use Rattle.plan_model.proofs.RecordLaws.{class_of-le}
pub use Rattle.plan_model.proofs.SamePoints.{same_point-false}
pub use Rattle.plan_model.proofs.SameTrees.{IsClosed-same_run}
pub use Rattle.plan_model.proofs.SceneBounds.{IsBounded-in_room, IsBounded-scene_start, step-steers}
pub use Rattle.plan_model.proofs.SegmentLaws.{Clear-last}
pub use Rattle.plan_model.proofs.TextbookStates.{IsClosed-start}
pub use Rattle.plan_model.proofs.TreeChanges.{node_at-past, point_at-points_of}
pub use Rattle.plan_model.proofs.WayLinks.{AddsPoint-stands, FillsPlaces-trans, FollowWays-links, FollowWays-same, FollowWays-start, IsOnWay-fills}
pub use Rattle.plan_model.proofs.WayLinks.{new_or_old_child}
pub use Rattle.plan_model.proofs.WorkerTurns.{turn-below_limit}
pub use Rattle.plan_model.specs.Geometry.Plane.{IsBounded, squared_distance}
pub use Rattle.plan_model.specs.Geometry.Lengths.{class_of}
pub use Rattle.plan_model.specs.Runs.ClosedLaw.{HasLawfulEnding, IsClosed, has_outcome, mark_at}
pub use Rattle.plan_model.specs.Runs.Endings.{ending_as}
pub use Rattle.plan_model.specs.Runs.OrderLaw.{most_cost_of}
pub use Rattle.plan_model.specs.Runs.Outcomes.{is_placed, is_zero_unless_placed}
pub use Rattle.plan_model.specs.Runs.Textbook.{Setup, setup_of, skipping_goals, start_alone}
pub use Rattle.plan_model.specs.Scenes.MarkPoints.{quota_of, strip_of_mark}
pub use Rattle.plan_model.specs.Seen.SeenTrees.{AddsPoint, EndsBelow, FillsPlaces, FollowWays, IsOnWay, IsSeen, LinksAt, SeenTree, goes_right}
pub use Rattle.plan_model.specs.Seen.SeenTrees.IsOnWay.{begins, goes_on}
pub use Rattle.plan_model.specs.Spaces.Clearance.{ClearAt}
pub use Rattle.plan_model.specs.Spaces.ConfigurationSpace.{space_of}
pub use Rattle.plan_model.specs.Trees.BestNode.{IsGoalNode, is_goal_point}
pub use Rattle.plan_model.specs.Trees.NodeLists.{IsFree, IsPresent, StandsAt, node_count, parent_of, parent_or_zero, point_at, point_of, points_of, sum_of}
pub use Rattle.plan_model.specs.Trees.NodeLists.{without_costs}
pub use Rattle.plan_model.specs.Trees.TreeStates.{AreSameRuns, TreeState, first_cost_of, recorded_or, state_of}
pub use Rattle.plan_model.specs.declared.geometry.Goal.{Goal}
pub use Rattle.plan_model.specs.declared.geometry.Point.{Point}
pub use Rattle.plan_model.specs.declared.limits.TheConstants.{MOST_NODES}
pub use Rattle.plan_model.specs.declared.records.Outcome.{Outcome}
pub use Rattle.plan_model.specs.declared.records.Outcome.TheVariants.{Blocked, Placed, Same, Skipped}
pub use Rattle.plan_model.specs.declared.records.Record.{Record}
pub use Rattle.plan_model.specs.declared.tasks.Task.{Task}
pub use Rattle.plan_model.specs.declared.trees.Knot.{Knot}
pub use Rattle.plan_model.specs.declared.trees.Twig.{Twig}
pub use Rattle.std.proofs.Common.{Bool, List, None, Option, Some, [], ap, arith, bit_and, bit_or, cond, eqb, false, get_or, inl, inr, le_refl, length, map, min}
pub use Rattle.std.proofs.Common.{not, refl, subst, suc, sym, true, zero, ℕ, ⊎_elim, ◌%◌, ◌*◌, ◌++◌, ◌+◌, ◌-◌, ◌/◌, ◌<◌, ◌^◌, ◌∙◌, ◌∷◌, ◌≡◌, ◌≤◌}
pub use Rattle.std.proofs.Math.ListN.{get_or-map}
pub use Rattle.std.proofs.Math.Nat.{suc-mod}
pub use Rattle.std.proofs.lemmas.Bool.{and_parts, cases_Bool, cases_eq, cases_lt, eqb-true, false_from_ne_true, le-leb, le-ltb, leb-true, lt-ltb, ltb-false}
pub use Rattle.std.proofs.lemmas.Bool.{ltb-true, ne_eqb}
pub use Rattle.std.proofs.lemmas.Bool.Decides.{nat_tests}
pub use Rattle.std.proofs.lemmas.List.{get_or-replicate, get_or-set_other, get_or-set_same, get_or_default, get_or_past, length-append, length-replicate}
pub use Rattle.std.proofs.lemmas.List.{length-map, length-set, map-append, map-set, set-get_or}
pub use Rattle.std.proofs.lemmas.List.Folds.{list_any_at}
pub use Rattle.std.proofs.lemmas.List.FromFn.{get_or-map-range_with_len, get_or-range_with_len, length-map-range_with_len, length-range_with_len}
pub use Rattle.std.proofs.lemmas.List.Sums.{count_by-le-length, sum_by-cons}
pub use Rattle.std.proofs.lemmas.Map.Steps.{length-le_from_distinct_below}
pub use Rattle.std.proofs.lemmas.Nat.{and_mask, div-mul-add, mod-mul-add, mul-le, or_shifted}
pub use Rattle.std.proofs.lemmas.Option.{get_or_from_slice_get, same_Some, slice_get-get_or, slice_get_cases, slice_get_read, slice_get_within}
pub use Rattle.std.specs.Int.{abs_diff}
pub use Rattle.std.specs.List.{AllByRecursion, list_any, range_with_len}
unfoldable pub use Rattle.std.specs.List.{IsDistinct}
pub use Rattle.std.specs.Prelude.{IsTrue, count_by, if◌then◌else◌, is_some, nat_lt, option_map, replicate, slice_get, slice_index, slice_index_or, slice_set}
pub use Rattle.std.specs.Prelude.{unwrap_or, ◌&&◌, ◌==◌, ◌||◌, ◌≢◌, ◌⊎◌}
pub use Rattle.grown_runs.specs.declared.child_index.Links.{Links}
