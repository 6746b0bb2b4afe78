-- The names that proofs of the crates above cite, passed on from one place. Declares nothing.
pub use Rattle.grown_runs.proofs.Children.MovedChildren.{IsIndex-same}
pub use Rattle.grown_runs.proofs.Children.SiblingWalks.{AreMembers-chain, siblings_from-here, times-else, times-here}
pub use Rattle.grown_runs.proofs.Runs.FittingStates.{FitsRecord-closed, IsBounded-closed, kept-low, present-closed}
pub use Rattle.grown_runs.proofs.Runs.GrownPoints.{IsBounded-stands, IsBounded-word, has_node-present, node_point-here, none_some, point_at-past}
pub use Rattle.grown_runs.proofs.Runs.GrownPoints.{point_at-words, point_of_word-stands, present-within, record_at-past, record_at-unwritten}
pub use Rattle.grown_runs.proofs.Runs.HeldBests.{state-best}
pub use Rattle.grown_runs.proofs.Runs.HeldNodes.{node-held, start_present-held, start_stands-held}
pub use Rattle.grown_runs.proofs.Runs.LinkedPresence.{in_child, is_linked-child, is_linked-closed, is_linked-linked, is_linked-start, node_present}
pub use Rattle.grown_runs.proofs.Runs.LinkedPresence.{state_by-closed}
pub use Rattle.grown_runs.proofs.Runs.ListedRuns.{IsClosed-same_lists}
pub use Rattle.grown_runs.proofs.Runs.LoweredWords.{IsTreeWord-packed}
pub use Rattle.grown_runs.proofs.Runs.OpeningBests.{min-either}
pub use Rattle.grown_runs.proofs.Runs.PackedLists.{node_count-lists}
pub use Rattle.grown_runs.proofs.Runs.PackedStates.{IsKnot-at, parent_of-lists, point_at-lists}
pub use Rattle.grown_runs.proofs.Runs.StartWords.{IsStartWord}
pub use Rattle.grown_runs.proofs.Table.ClearedWords.{cleared-blank}
pub use Rattle.grown_runs.proofs.Table.PackedRecords.{outcome_in-record_word, record_of_word-packed, record_word-again, unplaced_at, zeros}
pub use Rattle.grown_runs.proofs.Table.PackedWords.{IsPointWord-packed, cost_in-tree_word, parent_in-tree_word, point_of_word-packed}
pub use Rattle.grown_runs.proofs.Table.ReadWords.{if_written-set}
pub use Rattle.grown_runs.proofs.Table.WordKinds.{AreBehind-refl, AreBehind-trans, MayBecome-both, MayBecome-refl, MayBecome-trans}
pub use Rattle.grown_runs.proofs.Table.WordReads.{HasWord-true, WritesWord-set, place_of-within, word-found, word_at-false, word_at-has, word_at-none}
pub use Rattle.grown_runs.proofs.Ways.NodesBelow.{point_in-stands}
pub use Rattle.grown_runs.proofs.Ways.SplitSides.{goes_right-by, is_by_rows-next, split_distance-le, two_sides}
pub use Rattle.grown_runs.proofs.Ways.WalkStops.{EndsBelow-stop, StopsAt-below, side_is}
pub use Rattle.grown_runs.specs.ChildChains.{AreMembers, FitsNumbers, FitsOneMore, HasInChain, HasOneMore, IndexesChains, KeepsRoom, MovesNode, siblings_from}
pub use Rattle.grown_runs.specs.Runs.GrownRuns.{CostsInstead, children_of_grown, state_of_grown, words_of_grown}
pub use Rattle.grown_runs.specs.Runs.GrownWords.{HoldRun, IsBlank, IsLinked, IsPointWord, IsTreeWord, IsWritten, child_of_word, children_of_words, cleared}
pub use Rattle.grown_runs.specs.Runs.GrownWords.{has_node, has_placed, is_linked, node_point, node_point_by, points_of_words, record_at, run_words, sizes_of}
pub use Rattle.grown_runs.specs.Runs.GrownWords.{state_of_words}
pub use Rattle.grown_runs.specs.Runs.GrownWords.IsLinked.{below, start}
pub use Rattle.grown_runs.specs.Runs.PackedRuns.{IsLeastBest, IsKnot, kept_cost_of, state_of_lists}
pub use Rattle.grown_runs.specs.Table.PlacesOfWords.{sizes_in}
pub use Rattle.grown_runs.specs.Table.RunWords.{words_in}
pub use Rattle.grown_runs.specs.Table.SeenWords.{LooksAt, MayLookAt, SeenWords, seen_point, seen_tree_of_words, sight_of_words, whole_record}
pub use Rattle.grown_runs.specs.Table.WordKinds.{AreBehind, Falls, HaveWholePairs, MayBecome, WordKind, kind_at, kind_of, later_word}
pub use Rattle.grown_runs.specs.Table.WordKinds.WordKind.{Apart, Falling, Once, Rising}
pub use Rattle.grown_runs.specs.Table.WordNames.{ChangesOnly, IsCounter, Word, Words, WritesWord}
pub use Rattle.grown_runs.specs.Table.WordNames.Word.{Best, ChildOf, Count, Counter, FirstOf, PointOf, RecordOf, TreeOf}
pub use Rattle.grown_runs.specs.Table.WordPlaces.{HasWord, Sizes, has_word, node_place, place_of, word_count}
pub use Rattle.grown_runs.specs.Table.Words.{FitsWord, IsFirstWord, IsTurnWord, best_cost_in, best_node_in, best_of_word, best_word, cost_in, last_field}
pub use Rattle.grown_runs.specs.Table.Words.{no_best, number_of_outcome, outcome_in, parent_in, point_in, point_of_word, point_word, record_in, record_of_word}
pub use Rattle.grown_runs.specs.Table.Words.{record_word, tree_of_word, tree_word, turn_in, worker_in}
pub use Rattle.grown_runs.specs.Ways.KdLinks.{goes_right_by, is_by_rows, StopsAt, side_of, IsNearerOf}
pub use Rattle.plan_model.proofs.AddedNodes.{AddsNode, KeepsFirstCosts-adds, KeepsOrder-adds}
pub use Rattle.plan_model.proofs.BestNodeLaws.{IsPresent-goal, best_node-none, best_node-some}
pub use Rattle.plan_model.proofs.ChainLaws.{AreTight-sums, chain-parent, chain-start, sum-parent, sums-tight}
pub use Rattle.plan_model.proofs.ClassLaws.{below_digits, class_from_powers}
pub use Rattle.plan_model.proofs.ClearPathLaws.{IsClearPath-ordered}
pub use Rattle.plan_model.proofs.ClosedLaws.{KeepsFirstCosts-closed}
pub use Rattle.plan_model.proofs.CostLaws.{cost_of-swap}
pub use Rattle.plan_model.proofs.CountLaws.{numbers-closed}
pub use Rattle.plan_model.proofs.CountsBelow.{count-all, count-first, count-found, count-longer, count-more, count-none, count-one_more, count-same}
pub use Rattle.plan_model.proofs.CountsBelow.{count-single, count-some, count-wider, range-more}
pub use Rattle.plan_model.proofs.DistinctPoints.{IsPresent-below, IsPresent-push, near-present, points_of-ends, within_present}
pub use Rattle.plan_model.proofs.EarlierNodes.{HaveSameEarlier, is_earlier-same, is_earlier-same_records}
pub use Rattle.plan_model.proofs.EmptyRoomClearance.{AreInRoom-from_clear, Clear-empty_room}
pub use Rattle.plan_model.proofs.FreePoints.{filter-none, is_near_free, same-from_distance}
pub use Rattle.plan_model.proofs.GoalNodes.{IsGoalNode-before, IsGoalNode-grows, MayBeCheaper-not_skipping, no_goal_node}
pub use Rattle.plan_model.proofs.KeptCosts.{AddsPriced, AreTight-adds, AreTight-same, CostsFall-adds, CostsFall-same, IsPriced, KeepsCosts}
pub use Rattle.plan_model.proofs.LeastPairLaws.{IsFirstLeast-among, IsNotAbove-lesser, IsNotAbove-refl, IsNotAbove-trans, first_least-some}
pub use Rattle.plan_model.proofs.ListMembers.{Contains-after, Contains-first}
pub use Rattle.plan_model.proofs.LoweredCosts.{HaveSameTree, KeepsFirstCosts-lowered, KeepsOrder-lowered, LowersCosts, LowersCosts-rewires, LowersCosts-same}
pub use Rattle.plan_model.proofs.LoweredCosts.{StandsStill}
pub use Rattle.plan_model.proofs.MarkBounds.{All-task_marks_within, length-marks, length-points_of_marks}
pub use Rattle.plan_model.proofs.MeetingLaws.{SharesPoint-meets}
pub use Rattle.plan_model.proofs.NearNodes.{Contains-filter, Contains-near, IsReachable, candidate-reachable, near_new-reachable, squared_distance-swap}
pub use Rattle.plan_model.proofs.NewNodes.{Adds, Adds-push, AreDistinct-adds, IsPresent-stands, StandsAt-node, StandsAt-present, StandsAt-unique, new_or_kept}
pub use Rattle.plan_model.proofs.NewNodes.{node_count-some, point_at-same, point_of-stands, present_below}
pub use Rattle.plan_model.proofs.NextRecords.{RecordsMark, new_or_recorded}
pub use Rattle.plan_model.proofs.NodeCounts.{count-next, node_count-length, node_count-same}
pub use Rattle.plan_model.proofs.OrderLaws.{Hangs-grows, HangsBelow-falls, KeepsOrder-falls, cost_of-short, most_cost_of-le, most_cost_of-more}
pub use Rattle.plan_model.proofs.OrderLaws.{most_cost_of-within, parent-present, start-present}
pub use Rattle.plan_model.proofs.OrderedTrees.{FallAlong-ordered, sum_in-le_cost, sum_in-parent, sum_in-start}
pub use Rattle.plan_model.proofs.ParentChanges.{AreTight-cheaper_parent, CostsFall-cheaper_parent, CostsFall-lowered, CostsFall-tight, HasCheaperParent}
pub use Rattle.plan_model.proofs.ParentChanges.{IsPresent-cheaper_parent, edge_from, parent_kept, parent_new, points_of-cheaper_parent}
pub use Rattle.plan_model.proofs.ParentChoices.{IsFirstLeast-alone, IsFirstLeast-keeps, IsFirstLeast-takes}
pub use Rattle.plan_model.proofs.PathLengths.{length_of_path-reverse}
pub use Rattle.plan_model.proofs.PlacedNodes.{present-of_record, record-of_present}
pub use Rattle.plan_model.proofs.QuotaLaws.{IsCutAt-quota}
pub use Rattle.plan_model.proofs.RadiusLaws.{greatest-le, greatest-passes}
pub use Rattle.plan_model.proofs.RecordLaws.{IsLawfulRecord-grows, class_of-le}
pub use Rattle.plan_model.proofs.Ring.{Read, minus, var}
pub use Rattle.plan_model.proofs.RootLaws.{root_ceiling-from_squares, root_ceiling-zero}
pub use Rattle.plan_model.proofs.RunLaws.{HandlesAll-length, HandlesAll-nodes, HandlesAll-push}
pub use Rattle.plan_model.proofs.SamePoints.{same_or_other, same_point-false, same_point-true, same_x}
pub use Rattle.plan_model.proofs.SameReports.{AreSameRuns-textbook, best_node-same, report_text-same}
pub use Rattle.plan_model.proofs.SameScenes.{Spells-one_scene, same_parts}
pub use Rattle.plan_model.proofs.SameTrees.{AreSameRuns-trans, IsClosed-same_run, IsSettled-of_textbook, IsSettled-same, chain_in-same, sum_in-same}
pub use Rattle.plan_model.proofs.SceneBatchLaws.{SpellsBatch-not_refused, SpellsBatch-one_batch}
pub use Rattle.plan_model.proofs.SceneBounds.{All-goals_bounded, IsBounded-in_room, IsBounded-scene_start, goals-some, step-steers}
pub use Rattle.plan_model.proofs.SeenParentLaws.{AreSeenLawfully-either, AreSeenLawfully-grows, AreSeenLawfully-whole}
pub use Rattle.plan_model.proofs.SeenTreeLaws.{HasSeenAtLeast-refl, IsSeen-more}
pub use Rattle.plan_model.proofs.SegmentLaws.{Clear-alone, Clear-back, Clear-first}
pub use Rattle.plan_model.proofs.SettledRuns.{IsOfTextbookRun-settled, best_sum-grows}
pub use Rattle.plan_model.proofs.SightLaws.{EndsSince-later, IsFree-ends, IsLaterMoment-refl, IsLaterMoment-trans, IsSwept-later}
pub use Rattle.plan_model.proofs.Soundness.{Spells-not_refused}
pub use Rattle.plan_model.proofs.SpanLaws.{BodyFits-from_in_room}
pub use Rattle.plan_model.proofs.SteeredNodes.{IsFree-steered}
pub use Rattle.plan_model.proofs.SteeringLaws.{IsStep-steered, steered-near}
pub use Rattle.plan_model.proofs.StripMarks.{IsMarkOf-own, is_claimed-below, is_claimed-now, is_claimed-other, is_claimed-past, not_claimed-yet, quotas-add_up}
pub use Rattle.plan_model.proofs.SumsBelow.{sum-le, sum-more, sum-most, sum-up}
pub use Rattle.plan_model.proofs.Tests.{true_at, true_of_below}
pub use Rattle.plan_model.proofs.TextbookRuns.{IsClosed-textbook}
pub use Rattle.plan_model.proofs.TextbookStates.{AddsNode-placed, PlacesNode, RecordsMark-push, RecordsNext, sum-placed}
pub use Rattle.plan_model.proofs.TreeChanges.{HaveSameNodes-absent, node_at-absent, node_at-past, node_at-push_new, node_count-push, point_at-points_of}
pub use Rattle.plan_model.proofs.TreeChanges.{points_of-push}
pub use Rattle.plan_model.proofs.TreeStateLaws.{GrowsInto-refl, GrowsInto-trans, IsPresent-grows, cost-grows, node_count-grows, point_at-grows, point_of-grows}
pub use Rattle.plan_model.proofs.TriangleLaw.{cost_of-triangle}
pub use Rattle.plan_model.proofs.TrueSights.{AreDistinct-true, FollowSeenWays-true, IsOnWay-true, IsPresent-true, whole_pair}
pub use Rattle.plan_model.proofs.EndingLaws.{Record-from_fields, reached-unskipped, record_of_ending-again}
pub use Rattle.plan_model.proofs.WayLaws.{EndsBelow-free, IsOnWay-unique, earlier_step, last_step, not_empty, way_start, way_stops}
pub use Rattle.plan_model.proofs.WayLinks.{AddsPoint-stands, FollowWays-links, FollowWays-start, IsOnWay-fills}
pub use Rattle.plan_model.proofs.WorkerTurns.{AreTurns-longer, AreTurns-recorded, ltb-next, once_if-below, once_if-past, times-once, turn-below, turn_of_record}
pub use Rattle.plan_model.proofs.WorkerTurns.{turns_of-recorded, turns_of-recorded_by_other}
pub use Rattle.plan_model.specs.Geometry.Plane.{IsBounded, IsBoundedBox, is_strictly_convex, IsInBoxOf, orientation, squared_distance}
pub use Rattle.plan_model.specs.Geometry.Lengths.{cost_of, class_of, radius_of, radius_of_class, steered}
pub use Rattle.plan_model.specs.Reports.ReportText.{best_path, counts_line, ending_words, full_report, head_line, line, mark_line_if_recorded, mark_lines}
pub use Rattle.plan_model.specs.Reports.ReportText.{no_path_line, node_line_if_present, node_lines, path_to, point_lines, reached_words, short_report}
pub use Rattle.plan_model.specs.Reports.ReportText.{skipped_words}
pub use Rattle.plan_model.specs.Runs.ClosedLaw.{IsClosed, has_outcome, mark_at, outcome_count, HangsLawfully, HasLawfulEnding, IsBlockedLawfully}
pub use Rattle.plan_model.specs.Runs.ClosedLaw.{IsChosenLawfully, IsEarlier, IsLawfulRecord, IsNeighbour, IsPlacedLawfully, IsSkippedLawfully}
pub use Rattle.plan_model.specs.Runs.ClosedLaw.{IsSteeredLawfully, ReachesLawfully, earlier_count, first_cost_through, is_earlier, is_earlier_record}
pub use Rattle.plan_model.specs.Runs.Endings.{Ending, FirstHanging, NewNode, NoWay, Reached, SameNode, SkippedBy, Steered, ending_as, ending_of, first_hanging}
pub use Rattle.plan_model.specs.Runs.Endings.{record_of_ending, unplaced_record}
pub use Rattle.plan_model.specs.Runs.OrderLaw.{Hangs, HangsBelow, IsAllowedEdge, KeepsFirstCosts, KeepsOrder, most_cost_of, AreTurns, is_of_turn}
pub use Rattle.plan_model.specs.Runs.OrderLaw.{is_of_worker, once_if, times_of, turns_of}
pub use Rattle.plan_model.specs.Runs.Outcomes.{is_blocked, is_placed, is_same, is_skipped, is_zero_unless_placed}
pub use Rattle.plan_model.specs.Runs.Textbook.{HaveSameFields, IsOfTextbookRun, Ends, EndsBlocked, EndsPlaced, EndsSkipped, EndsSteered, Handles, HandlesAll}
pub use Rattle.plan_model.specs.Runs.Textbook.{IsBestGoalNode, IsBestParent, IsCandidate, IsCheaperThrough, IsTextbookRun, MayBeCheaper, Nodes, Reaches}
pub use Rattle.plan_model.specs.Runs.Textbook.{Rewires, RewiresOne, Setup, SteersTo, cost_through, mark_bound, near_new, setup_of, skipping_goals}
pub use Rattle.plan_model.specs.Runs.Textbook.{start_alone, with_parent}
pub use Rattle.plan_model.specs.Scenes.Limits.{IsBetween, are_goals, are_obstacles, is_corner_between, is_goal, is_mark, is_obstacle, is_plan, most_goals}
pub use Rattle.plan_model.specs.Scenes.Limits.{most_side}
pub use Rattle.plan_model.specs.Scenes.MarkPoints.{is_claimed, mark_points, quota_of, strip_of_mark}
pub use Rattle.plan_model.specs.Scenes.ChangedScenes.{with_ends}
pub use Rattle.plan_model.specs.Seen.SeenTrees.{AreSeenLawfully, FollowSeenWays, HasSeenAtLeast, IsRooted, IsSeen, IsTrueOf, KeepsOrLowers, SeenTree}
pub use Rattle.plan_model.specs.Seen.SeenTrees.{SharedTree, seen_whole, Children, EndsBelow, FillsPlaces, FollowWays, IsOnWay, goes_right}
pub use Rattle.plan_model.specs.Seen.Sights.{EndsSince, IsLaterMoment, IsSwept, KeepsSight, Sight}
pub use Rattle.plan_model.specs.Seen.SeenTrees.IsOnWay.{begins, goes_on}
pub use Rattle.plan_model.specs.Spaces.Clearance.{IsClearPath, path_point, Clear, ClearAt, RiseToLast, cost_of_choice, kept_points}
pub use Rattle.plan_model.specs.Spaces.ConfigurationSpace.{space_among, space_of, IsInRoom, empty_room, InRoom, IsBetweenWalls, at_lattice, moved_by}
pub use Rattle.plan_model.specs.Spaces.Zones.{Meets, weighted}
pub use Rattle.plan_model.specs.Texts.SceneGrammar.{Spells, supported}
pub use Rattle.plan_model.specs.Texts.Streams.{SourceState, counted_up}
pub use Rattle.plan_model.specs.Texts.TextLines.{lines_of, pieces_of, is_digit}
pub use Rattle.plan_model.specs.Trees.BestNode.{IsBestNode, IsGoalNode, best_node, goals_of, is_goal_point, lies_in_goals, IsOpenTo}
pub use Rattle.plan_model.specs.Trees.TreeStates.{IsBranchLowered, AreSameRuns, ChangesCosts, GrowsInto, IsSettled, TreeState, chain_in, first_cost_of}
pub use Rattle.plan_model.specs.Trees.TreeStates.{recorded_or, state_of, sum_in}
pub use Rattle.plan_model.specs.Trees.Nearness.{IsFirstLeast, IsNotAbove, IsPairNotAbove, first_least, lesser, IsNearest, distance_to, is_within, near}
pub use Rattle.plan_model.specs.Trees.NodeLists.{AreTight, AreTightAlong, CostsFall, FallAlong, chain_within, edge_by, edge_of, length_of_path, node_at}
pub use Rattle.plan_model.specs.Trees.NodeLists.{parent_of, parent_or_zero, points_of, sum_by, sum_of, without_costs, AreDistinct, AreNumberedTo, IsFree}
pub use Rattle.plan_model.specs.Trees.NodeLists.{IsPresent, StandsAt, node_count, point_at, point_of}
pub use Rattle.plan_model.specs.Vectors.Reports.{blocked_record, placed_by, placed_record, same_record}
pub use Rattle.plan_model.specs.Vectors.Runs.{marks_to_rewire, open_setup, rewired_records}
pub use Rattle.plan_model.specs.Vectors.Geometry.{at}
pub use Rattle.plan_model.specs.declared.configuration_spaces.ConfigurationSpace.{ConfigurationSpace}
pub use Rattle.plan_model.specs.declared.errors.Memory.{Memory}
pub use Rattle.plan_model.specs.declared.geometry.Goal.{Goal}
pub use Rattle.plan_model.specs.declared.geometry.Point.{Point}
pub use Rattle.plan_model.specs.declared.geometry.Vertex.{Vertex}
pub use Rattle.plan_model.specs.declared.limits.TheConstants.{LEAST_OBSTACLE_COORDINATE, MOST_GOALS, MOST_MARKS, MOST_NODES, MOST_OBSTACLES}
pub use Rattle.plan_model.specs.declared.limits.TheConstants.{MOST_OBSTACLE_COORDINATE, MOST_SIDE, MOST_TEXT_BYTES, MOST_WORKERS}
pub use Rattle.plan_model.specs.declared.records.Outcome.{Outcome}
pub use Rattle.plan_model.specs.declared.records.Outcome.TheVariants.{Blocked, Placed, Same, Skipped}
pub use Rattle.plan_model.specs.declared.records.Record.{Record}
pub use Rattle.plan_model.specs.declared.scenes.Marks.TheVariants.{Listed}
pub use Rattle.plan_model.specs.declared.scenes.Scene.{Scene}
pub use Rattle.plan_model.specs.declared.tasks.Task.{Task}
pub use Rattle.plan_model.specs.declared.text_terms.Kind.{Kind}
pub use Rattle.plan_model.specs.declared.trees.Knot.{Knot}
pub use Rattle.plan_model.specs.declared.trees.Twig.{Twig}
