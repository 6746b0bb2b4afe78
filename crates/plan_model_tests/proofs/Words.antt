-- The definitions and lemmas that proofs of this crate are about, passed on from one place. Declares nothing.
pub use Rattle.plan_model.proofs.BestNodeLaws.{IsPresent-goal}
pub use Rattle.plan_model.proofs.NewNodes.{StandsAt-unique}
pub use Rattle.plan_model.proofs.PlacedNodes.{is_placed-true}
pub use Rattle.plan_model.proofs.RadiusLaws.{greatest-unique}
pub use Rattle.plan_model.proofs.RationalPoints.{IsClear-same}
pub use Rattle.plan_model.proofs.RootLaws.{root_ceiling-from_squares, root_ceiling-is, root_ceiling-zero}
pub use Rattle.plan_model.proofs.SamePoints.{same_y}
pub use Rattle.plan_model.proofs.SeenTreeLaws.{over_seen_points}
pub use Rattle.plan_model.proofs.SegmentLaws.{Clear-first, part_and_rest, way_is}
pub use Rattle.plan_model.proofs.SightsTogether.{IsLaterMoment-takes}
pub use Rattle.plan_model.proofs.Soundness.{IsSoundBelow-from_test, refused_at_line}
pub use Rattle.plan_model.proofs.TurnsFromZero.{AreTurns-counted, RunFromZero-counts}
pub use Rattle.plan_model.proofs.WayLaws.{way_ends, way_start, way_stops}
pub use Rattle.plan_model.specs.Geometry.Lengths.{IsRootCeiling, cost_of, greatest, radius_of_class}
pub use Rattle.plan_model.specs.Runs.ClosedLaw.{ArePlacedMarks, AreRecordedBelow, HangsLawfully, HasClass, HasLawfulEnding, IsBlockedLawfully}
pub use Rattle.plan_model.specs.Runs.ClosedLaw.{IsChosenLawfully, IsClosed, IsLawfulRecord, IsPlacedLawfully, IsSkippedLawfully, IsSteeredLawfully}
pub use Rattle.plan_model.specs.Runs.ClosedLaw.{ReachesLawfully, earlier_count, first_cost_through, has_outcome, is_earlier, mark_at}
pub use Rattle.plan_model.specs.Runs.Endings.{Ending, FirstHanging, NewNode, NoWay, Reached, SameNode, SkippedBy, Steered, ending_of}
pub use Rattle.plan_model.specs.Runs.OrderLaw.{AreTurns, Hangs, HangsBelow, IsAllowedEdge, KeepsOrder, RunFromZero, most_cost_of}
pub use Rattle.plan_model.specs.Runs.Outcomes.{is_placed}
pub use Rattle.plan_model.specs.Runs.Textbook.{Ends, IsBestGoalNode, IsBestParent, IsCandidate, MayBeCheaper, Reaches, RewiresOne, SteersTo, mark_bound}
pub use Rattle.plan_model.specs.Runs.Textbook.{start_alone, with_parent}
pub use Rattle.plan_model.specs.Scenes.Limits.{IsBetween, are_goals, are_obstacles, is_body, is_plan, may_be_informed, most_clearance, most_side, most_step}
pub use Rattle.plan_model.specs.Scenes.MarkPoints.{points_of_marks}
pub use Rattle.plan_model.specs.Seen.SeenTrees.{Children, FillsPlaces, HasSeenAtLeast, HasSeenWay, IsOnWay, IsSeen, IsTrueOf, KeepsOrLowers, SeenTree}
pub use Rattle.plan_model.specs.Seen.SeenTrees.{goes_right, seen_whole}
pub use Rattle.plan_model.specs.Seen.Sights.{IsLaterMoment, IsSwept, KeepsOrFindsEmpty, KeepsSight, Sight, TakesOver, cheaper_of}
pub use Rattle.plan_model.specs.Seen.SeenTrees.IsOnWay.{begins, goes_on}
pub use Rattle.plan_model.specs.Spaces.Clearance.{IsClear, IsClearPath, path_point}
pub use Rattle.plan_model.specs.Spaces.Zones.{IsWithin}
pub use Rattle.plan_model.specs.Spaces.ConfigurationSpace.{InRoom, IsSamePoint}
pub use Rattle.plan_model.specs.Texts.LineChecks.{Format, Given, corners_from}
pub use Rattle.plan_model.specs.Texts.SceneGrammar.{Spells, body_from, fault_of_end, fault_of_line, first_of, given_after_version, goal_from, number_or}
pub use Rattle.plan_model.specs.Texts.SceneGrammar.{plan_from, point_from, supported, version_given, whole_format}
pub use Rattle.plan_model.specs.Texts.TextLines.{lines_of, statements_of}
pub use Rattle.plan_model.specs.Trees.BestNode.{IsOpenTo, is_goal_point, least_of, points_of_goal}
pub use Rattle.plan_model.specs.Trees.Nearness.{IsFirstLeast}
pub use Rattle.plan_model.specs.Trees.NodeLists.{AreDistinct, chain, edge_by, length_of_path, parent_of}
pub use Rattle.plan_model.specs.Trees.TreeStates.{first_cost_of}
pub use Rattle.plan_model.specs.Vectors.Spaces.{apart_from_pillar, beside_square, early_record, far_square, great_square, overlapping_records, pillar}
pub use Rattle.plan_model.specs.Vectors.Spaces.{small_triangle, square, ten_by_ten, triangle}
pub use Rattle.plan_model.specs.Vectors.Geometry.{first_classes, halves}
pub use Rattle.plan_model.specs.Vectors.Reports.{blocked_record, same_record, skipped_record}
pub use Rattle.plan_model.specs.Vectors.Runs.{gapped, kept_records, kept_tree, marks_to_keep, rewired_records}
pub use Rattle.plan_model.specs.Vectors.SecondVersion.{goals_and, small_text, wide_text}
pub use Rattle.plan_model.specs.Vectors.SeenTrees.{at_entry, at_return, five_children, five_points, found_at_return, four_children, of_both, of_other}
pub use Rattle.plan_model.specs.Vectors.SeenTrees.{others_children, others_points, three_children, tree_before, tree_now, trees_at_entry}
pub use Rattle.plan_model.specs.Vectors.Texts.{sound_text, text_of_every_field, text_with_polygons, without_keys}
pub use Rattle.plan_model.specs.declared.configuration_spaces.ConfigurationSpace.{ConfigurationSpace}
pub use Rattle.plan_model.specs.declared.limits.TheConstants.{LEAST_SIDE, LEAST_STEP, LEAST_STRIPS, MOST_GAMMA, MOST_SEED, MOST_STRIPS, MOST_WORKERS}
pub use Rattle.plan_model.specs.declared.records.Outcome.{Outcome}
pub use Rattle.plan_model.specs.declared.scenes.Scene.{Scene}
pub use Rattle.plan_model.specs.declared.trees.Twig.{Twig}
pub use Rattle.plan_model_tests.specs.GrownTrees.{after_with, before, both_records, costs_of, first_by, four_points}
pub use Rattle.plan_model_tests.specs.LesserSights.{child_of_none, found_filled, found_with, known, one_record, seen_by, sight_of, trees_with, two_children}
pub use Rattle.plan_model_tests.specs.LesserSights.{two_points}
pub use Rattle.plan_model_tests.specs.OpenPaths.{low_room}
pub use Rattle.plan_model_tests.specs.RouteExamples.{IsNeither, goal_at_start, late, late_marks, late_records, late_tree, low_setup, no_node}
pub use Rattle.plan_model_tests.specs.RouteExamples.{short_of_mark, small_setup, thin_setup, thin_space, thin_triangle, two_workers, wide_setup}
pub use Rattle.plan_model_tests.specs.SkippedMarks.{goal_of_2, marks_to_skip, skipped_records, skipped_tree}
pub use Rattle.plan_model_tests.specs.NarrowRuns.{ended_at_start, one_node_more, overlapped_with, start_below_a_node}
pub use Rattle.plan_model_tests.specs.UnlawfulRecords.{nodes_with, room_to, three_points}
pub use Rattle.route_laws.proofs.Common.{AreInRoom-from_clear, Clear, Clear-empty_room, ClearAt, Goal, Handles, HandlesAll, IsBetweenWalls, IsCheaperThrough}
pub use Rattle.route_laws.proofs.Common.{IsEarlier, IsFree, IsGoalNode, IsInRoom, IsInRoom-from_clear_at, IsNearest, IsNeighbour, IsNotAbove, IsPresent}
pub use Rattle.route_laws.proofs.Common.{IsPresent-below, IsTextbookRun, MayBeCheaper-not_skipping, Meets, Meets-shares_point, Nodes, Placed, Point, Rational}
pub use Rattle.route_laws.proofs.Common.{Record, Rewires, Same, Setup, SharesPoint-meets, StandsAt, TreeState, Vertex, advanced, at, at_lattice, class_of}
pub use Rattle.route_laws.proofs.Common.{corner, corner_in_box, cost_through, distance_to, empty_room, great_triangle, is_within, marks_to_rewire, moved_by}
pub use Rattle.route_laws.proofs.Common.{near_new, node_count, on_the_way, open_setup, open_setup_to, overlapped, placed_by, placed_record, point_at}
pub use Rattle.route_laws.proofs.Common.{point_body, point_of, points_of, rewired_tree, small_square, space_among, squared_distance, steered, sum_of}
pub use Rattle.route_laws.proofs.Common.{two_is_positive, weighted}
pub use Rattle.route_laws.proofs.FollowedBodies.{HasClearDisc-far}
pub use Rattle.route_laws.proofs.FollowedDiscs.{difference}
pub use Rattle.route_laws.specs.Routes.{EndsAtNode, HasClearDisc, IsChain, IsChainInOrder, IsFartherFrom, IsHandledAfter, IsLinkInOrder, IsNearLink}
pub use Rattle.route_laws.specs.Routes.{IsOpenLink, IsReached, KeepsBodyFar, KeepsFromWalls, gap_from}
pub use Rattle.std.proofs.Common.{Bool, List, None, Option, Some, [], ap, arith, false, inl, inr, le-leb, leb, length, refl, subst, suc, sym, true, zero, ℕ}
pub use Rattle.std.proofs.Common.{◌*◌, ◌++◌, ◌+◌, ◌-◌, ◌<◌, ◌^◌, ◌∙◌, ◌∷◌, ◌≡◌, ◌≤◌}
pub use Rattle.std.proofs.Math.Bridge.{le_prop}
pub use Rattle.std.proofs.Math.Nat.{le_refl}
pub use Rattle.std.proofs.lemmas.Bool.{and_parts, cases_eq, cases_lt, cases_order, eqb-false, eqb-true, ltb-true, true≢false}
pub use Rattle.std.proofs.lemmas.Int.{ints}
pub use Rattle.std.proofs.lemmas.List.{get_or_default, get_or_past}
pub use Rattle.std.proofs.lemmas.List.Elements.{All-cons, All-nil}
pub use Rattle.std.proofs.lemmas.Nat.{mul-le}
pub use Rattle.std.proofs.lemmas.Option.{same_Some, slice_get-get_or, slice_get_past, slice_get_within}
unfoldable pub use Rattle.std.specs.Fmt.{digits}
pub use Rattle.std.specs.Int.{abs_diff}
pub use Rattle.std.specs.List.{flat_map}
pub use Rattle.std.specs.Option.{option_or}
pub use Rattle.std.specs.Prelude.{Contains, IsSome, IsTrue, T, codes, cond, if◌then◌else◌, is_some, map, max, nat_le, negsuc, pos, slice_get, slice_index_or}
pub use Rattle.std.specs.Prelude.{sum, unsigned_abs, unwrap_or, ℤ, ◌%◌, ◌&&◌, ◌*ℤ◌, ◌+ℤ◌, ◌-ℤ◌, ◌/◌, ◌==◌, ◌≢◌, ◌≤ℤ◌, ◌⊎◌}
