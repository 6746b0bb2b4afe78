-- The definitions and lemmas that proofs of this crate are about, passed on from one place. Declares nothing.
pub use Rattle.plan_model.specs.Geometry.Plane.{IsBounded, IsBoundedBox, IsInBoxOf, is_strictly_convex, squared_distance}
pub use Rattle.plan_model.specs.Geometry.Lengths.{IsRootCeiling, IsStep, advanced, class_of, cost_of, greatest, radius_of, radius_of_class, steered}
pub use Rattle.plan_model.specs.Reports.ReportText.{best_path, counts_line, head_line, mark_line_if_recorded, mark_lines, node_line_if_present, node_lines}
pub use Rattle.plan_model.specs.Reports.ReportText.{path_line, path_to, point_lines, report_text, short_report, summary}
pub use Rattle.plan_model.specs.Runs.ClosedLaw.{ArePlacedMarks, AreRecordedBelow, HangsLawfully, HasLawfulEnding, IsChosenLawfully, IsClosed, IsEarlier}
pub use Rattle.plan_model.specs.Runs.ClosedLaw.{IsLawfulRecord, IsNeighbour, IsPlacedLawfully, IsSkippedLawfully, IsSteeredLawfully, ReachesLawfully}
pub use Rattle.plan_model.specs.Runs.ClosedLaw.{earlier_count, first_cost_through, has_outcome, is_earlier, is_earlier_record, mark_at, outcome_count}
pub use Rattle.plan_model.specs.Runs.Endings.{Ending, FirstHanging, NewNode, NoWay, Reached, SameNode, SkippedBy, Steered, ending_as, ending_of, first_hanging}
pub use Rattle.plan_model.specs.Runs.Endings.{record_of_ending, unplaced_record}
pub use Rattle.plan_model.specs.Runs.OrderLaw.{AreTurns, Hangs, HangsBelow, IsAllowedEdge, KeepsFirstCosts, KeepsOrder, RunFromZero, is_of_turn, is_of_worker}
pub use Rattle.plan_model.specs.Runs.OrderLaw.{most_cost_of, once_if, times_of, turns_of}
pub use Rattle.plan_model.specs.Runs.Outcomes.{is_blocked, is_placed, is_same, is_zero_unless_placed}
pub use Rattle.plan_model.specs.Runs.Textbook.{Ends, EndsBlocked, EndsPlaced, EndsSteered, Handles, HandlesAll, HaveSameFields, HaveSameInputs, IsBestParent}
pub use Rattle.plan_model.specs.Runs.Textbook.{IsCandidate, IsCheaperThrough, IsOfTextbookRun, IsTextbookRun, MayBeCheaper, Nodes, Reaches, Rewires}
pub use Rattle.plan_model.specs.Runs.Textbook.{RewiresOne, Setup, SteersTo, cost_through, near_new, setup_of, skipping_goals, start_alone, with_parent}
pub use Rattle.plan_model.specs.Scenes.ChangedScenes.{IsConverted}
pub use Rattle.plan_model.specs.Scenes.Limits.{IsBetween, are_goals, are_obstacles, by_version, is_body, is_corner_between, is_goal, is_mark, is_obstacle}
pub use Rattle.plan_model.specs.Scenes.Limits.{is_plan, least_obstacle_coordinate, may_be_informed, most_clearance, most_goals, most_obstacle_coordinate}
pub use Rattle.plan_model.specs.Scenes.Limits.{most_side, most_step}
pub use Rattle.plan_model.specs.Scenes.MarkPoints.{BodyFits, IsInSpan, IsMarkOf, above_zero, below_zero, columns, drawn_mark, first_word, is_claimed}
pub use Rattle.plan_model.specs.Scenes.MarkPoints.{mark_points, mixed, next_state, picked, points_of_marks, quota_of, reach, rows, second_word, span_within}
pub use Rattle.plan_model.specs.Scenes.MarkPoints.{strip, strip_of_mark, word_of_state}
pub use Rattle.plan_model.specs.Seen.SeenTrees.{AddsPoint, AreSeenLawfully, Children, EndsBelow, FillsPlaces, FollowSeenWays, FollowWays, HasSeenAtLeast}
pub use Rattle.plan_model.specs.Seen.SeenTrees.{HasSeenWay, IsOnSeenWay, IsOnWay, IsRooted, IsSeen, IsTrueOf, KeepsOrLowers, LinksAt, SeenTree, SharedTree}
pub use Rattle.plan_model.specs.Seen.SeenTrees.{TreeGrows, goes_right, seen_whole}
pub use Rattle.plan_model.specs.Seen.Sights.{AgreeOnParents, EndsSince, HaveSeenTogether, IsLaterMoment, IsSwept, KeepsOrFindsEmpty, KeepsSight, Sight}
pub use Rattle.plan_model.specs.Seen.Sights.{TakesOver, cheaper_of}
pub use Rattle.plan_model.specs.Spaces.Clearance.{Clear, ClearAt, IsClear, IsClearPath, on_the_way, path_point}
pub use Rattle.plan_model.specs.Spaces.ConfigurationSpace.{InRoom, IsBetweenWalls, IsInRoom, IsSamePoint, Rational, at_lattice, empty_room, moved_by, scaled}
pub use Rattle.plan_model.specs.Spaces.ConfigurationSpace.{space_among, space_of}
pub use Rattle.plan_model.specs.Spaces.Zones.{IsWithin, Meets, SharesPoint, weighted}
pub use Rattle.plan_model.specs.Texts.Keys.{every_key, every_version, fits_words, format_name, is_key, key_among, key_of, key_within, most_corners}
pub use Rattle.plan_model.specs.Texts.Keys.{most_lines, name_of, version_among, version_word}
pub use Rattle.plan_model.specs.Texts.LineChecks.{AllMayStand, Format, Given, MayStand, are_between, begins_with, checks_of, corners_from, fault_after}
pub use Rattle.plan_model.specs.Texts.LineChecks.{fault_at_end, fault_at_key, fault_of_statement, first_failing, given_by, has_corners, is_in_range}
pub use Rattle.plan_model.specs.Texts.LineChecks.{is_inhabited, is_ordered, is_repeated, is_too_many, numbers_in, stands, version_of, version_within}
pub use Rattle.plan_model.specs.Texts.LineChecks.{with_statement}
pub use Rattle.plan_model.specs.Texts.SceneGrammar.{AreSpelledBelow, FailsAt, FailsAtPart, HasFields, IsRefusedPart, IsSoundBelow, Part, Refused}
pub use Rattle.plan_model.specs.Texts.SceneGrammar.{RefusesBatch, Spells, SpellsBatch, body_from, fault_of_end, fault_of_line, first_of, given_after_version}
pub use Rattle.plan_model.specs.Texts.SceneGrammar.{goal_from, lines_before, number_or, onto_first_part, part_text, parts_of, plan_from, point_from}
pub use Rattle.plan_model.specs.Texts.SceneGrammar.{separator, text_of, version_given}
pub use Rattle.plan_model.specs.Texts.Streams.{MemSourceState, counted_up, given_count, is_failing, read_into}
pub use Rattle.plan_model.specs.Texts.TextLines.{is_number, is_positive, lines_of, magnitude, onto_first, pieces_of, statements_of, value_of, words_of}
pub use Rattle.plan_model.specs.Trees.BestNode.{IsBestNode, IsGoalNode, IsOpenTo, best_node, goals_of, is_goal_point, is_in_goal, least_of, lies_in_goals}
pub use Rattle.plan_model.specs.Trees.BestNode.{numbers_between, points_of_goal}
pub use Rattle.plan_model.specs.Trees.TreeStates.{AreSameRuns, ChangesCosts, GrowsInto, IsBranchLowered, IsSettled, KeepsOrFalls, TreeState, chain_in}
pub use Rattle.plan_model.specs.Trees.TreeStates.{first_cost_of, recorded_or, state_of, sum_in}
pub use Rattle.plan_model.specs.Trees.Nearness.{IsFirstLeast, IsNearest, IsNotAbove, distance_to, first_least, is_within, lesser, near}
pub use Rattle.plan_model.specs.Trees.NodeLists.{AreDistinct, AreNumberedTo, AreTight, AreTightAlong, CostsFall, FallAlong, IsFree, IsPresent, StandsAt}
pub use Rattle.plan_model.specs.Trees.NodeLists.{chain, chain_by, chain_within, cost_through_by, edge_by, edge_of, length_of_path, node_at, node_count}
pub use Rattle.plan_model.specs.Trees.NodeLists.{parent_of, parent_or_zero, point_at, point_of, points_of, sum_by, sum_of}
pub use Rattle.plan_model.specs.declared.configuration_spaces.ConfigurationSpace.{ConfigurationSpace}
pub use Rattle.plan_model.specs.declared.geometry.Goal.{Goal}
pub use Rattle.plan_model.specs.declared.geometry.Point.{Point}
pub use Rattle.plan_model.specs.declared.geometry.Vertex.{Vertex}
pub use Rattle.plan_model.specs.declared.limits.TheConstants.{LEAST_BODY_COORDINATE, LEAST_OBSTACLE_COORDINATE, LEAST_OBSTACLE_COORDINATE_OF_VERSION_2}
pub use Rattle.plan_model.specs.declared.limits.TheConstants.{LEAST_SIDE, LEAST_STEP, LEAST_SUMMAND_COORDINATE, MOST_BODY_COORDINATE, MOST_BODY_CORNERS}
pub use Rattle.plan_model.specs.declared.limits.TheConstants.{MOST_CLEARANCE, MOST_COORDINATE, MOST_GAMMA, MOST_GOALS, MOST_MARKS, MOST_NODES, MOST_OBSTACLES}
pub use Rattle.plan_model.specs.declared.limits.TheConstants.{MOST_OBSTACLE_COORDINATE, MOST_OBSTACLE_COORDINATE_OF_VERSION_2, MOST_OBSTACLE_CORNERS}
pub use Rattle.plan_model.specs.declared.limits.TheConstants.{MOST_SCENES, MOST_SEED, MOST_SIDE, MOST_SIDE_OF_VERSION_2, MOST_STEERING_STEP, MOST_STEP}
pub use Rattle.plan_model.specs.declared.limits.TheConstants.{MOST_STEP_OF_VERSION_2, MOST_STRIPS, MOST_SUMMAND_COORDINATE, MOST_WORKERS}
pub use Rattle.plan_model.specs.declared.records.Outcome.{Outcome}
pub use Rattle.plan_model.specs.declared.records.Outcome.TheVariants.{Blocked, Placed, Same, Skipped}
pub use Rattle.plan_model.specs.declared.records.Record.{Record}
pub use Rattle.plan_model.specs.declared.scenes.Marks.{Marks}
pub use Rattle.plan_model.specs.declared.scenes.Marks.TheVariants.{Drawn, Listed}
pub use Rattle.plan_model.specs.declared.scenes.Scene.{Scene}
pub use Rattle.plan_model.specs.declared.spans.Span.{Span}
pub use Rattle.plan_model.specs.declared.tasks.Task.{Task}
pub use Rattle.plan_model.specs.declared.text_terms.Key.{Key}
pub use Rattle.plan_model.specs.declared.text_terms.Kind.{Kind}
pub use Rattle.plan_model.specs.declared.trees.Twig.{Twig}
pub use Rattle.std.proofs.Common.{Bool, FitsSigned, IfNone, List, None, Option, Some, [], add-one, add-zero, ap, arith, below_more, cond, drop, eqb, false}
pub use Rattle.std.proofs.Common.{get_or, inl, inr, int_le, leb, length, ltb, map, min, not, of_z, refl, reverse, rules, set, subst, suc, sym, take}
pub use Rattle.std.proofs.Common.{take-append-drop, take-suc, to_z, true, w32, w64, zero, ℕ, ◌%◌, ◌*◌, ◌++◌, ◌+◌, ◌-◌, ◌/◌, ◌<◌, ◌^◌, ◌||◌, ◌∙◌, ◌∷◌, ◌≡◌, ◌≤◌}
pub use Rattle.std.proofs.Math.ListN.{get_or-map}
pub use Rattle.std.proofs.Math.Nat.{div-le_of_le-mul, div-le_self, div-mul-le_self, le_of_mul-le-mul_left, le_of_mul-le-mul_right, le_refl}
pub use Rattle.std.proofs.Math.Nat.{mul-div_cancel_left, mul-pos, pow-le-pow_right, pow-suc}
pub use Rattle.std.proofs.Math.Seq.{get_or-append_seam}
pub use Rattle.std.proofs.Props.{props}
pub use Rattle.std.proofs.lemmas.Bool.{and_from, and_left, and_parts, and_right, cases_Bool, cases_eq, cases_lt, cases_order, cond-false, cond-true, cond_both}
pub use Rattle.std.proofs.lemmas.Bool.{eqb-false, eqb-true, false_from_ne_true, le-leb, le-ltb, leb-false, leb-true, lt-leb, lt-ltb, ltb-false, ltb-true}
pub use Rattle.std.proofs.lemmas.Bool.{ne_eqb, or_cases, or_left, or_parts, or_right, true≢false}
pub use Rattle.std.proofs.lemmas.Bool.Decides.{nat_tests}
pub use Rattle.std.proofs.lemmas.Grind.{common_steps}
pub use Rattle.std.proofs.lemmas.Int.{ints, to_z-of_z}
pub use Rattle.std.proofs.lemmas.Int.Digits.{all_below_base_digits_of, length-digits_of-le, number_digits_of, number_lt}
pub use Rattle.std.proofs.lemmas.List.{append-nil, at_drop_more, drop-append-le, ext_get_or, get_or-append_right, get_or-set_other, get_or-set_same}
pub use Rattle.std.proofs.lemmas.List.{get_or_append_left, get_or_past, length-map, length-take-le, length_push, map-append, map-id, map-set, nil_from_length}
pub use Rattle.std.proofs.lemmas.List.{reverse-append, set-get_or, take-append-le, take_rest}
pub use Rattle.std.proofs.lemmas.List.Elements.{All-cons, All-contains, All-head, All-map, All-nil, All-push, All-same, All-tail, All-weaker}
pub use Rattle.std.proofs.lemmas.List.Elements.{Contains-append_cases, Contains-append_left, Contains-append_right, Contains-push, Contains-push_cases}
pub use Rattle.std.proofs.lemmas.List.Elements.{filter-append, filter_passes}
pub use Rattle.std.proofs.lemmas.List.Folds.{list_all_at}
pub use Rattle.std.proofs.lemmas.List.FromFn.{get_or-range_with_len, length-range_with_len, map-range_with_len_more}
pub use Rattle.std.proofs.lemmas.List.Sums.{AllPass-from_list_all, count_by-le-length, fold_more, length-filter, list_all-from_AllPass}
pub use Rattle.std.proofs.lemmas.List.Sums.{prefix_len-le-length, sum_by-append, sum_by-cons, sum_by_push}
pub use Rattle.std.proofs.lemmas.Nat.{div-add-mod', div-mul-add, div_below, le-div, mod-mul-add, mod_below, mul-le, pow_pos, xor_lt}
pub use Rattle.std.proofs.lemmas.Option.{same_Some, slice_get-get_or, slice_get_past}
pub use Rattle.std.proofs.lemmas.Slice.Eq.{bytes_eq-Decides}
pub use Rattle.std.specs.Cmp.Derive.{both_true}
pub use Rattle.std.specs.Int.{abs_diff}
pub use Rattle.std.specs.Int.Digits.{digits_of}
pub use Rattle.std.specs.List.{flat_map, list_all, list_any, position_or_len, prefix_len, range_with_len}
pub use Rattle.std.specs.Option.{option_or}
pub use Rattle.std.specs.Prelude.{All, Contains, IsSome, IsTrue, bit_xor, bytes_eq, count_by, fold, int_div, is_none, is_some, max, nat_eq, nat_le, nat_lt}
pub use Rattle.std.specs.Prelude.{neg_ℤ, negsuc, option_map, pos, replicate, slice_get, unsigned_abs, unwrap_or, ℤ, ◌&&◌, ◌*ℤ◌, ◌+ℤ◌, ◌-ℤ◌, ◌==◌, ◌↔◌, ◌≢◌}
pub use Rattle.std.specs.Prelude.{◌≤ℤ◌, ◌⊎◌}
