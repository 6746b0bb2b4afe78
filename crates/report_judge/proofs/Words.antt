-- The definitions and lemmas that proofs of this crate are about, passed on from one place. Declares nothing.
pub use Rattle.edge_cost.proofs.RadiusFromRoot.{class_below}
pub use Rattle.edge_cost.specs.declared.radii.Radii.{Radii}
pub use Rattle.grown_runs.proofs.Common.{All-task_marks_within, AreDistinct, AreSameRuns, AreTightAlong, AreTurns, Blocked, Clear, ClearAt, ConfigurationSpace}
pub use Rattle.grown_runs.proofs.Common.{Ending, FallAlong, FitsRecord-closed, Goal, Hangs, HangsBelow, HangsBelow-falls, HasLawfulEnding, IsBounded}
pub use Rattle.grown_runs.proofs.Common.{IsBounded-closed, IsClosed, IsClosed-same_run, IsEarlier, IsGoalNode, IsKnot, IsKnot-at, IsLawfulRecord, IsNeighbour}
pub use Rattle.grown_runs.proofs.Common.{IsPresent, IsPresent-goal, IsPresent-stands, IsSettled, IsSettled-same, IsSteeredLawfully, KeepsOrder}
pub use Rattle.grown_runs.proofs.Common.{KeepsOrder-falls, Knot, MOST_MARKS, MOST_NODES, NewNode, NoWay, Outcome, Placed, Point, Reached, ReachesLawfully}
pub use Rattle.grown_runs.proofs.Common.{Record, Same, SameNode, Scene, Setup, Skipped, SkippedBy, StandsAt, StandsAt-present, Steered, Task, TreeState, Twig}
pub use Rattle.grown_runs.proofs.Common.{best_node, best_node-some, best_path, chain_in, chain_within, class_from_powers, class_of, cost_of, cost_of-short}
pub use Rattle.grown_runs.proofs.Common.{count-first, count-found, count-more, count-none, count-one_more, count-same, count-single, count-some, counts_line}
pub use Rattle.grown_runs.proofs.Common.{distance_to, earlier_count, ending_as, ending_of, ending_words, first_cost_of, first_hanging, full_report, goals_of}
pub use Rattle.grown_runs.proofs.Common.{has_outcome, head_line, is_blocked, is_earlier, is_earlier_record, is_goal_point, is_of_turn, is_of_worker, is_placed}
pub use Rattle.grown_runs.proofs.Common.{is_same, is_skipped, is_within, kept-low, kept_cost_of, last_field, length-marks, length_of_path, lesser}
pub use Rattle.grown_runs.proofs.Common.{lies_in_goals, line, lines_of, mark_at, mark_bound, mark_line_if_recorded, mark_lines, most_cost_of}
pub use Rattle.grown_runs.proofs.Common.{no_path_line, node_count, node_count-length, node_count-lists, node_count-some, node_line_if_present, node_lines}
pub use Rattle.grown_runs.proofs.Common.{numbers-closed, once_if-below, once_if-past, outcome_count, parent-present, parent_of-lists, path_to, pieces_of}
pub use Rattle.grown_runs.proofs.Common.{point_at, point_at-lists, point_lines, point_of, point_of-stands, points_of, present-closed, present_below}
pub use Rattle.grown_runs.proofs.Common.{radius_of_class, range-more, reached-unskipped, reached_words, record_of_ending, record_of_ending-again, recorded_or}
pub use Rattle.grown_runs.proofs.Common.{report_text-same, same-from_distance, setup_of, short_report, skipped_words, skipping_goals, space_of}
pub use Rattle.grown_runs.proofs.Common.{squared_distance, start-present, state_of_lists, steered, sum_in, sum_in-parent, sums-tight, times-once, times_of}
pub use Rattle.grown_runs.proofs.Common.{turn-below, turn_of_record, turns_of, unplaced_record, without_costs}
pub use Rattle.grown_runs.specs.Runs.PackedRuns.{FitsRecord}
pub use Rattle.plan_model.specs.Texts.SceneGrammar.{text_of}
pub use Rattle.plan_model.specs.Texts.TextLines.{is_digit, is_number, is_positive, magnitude, value_of}
pub use Rattle.point_bands.specs.Walks.{HasNoneBetween, IsStretchAfter, IsWithin, nowhere, numbered_at}
pub use Rattle.point_bands.specs.declared.bands.Numbered.{Numbered}
pub use Rattle.point_bands.specs.declared.bands.Stretch.{Stretch}
pub use Rattle.report_judge.specs.Laws.FirstBreaks.{FitsEdges, HangsExactly, HasFewTurns, HasLowTurn, IsExactEdge, IsFirstBreak, IsHighEdge, IsNewKey}
pub use Rattle.report_judge.specs.Laws.FirstBreaks.{IsSettledList, KeepsEdges, KeepsHead, KeepsNode, KeepsPoint, KeepsPresence, KeepsTurn, MayHang}
pub use Rattle.report_judge.specs.Laws.FirstBreaks.{earlier_of, point_key, turn_key}
pub use Rattle.report_judge.specs.Laws.Verdicts.{BreaksLawFirst, IsBroken, IsLawful, IsReportOfRun, IsVerdict, bytes_of}
pub use Rattle.report_judge.specs.Laws.SheetLaws.{HasOwnTurn, IsSoundNode, IsStartNode, KeepsLaw, KeepsLawAt, KeepsNodeLaw, best_priced_path, path_by}
pub use Rattle.report_judge.specs.Laws.SheetLaws.{skipped_of, tally_of}
pub use Rattle.report_judge.specs.Texts.ReportForms.{AreAll, AreBegun, BreaksFormFirst, IsNextNode, MayFollow, MayStandNext, ReadsNodes, ReadsPoints}
pub use Rattle.report_judge.specs.Texts.ReportForms.{ReadsRecords, counts_place, nodes_said, nodes_to_come}
pub use Rattle.report_judge.specs.Texts.ReportCuts.{HasNoReportLine, IsCutAtReport, IsOtherLine, has_no_feed, priced_path, report_line, sheet_read}
pub use Rattle.report_judge.specs.Texts.ReportLines.{EndsWithin, Extent, FitsEntry, FitsKnot, FitsLine, FitsSkipped, FitsTally, ReachesWithin, ReportLine}
pub use Rattle.report_judge.specs.Texts.ReportLines.{Tally, extent_of, field, line_text, line_words, lines_text, mark_front, point_field, skipped_count}
pub use Rattle.report_judge.specs.Texts.ReportLines.ReportLine.{Counts, MarkLine, NoPath, NodeLine, PathOf, PathPoint}
pub use Rattle.report_judge.specs.Texts.ReportSheets.{FitsOptionalPath, HasForm, PricedPath, Sheet, SpellsSheet, head_lines, line_of_knot, line_of_record}
pub use Rattle.report_judge.specs.Texts.ReportSheets.{lines_of_knots, lines_of_records, lines_of_sheet, number_of_mark_line, number_of_node_line, path_lines}
pub use Rattle.report_judge.specs.Texts.ReportSheets.{state_of_sheet}
pub use Rattle.report_judge.specs.Workers.JudgedRuns.{AreRadiiOf, HaveLowTurns, IsAsked, IsJudged, KeepsRecord, KeepsRecordBelow, KeepsRecordBetween}
pub use Rattle.report_judge.specs.Workers.JudgedRuns.{KeepsRecordOf, run_of, setup_by}
pub use Rattle.report_judge.specs.Workers.OwnNodes.{AreMarksBetween, AreNodesBefore, ArePresent, FitFirstCosts, HasNo, HasNumber, HasOne, IsFirstSeen}
pub use Rattle.report_judge.specs.Workers.OwnNodes.{IsMarkBetween, IsNearerAt, IsNearestOfEarlier, IsNodeBefore, IsPassedOverAt, IsPlacedAt}
pub use Rattle.report_judge.specs.Workers.OwnNodes.{IsReachedLawfully, IsTaken, IsUnlawfulAt, KeepsNear}
pub use Rattle.report_judge.specs.Workers.SeenNodes.{AreMarksByTurn, AreSeen, AreStandings, HaveOwnTurns, IsLeastGoalCost, IsLeastIfAny, IsMarkOfTurn}
pub use Rattle.report_judge.specs.Workers.SeenNodes.{IsTurnOf, count_before, is_before, no_standing, place_of, places_before, standing_at, standing_of}
pub use Rattle.report_judge.specs.Workers.SeenNodes.{turns_to}
pub use Rattle.report_judge.specs.declared.marks.judged.Judged.{Judged}
pub use Rattle.report_judge.specs.declared.marks.judged.Marked.{Marked}
pub use Rattle.report_judge.specs.declared.own.searches.NearerSearch.{NearerSearch}
pub use Rattle.report_judge.specs.declared.own.searches.NeighbourSearch.{NeighbourSearch}
pub use Rattle.report_judge.specs.declared.own.seen_nodes.Seen.{Seen}
pub use Rattle.report_judge.specs.declared.own.standings.Standing.{Standing}
pub use Rattle.report_judge.specs.declared.verdicts.Verdict.TheVariants.{Broken, Lawful}
pub use Rattle.settle_report.proofs.CountedMarks.{AreCounts-next}
pub use Rattle.settle_report.proofs.GoalNodes.{best_of, best_of-all, best_of-goal_node, best_of-other}
pub use Rattle.settle_report.proofs.GrownPaths.{path_to-reverse, points_up, points_up-start, steps_up}
pub use Rattle.settle_report.specs.SettledMarks.{AreCounts}
pub use Rattle.std.proofs.Common.{Bool, Bor, List, None, Option, Some, [], ap, append-nil, append_assoc, arith, below_more, cond, decimal, drop, drop-cons, eqb}
pub use Rattle.std.proofs.Common.{false, get_or, inl, inr, leb, length, length-append, length-drop, ltb, map, not, pos, refl, replicate, reverse, rules, set}
pub use Rattle.std.proofs.Common.{subst, suc, sym, take, true, zero, ℕ, ◌%◌, ◌*◌, ◌++◌, ◌+◌, ◌-◌, ◌/◌, ◌<◌, ◌==◌, ◌^◌, ◌∙◌, ◌∷◌, ◌≡◌, ◌≤◌}
pub use Rattle.std.proofs.Math.Nat.{mul_assoc, mul_comm, pow-le-pow_right, pow-suc}
pub use Rattle.std.proofs.Math.Seq.{take-append_seam}
pub use Rattle.std.proofs.lemmas.Bool.{and_from, and_parts, and_right, both_ways, cases_Bool, cases_eq, cases_lt, cases_order, eq-eqb, eqb-true}
pub use Rattle.std.proofs.lemmas.Bool.{false_from_ne_true, false≢true, iff_false, le-leb, le-ltb, leb-true, lt-ltb, ltb-true, ne_eqb, not-false}
pub use Rattle.std.proofs.lemmas.Bool.{not-true, true≢false}
pub use Rattle.std.proofs.lemmas.Bool.Decides.{Decides-eqb, nat_tests}
pub use Rattle.std.proofs.lemmas.Fmt.{decimal-digits_value, decimal_by_steps, decimal_digit, decimal_injective}
pub use Rattle.std.proofs.lemmas.Grind.{flat_map-append, get_or-set_at}
pub use Rattle.std.proofs.lemmas.List.{append_cancel_left, ext_get_or, get_or-replicate, get_or-reverse, get_or-set_other, get_or-take, get_or_append_left}
pub use Rattle.std.proofs.lemmas.List.{get_or_default, get_or_past, get_or_push, length-map, length-replicate, length-reverse, length-take-le}
pub use Rattle.std.proofs.lemmas.List.{map-append, nil_from_length, take-append-drop, take-append-le, take-take, take_all, take_more}
pub use Rattle.std.proofs.lemmas.List.Elements.{All-head, All-map, All-push, All-tail, Contains-append_left, Contains-push}
pub use Rattle.std.proofs.lemmas.List.Folds.{Any-from_list_any, flat_map-map, list_all-append, list_any_at, list_any_more}
pub use Rattle.std.proofs.lemmas.List.FromFn.{get_or-map-range_with_len, length-map-range_with_len, length-range_with_len}
pub use Rattle.std.proofs.lemmas.List.Kept.{AllPairs-from_increasing}
pub use Rattle.std.proofs.lemmas.List.Sorted.{All-permutation, Contains-permutation, IsPermutation-sym}
pub use Rattle.std.proofs.lemmas.List.Sums.{count_by-le-length, fold-append, length-filter, prefix_len_stops, sum_by-take-le, sum_by_push}
pub use Rattle.std.proofs.lemmas.Map.Keys.{IsDistinct-IsPermutation}
pub use Rattle.std.proofs.lemmas.Map.Made.{AllPairs-from_IsDistinct, IsDistinct-from_AllPairs}
pub use Rattle.std.proofs.lemmas.Nat.{mul-le}
pub use Rattle.std.proofs.lemmas.Option.{get_or_from_slice_get, slice_get-get_or, slice_get_past, slice_get_read, slice_get_within}
pub use Rattle.std.proofs.lemmas.Slice.Eq.{bytes_eq-Decides, strip_prefix_is}
pub use Rattle.std.proofs.lemmas.Str.Parse.{FoldsDigits, IsDigitsTest, numerals_by_fold}
pub use Rattle.std.specs.BTreeSet.{contains}
pub use Rattle.std.specs.Cmp.{booleans_Decides}
pub use Rattle.std.specs.Int.{IsInRange, abs_diff}
pub use Rattle.std.specs.List.{AllPairs, IsDistinct, flat_map, join_with_byte, list_all, list_any, position_or_len, prefix_len, range_with_len}
pub use Rattle.std.specs.List.Sorted.{IsPermutation, IsStrictlyIncreasing}
pub use Rattle.std.specs.Option.{MatchOption}
pub use Rattle.std.specs.Ordering.{is_eq, nat_cmp}
pub use Rattle.std.specs.Prelude.{All, Contains, IfErr, IsSome, IsTrue, bytes_eq, codes, count_by, fold, int_le, is_some, min, option_map, slice_get}
pub use Rattle.std.specs.Prelude.{slice_index_or, slice_set, unwrap_or, ◌&&◌, ◌||◌, ◌↔◌, ◌≢◌, ◌⊎◌}
