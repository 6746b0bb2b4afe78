-- The definitions and lemmas that proofs of this crate are about, passed on from one place. Declares nothing.
pub use Rattle.any_time.specs.Batches.{HasFinished}
pub use Rattle.any_time.specs.Sessions.{IsFresh, SessionState, has_path}
pub use Rattle.any_time.specs.BetterPaths.{batch_report, better_report}
pub use Rattle.any_time.specs.declared.betters.Better.{Better}
pub use Rattle.grown_runs.proofs.Common.{ClearAt, ConfigurationSpace, InRoom, IsBetweenWalls, IsClosed, IsOfTextbookRun, IsOfTextbookRun-settled, IsPresent}
pub use Rattle.grown_runs.proofs.Common.{IsSettled, Kind, LEAST_OBSTACLE_COORDINATE, MOST_OBSTACLES, MOST_OBSTACLE_COORDINATE, MOST_TEXT_BYTES, Meets, Point}
pub use Rattle.grown_runs.proofs.Common.{Read, Scene, Setup, SharesPoint-meets, SourceState, Spells, Spells-not_refused, Spells-one_scene}
pub use Rattle.grown_runs.proofs.Common.{SpellsBatch-not_refused, SpellsBatch-one_batch, Task, TreeState, Vertex, are_obstacles, at_lattice, best_node}
pub use Rattle.grown_runs.proofs.Common.{counted_up, goals_of, is_corner_between, is_obstacle, is_strictly_convex, length-points_of_marks, mark_points, minus}
pub use Rattle.grown_runs.proofs.Common.{moved_by, orientation, setup_of, space_among, space_of, state_of_grown, supported, true_of_below, var, weighted}
pub use Rattle.grown_runs.specs.declared.grown.Grown.{Grown}
pub use Rattle.path_tools.specs.SmoothPaths.{IsSmoothedReport}
pub use Rattle.plan_model.proofs.Ring.{times}
pub use Rattle.plan_model.specs.Texts.SceneGrammar.{text_of}
pub use Rattle.plan_model.specs.Texts.Streams.{SinkState}
pub use Rattle.plan_model.specs.Texts.TextLines.{lines_of}
pub use Rattle.plan_model.specs.declared.limits.TheConstants.{MOST_MARKS}
pub use Rattle.plan_work.proofs.TextbookEnds.{IsOfTextbook-new, IsOfTextbookRun-whole}
pub use Rattle.planner.specs.Endings.{HasConcluded, HaveSessions, IsDecided, IsDecidedBy, IsSessionOf}
pub use Rattle.planner.specs.CheckedTexts.{Judges, RefusesCheck, RefusesSceneText, RefusesWithoutReport}
pub use Rattle.planner.specs.Commands.{AreNoText, command_of, given, greatest_success, input_of, plans, reads_text, tests_goal, tests_start}
pub use Rattle.planner.specs.Conclusions.{Answers, Asks, BlocksGoal, BlocksStart, HandsOutNothing, HandsOutRunAlone, HasBatch, HasScene, IsAnswer}
pub use Rattle.planner.specs.Conclusions.{IsBetterReport, IsCaused, IsReport, IsRunBySlices, IsSceneOf, IsSuccess, IsSummary, MayReach, MayStart, OfScene}
pub use Rattle.planner.specs.Conclusions.{Report, ReportsBatch, ReportsGrown, ReportsScene, ReportsTwin, Succeeds, status_of_report}
pub use Rattle.planner.specs.Inputs.{AreGoalsClear, AreStartsClear, CameShort, Input, IsCutShort, IsReadWhole, IsTextBeforeReport, IsUnread, IsWrittenWhole}
pub use Rattle.planner.specs.Inputs.{ReadFailed, RefusesFront, RefusesInput, RefusesWhole, SpellsInput, nothing, one_scene, reads_bytes, scene_and_report}
pub use Rattle.planner.specs.Inputs.{several_scenes}
pub use Rattle.planner.specs.Refusals.{refusal_of_fetch, refusal_of_scene, refusal_of_twin, status_of, status_of_verdict}
pub use Rattle.planner.specs.GeneratedScenes.{generated_obstacle, generated_obstacles, lattice_corner, obstacle_by, place_in_cell, side_by, square_at}
pub use Rattle.planner.specs.GeneratedScenes.{triangle_at}
pub use Rattle.planner.specs.declared.answers.Answer.{Answer}
pub use Rattle.planner.specs.declared.commands.Command.{Command}
pub use Rattle.planner.specs.declared.refusals.Refusal.{Refusal}
pub use Rattle.planner.specs.declared.statuses.TheConstants.{GOAL_BLOCKED, NO_MEMORY, NO_PATH, START_BLOCKED, TEXT_REFUSED, WORDS_REFUSED, WRITE_FAULT}
pub use Rattle.planner.specs.declared.top_call.Done.{Done}
pub use Rattle.report_judge.specs.Texts.ReportCuts.{HasNoReportLine, IsCutAtReport, IsOtherLine, has_no_feed, report_line}
pub use Rattle.report_judge.specs.declared.verdicts.Verdict.{Verdict}
pub use Rattle.report_judge.specs.declared.verdicts.Verdict.TheVariants.{Broken, Lawful}
pub use Rattle.scene_text.specs.Fetching.{CameTooLong, Fetches, IsAllOf, IsBatchRefusal, ReadsWithin}
pub use Rattle.scene_text.specs.Drafts.{IsSceneRefusal}
pub use Rattle.scene_text.specs.declared.fetching.FetchFault.{FetchFault}
pub use Rattle.scene_text.specs.declared.refusals.SceneRefusal.{SceneRefusal}
pub use Rattle.std.proofs.Common.{Bool, Err, IfErr, IfNone, IfSome, IsErrAnd, IsErrOf, IsSome, IsSomeAnd, IsTrue, List, MatchBool, None, Ok, Option, Result}
pub use Rattle.std.proofs.Common.{Some, Vec, [], ap, append_assoc, arith, below_more, drop, false, get_or, inl, inr, length, length-append, map, not, refl}
pub use Rattle.std.proofs.Common.{rules, subst, suc, sym, true, zero, ℕ, ◌%◌, ◌*◌, ◌++◌, ◌+◌, ◌/◌, ◌<◌, ◌∙◌, ◌∷◌, ◌≡◌, ◌≢◌, ◌≤◌, ◌⊎◌}
pub use Rattle.std.proofs.KnownBytes.{Consumes-nil, Keeps-refl}
pub use Rattle.std.proofs.Math.Dec.{eqb}
pub use Rattle.std.proofs.Math.Nat.{mul-pos}
pub use Rattle.std.proofs.lemmas.Bool.{and_from, and_parts, false≢true, le-leb}
pub use Rattle.std.proofs.lemmas.Bool.Decides.{eqb_tells}
pub use Rattle.std.proofs.lemmas.Int.{ints}
pub use Rattle.std.proofs.lemmas.Iterator.{items_from_collect}
pub use Rattle.std.proofs.lemmas.Iterator.Adapters.{YieldsList-from_skip, YieldsList-from_vec}
pub use Rattle.std.proofs.lemmas.Iterator.Consumers.{YieldsList-end, YieldsList-turn}
pub use Rattle.std.proofs.lemmas.List.{get_or_append_left, get_or_default, get_or_push, length_push}
pub use Rattle.std.proofs.lemmas.List.Elements.{All-from_recursion, All-head, All-map, All-tail}
pub use Rattle.std.proofs.lemmas.List.Folds.{list_all-map}
pub use Rattle.std.proofs.lemmas.List.FromFn.{length-map-range_with_len, map-range_with_len_more}
pub use Rattle.std.proofs.lemmas.List.Sums.{sum_by-cons}
pub use Rattle.std.proofs.lemmas.Nat.{div-add-mod', mod_below, mul-le}
pub use Rattle.std.proofs.lemmas.Result.{IfOk-weaker}
pub use Rattle.std.specs.Io.KnownBytes.{Consumes, IsAtEnd}
pub use Rattle.std.specs.Iterator.Adapters.{skip_source}
pub use Rattle.std.specs.List.{list_all, range_with_len}
pub use Rattle.std.specs.Prelude.{All, String, int_lt, is_some, nat_le, negsuc, pos, string_bytes, sum, ℤ, ◌*ℤ◌, ◌<ℤ◌, ◌==◌, ◌≤ℤ◌}
pub use Rattle.std.specs.Vec.Iter.{into_iter_items}
pub use Rattle.std.specs.declared.io.Error.{Error}
pub use Rattle.std.specs.declared.vec.IntoIter.{IntoIter}
pub use Rattle.twin_trees.proofs.TurnedRuns.{ClearAt-middle}
pub use Rattle.twin_trees.specs.Twins.{IsBridge, IsTwin, goal_middle}
pub use Rattle.twin_trees.specs.declared.twin_runs.TwinFault.{TwinFault}
