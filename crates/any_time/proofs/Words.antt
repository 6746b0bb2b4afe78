-- The definitions and lemmas that proofs of this crate are about, passed on from one place. Declares nothing.
pub use Rattle.any_time.specs.Batches.{AllEmpty, AllOver, AllRest, ArePolled, BatchAnswers, BatchItemsFall, BatchPolls, BatchState, EndsWithSessions}
pub use Rattle.any_time.specs.Batches.{FailsByMemory, Gathers, GathersBatch, Gave, HasFinished, IsBatchOver, ItemsAreOfSessions, Rests, at, betters_of}
pub use Rattle.any_time.specs.Batches.{first_turn, has_memory, place_of, turn_after}
pub use Rattle.any_time.specs.Sessions.{Handles, IsBetter, IsFresh, IsNew, IsOfFirstNodes, IsOver, Leads, LeadsIntoGoal, Moves, Polls, SessionState, Shows}
pub use Rattle.any_time.specs.Sessions.{best_of, best_sum, has_path}
pub use Rattle.any_time.specs.BetterPaths.{AreBetterPaths, batch_report, better_lines, scene_report}
pub use Rattle.any_time.specs.Items.{Answers, AreSlices, AreTextbookItems, EndsWith, Fall, GivesTextbookItems, GrowBySlices, HasGiven, HaveGoalNode, IfFirst}
pub use Rattle.any_time.specs.Items.{IsFirstPath, IsFound, IsRunOf, IsTextbookItem, IsTextbookPath, ItemsFall, MissesNoFall, betters_among, last_among}
pub use Rattle.any_time.specs.Items.{last_cost, last_of, up_to}
pub use Rattle.any_time.specs.declared.betters.Better.{Better}
pub use Rattle.any_time.specs.declared.betters.Last.{Last}
pub use Rattle.futures.specs.Task.{Keeps}
pub use Rattle.futures.specs.declared.task.Poll.{Poll}
pub use Rattle.futures.specs.declared.task.Poll.TheVariants.{Pending, Ready}
pub use Rattle.futures.specs.declared.task.context.Context.{Context}
pub use Rattle.grown_runs.proofs.Common.{AreNumberedTo, AreSameRuns, AreSameRuns-textbook, Contains-after, Contains-first, FallAlong-ordered, Goal, GrowsInto}
pub use Rattle.grown_runs.proofs.Common.{GrowsInto-refl, GrowsInto-trans, IsAllowedEdge, IsBestNode, IsClosed, IsGoalNode, IsGoalNode-grows, IsOfTextbookRun}
pub use Rattle.grown_runs.proofs.Common.{IsPresent, IsPresent-goal, IsSettled, IsSettled-of_textbook, KeepsOrder, KeepsOrder-falls, Point, Record, Scene, Setup}
pub use Rattle.grown_runs.proofs.Common.{StandsAt, StandsAt-present, Task, TreeState, best_node, best_node-none, best_node-same, best_node-some, best_sum-grows}
pub use Rattle.grown_runs.proofs.Common.{chain-parent, chain-start, chain_in, chain_in-same, goals_of, is_goal_point, length_of_path, length_of_path-reverse}
pub use Rattle.grown_runs.proofs.Common.{lies_in_goals, numbers-closed, path_point, path_to, point_at, point_at-grows, point_of, present-of_record}
pub use Rattle.grown_runs.proofs.Common.{record-of_present, setup_of, start_present-held, state_of_grown, sum_in, sum_in-same, words_of_grown}
pub use Rattle.grown_runs.specs.declared.grown.Grown.{Grown}
pub use Rattle.plan_model.proofs.MarkBounds.{length-marks}
pub use Rattle.plan_model.specs.declared.errors.Memory.{Memory}
pub use Rattle.plan_work.proofs.TextbookEnds.{IsOfTextbook-new}
pub use Rattle.plan_work.specs.OneWorker.{IsOfTextbook}
pub use Rattle.settle_report.proofs.GrownPaths.{path_to-reverse, points_up}
pub use Rattle.std.proofs.Common.{Bool, Err, IfSome, IsSome, IsSomeAnd, List, MatchOption, None, Ok, Option, Result, Some, [], ap, append-nil, append_assoc}
pub use Rattle.std.proofs.Common.{arith, below_more, drop, false, get_or, get_or-set_other, get_or-set_same, if◌then◌else◌, inl, inr, length, length-append}
pub use Rattle.std.proofs.Common.{length-set, map, min, nat_eq, refl, reverse, rules, set, string_bytes, subst, suc, sym, take, true, vec_capacity, zero, ℕ}
pub use Rattle.std.proofs.Common.{◌&&◌, ◌*◌, ◌++◌, ◌+◌, ◌-◌, ◌<◌, ◌||◌, ◌∙◌, ◌∷◌, ◌≡◌, ◌≢◌, ◌≤◌, ◌⊎◌}
pub use Rattle.std.proofs.Math.Decide.{dec_lt}
pub use Rattle.std.proofs.Math.ListN.{length-map}
pub use Rattle.std.proofs.Math.Nat.{min-le_left, min-le_right, mul-le-mul_right}
pub use Rattle.std.proofs.lemmas.Bool.{cases_lt, true≢false}
pub use Rattle.std.proofs.lemmas.Bool.Decides.{nat_tests}
pub use Rattle.std.proofs.lemmas.Iterator.Adapters.{YieldsList-from_vec}
pub use Rattle.std.proofs.lemmas.Iterator.Consumers.{YieldsList-end, YieldsList-turn}
pub use Rattle.std.proofs.lemmas.List.{drop_more, get_or-append_right, get_or_append_left, get_or_read, length_push, map-append, map_more, map_push}
pub use Rattle.std.proofs.lemmas.List.{reverse-append, set-get_or, set-set}
pub use Rattle.std.proofs.lemmas.List.Elements.{All-cons, All-contains, All-head, All-nil, All-tail, All-weaker, Contains-get_or}
pub use Rattle.std.proofs.lemmas.List.Folds.{list_all_more}
pub use Rattle.std.proofs.lemmas.Result.{IfOk-weaker}
pub use Rattle.std.specs.List.{FoldsTo, list_all}
pub use Rattle.std.specs.Prelude.{All, Contains, IsTrue, nat_le, option_map, unwrap_or}
