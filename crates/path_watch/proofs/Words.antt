-- The definitions and lemmas that proofs of this crate are about, passed on from one place. Declares nothing.
pub use Rattle.any_time.proofs.EachSlice.{items_fall_on}
pub use Rattle.any_time.proofs.GatheredItems.{AreBetterPaths-gathered, EndsWith-gathered}
pub use Rattle.any_time.proofs.KnownOptions.{there_some}
pub use Rattle.any_time.specs.Batches.{ArePolled, Gathers}
pub use Rattle.any_time.specs.Sessions.{IsNew, IsOver, Polls, SessionState}
pub use Rattle.any_time.specs.Items.{Answers, HasGiven, betters_among}
pub use Rattle.any_time.specs.declared.betters.Better.{Better}
pub use Rattle.futures.specs.declared.task.Poll.{Poll}
pub use Rattle.futures.specs.declared.task.Poll.TheVariants.{Pending, Ready}
pub use Rattle.grown_runs.proofs.Common.{MOST_TEXT_BYTES, length-points_of_marks}
pub use Rattle.grown_runs.specs.Runs.GrownRuns.{state_of_grown}
pub use Rattle.grown_runs.specs.declared.grown.Grown.{Grown}
pub use Rattle.path_watch.specs.Watching.{Comes, Cuts, EndsAfter, Hands, HandsEnd, HasWatched, IsAfter, IsAskedSession, IsRefused, Refuses, Takes}
pub use Rattle.path_watch.specs.Watching.{TakesBlocks, Watches, WatchesScene, block, end_text, pendings, status_of_ending}
pub use Rattle.path_watch.specs.WatchWords.{as_plan, orders_of}
pub use Rattle.path_watch.specs.declared.watch_words.Orders.{Orders}
pub use Rattle.path_watch.specs.declared.watching.Ending.{Ending}
pub use Rattle.plan_model.specs.Reports.ReportText.{report_text}
pub use Rattle.plan_model.specs.Texts.SceneGrammar.{Spells, supported}
pub use Rattle.plan_model.specs.Texts.Streams.{SinkState, SourceState}
pub use Rattle.plan_model.specs.Trees.BestNode.{best_node, goals_of}
pub use Rattle.plan_model.specs.Trees.TreeStates.{IsSettled}
pub use Rattle.plan_model.specs.declared.errors.Memory.{Memory}
pub use Rattle.plan_model.specs.declared.scenes.Scene.{Scene}
pub use Rattle.planner.proofs.Causes.{IfErr-only, IsReadWhole-fetched}
pub use Rattle.planner.proofs.ConcludedCalls.{status_of-words}
pub use Rattle.planner.proofs.DecidedStatuses.{refusal_decided, success_decided}
pub use Rattle.planner.proofs.GivenBatches.{IsRunBySlices-finished}
pub use Rattle.planner.specs.Endings.{IsDecided, IsSessionOf}
pub use Rattle.planner.specs.CheckedTexts.{RefusesSceneText}
pub use Rattle.planner.specs.Conclusions.{IsCaused, IsRunBySlices, status_of_report}
pub use Rattle.planner.specs.Inputs.{IsReadWhole, IsUnread, ReadFailed, WriteFailed}
pub use Rattle.planner.specs.Refusals.{status_of}
pub use Rattle.planner.specs.declared.refusals.Refusal.{Refusal}
pub use Rattle.planner.specs.declared.statuses.TheConstants.{NO_MEMORY, WORDS_REFUSED, WRITE_FAULT}
pub use Rattle.planner.specs.declared.top_call.Done.{Done}
pub use Rattle.scene_text.specs.Fetching.{ReadsWithin}
pub use Rattle.std.proofs.Common.{Err, IfSome, IsSome, IsSomeAnd, List, None, Ok, Option, Result, Some, [], ap, append-nil, arith, false, inl, inr, length, map}
pub use Rattle.std.proofs.Common.{refl, subst, suc, sym, zero, ℕ, ◌++◌, ◌∙◌, ◌∷◌, ◌≡◌, ◌≤◌, ◌⊎◌}
pub use Rattle.std.proofs.KnownBytes.{Consumes-nil, Keeps-refl}
pub use Rattle.std.proofs.lemmas.Fn.{FoldsTo-push, chained_keeps}
pub use Rattle.std.proofs.lemmas.List.{map-append}
pub use Rattle.std.specs.List.{FoldsTo}
pub use Rattle.std.specs.Prelude.{is_some}
