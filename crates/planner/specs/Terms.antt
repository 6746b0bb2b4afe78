-- What the definitions here say of the crates below and of the types of this one, passed on from one place. Declares nothing.
pub use Rattle.std.specs.Global.{Global}
pub use Rattle.std.specs.Io.KnownBytes.{Appends, Consumes, IsAtEnd, Keeps}
pub use Rattle.std.specs.IoError.{error_kind}
pub use Rattle.std.specs.List.{join_with_byte}
pub use Rattle.std.specs.Prelude.{IfErr, IfOk, IsSomeAnd, Result, int_le, unsigned_abs}
pub use Rattle.std.specs.Vec.Iter.{into_iter_items}
pub use Rattle.std.specs.declared.io.Error.{Error}
pub use Rattle.std.specs.declared.io.ErrorKind.TheVariants.{OutOfMemory}
pub use Rattle.std.specs.declared.vec.IntoIter.{IntoIter}
pub use Rattle.any_time.specs.Sessions.{IsFresh, SessionState, has_path}
pub use Rattle.any_time.specs.BetterPaths.{AreBetterPaths, batch_report, better_report}
pub use Rattle.any_time.specs.declared.batches.TheConstants.{MOST_SESSIONS}
pub use Rattle.any_time.specs.declared.betters.Better.{Better}
pub use Rattle.path_tools.specs.SmoothPaths.{IsSmoothedReport}
pub use Rattle.plan_model.specs.Reports.ReportText.{report_text, summary}
pub use Rattle.plan_model.specs.Scenes.ChangedScenes.{IsConverted}
pub use Rattle.plan_model.specs.Scenes.MarkPoints.{first_word, second_word}
pub use Rattle.plan_model.specs.Spaces.Clearance.{ClearAt}
pub use Rattle.plan_model.specs.Texts.CanonicalText.{canonical_text}
pub use Rattle.plan_model.specs.Texts.Keys.{fault_words}
pub use Rattle.plan_model.specs.Texts.SceneGrammar.{Refused, RefusesBatch, Spells, SpellsBatch, supported}
pub use Rattle.plan_model.specs.Texts.Streams.{FaultsRose, SinkState, SourceState, counted_up}
pub use Rattle.plan_model.specs.Texts.TextLines.{is_number, lines_of, value_of}
pub use Rattle.plan_model.specs.declared.geometry.Vertex.{Vertex}
pub use Rattle.plan_model.specs.declared.limits.TheConstants.{MOST_SCENES, MOST_TEXT_BYTES, MOST_WORKERS}
pub use Rattle.plan_model.specs.declared.scenes.Marks.TheVariants.{Drawn}
pub use Rattle.plan_model.specs.declared.text_terms.Kind.{Kind}
pub use Rattle.planner.specs.declared.answers.Answer.{Answer}
pub use Rattle.planner.specs.declared.commands.Command.{Command}
pub use Rattle.planner.specs.declared.generated_scenes.TheConstants.{MOST_GENERATED}
pub use Rattle.planner.specs.declared.refusals.Refusal.{Refusal}
pub use Rattle.planner.specs.declared.statuses.TheConstants.{DONE, GOAL_BLOCKED, NO_MEMORY, NO_PATH, READ_FAULT, START_BLOCKED, TEXT_REFUSED, WORDS_REFUSED}
pub use Rattle.planner.specs.declared.statuses.TheConstants.{WRITE_FAULT}
pub use Rattle.planner.specs.declared.top_call.Done.{Done}
pub use Rattle.report_judge.specs.Laws.Verdicts.{IsVerdict}
pub use Rattle.report_judge.specs.Texts.ReportCuts.{HasNoReportLine, IsCutAtReport}
pub use Rattle.report_judge.specs.declared.verdicts.Verdict.{Verdict}
pub use Rattle.report_judge.specs.declared.verdicts.Verdict.TheVariants.{Broken, Lawful}
pub use Rattle.scene_text.specs.Fetching.{CameTooLong, IsAllOf, ReadsWithin}
pub use Rattle.scene_text.specs.declared.fetching.FetchFault.{FetchFault}
pub use Rattle.scene_text.specs.declared.refusals.SceneRefusal.{SceneRefusal}
pub use Rattle.settle_report.specs.SettledMarks.{AppendsPrefix}
pub use Rattle.twin_trees.specs.Twins.{IsTwin, IsWholeRun, goal_middle, twin_text}
pub use Rattle.twin_trees.specs.declared.twin_runs.Twin.{Twin}
pub use Rattle.twin_trees.specs.declared.twin_runs.TwinFault.{TwinFault}
pub use Rattle.report_judge.specs.Terms.{Goal, IsClosed, IsSettled, List, MOST_MARKS, Point, Record, Scene, Task, TreeState, best_node, goals_of, line}
pub use Rattle.report_judge.specs.Terms.{list_all, range_with_len, setup_of, space_of, ℕ}
pub use Rattle.twin_trees.specs.Terms.{Grown, IsOfTextbookRun, mark_points, state_of_grown}
