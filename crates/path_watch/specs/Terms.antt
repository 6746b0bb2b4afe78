-- What the definitions here say of the crates below and of the types of this one, passed on from one place. Declares nothing.
pub use Rattle.any_time.specs.BetterPaths.{better_line}
pub use Rattle.any_time.specs.Items.{Answers, HasGiven}
pub use Rattle.any_time.specs.Sessions.{Polls}
pub use Rattle.path_watch.specs.declared.handing.Step.{Step}
pub use Rattle.path_watch.specs.declared.watch_words.Orders.{Orders}
pub use Rattle.path_watch.specs.declared.watching.Ending.{Ending}
pub use Rattle.plan_model.specs.Reports.ReportText.{counts_line, no_path_line, path_line, point_lines}
pub use Rattle.planner.specs.Endings.{IsDecided, IsSessionOf}
pub use Rattle.planner.specs.Commands.{number_in}
pub use Rattle.planner.specs.Conclusions.{HasScene, IsCaused, IsRunBySlices, status_of_report}
pub use Rattle.planner.specs.Inputs.{IsCutShort, IsUnread, IsWrittenWhole, ReadFailed, WriteFailed}
pub use Rattle.planner.specs.Refusals.{line_of, status_of}
pub use Rattle.planner.specs.declared.commands.Command.{Command}
pub use Rattle.planner.specs.declared.refusals.Refusal.{Refusal}
pub use Rattle.planner.specs.declared.statuses.TheConstants.{NO_MEMORY, WRITE_FAULT}
pub use Rattle.planner.specs.Terms.{Better, ClearAt, Grown, MOST_MARKS, MOST_WORKERS, ReadsWithin, Scene, SessionState, SinkState, SourceState, Task}
pub use Rattle.planner.specs.Terms.{has_path, mark_points, space_of, state_of_grown}
pub use Rattle.any_time.specs.Terms.{FoldsTo, Memory, Pending, Ready}
