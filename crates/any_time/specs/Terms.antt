-- What the definitions here say of the crates below and of the types of this one, passed on from one place. Declares nothing.
pub use Rattle.std.specs.List.{FoldsTo}
pub use Rattle.std.specs.Prelude.{nat_lt}
pub use Rattle.any_time.specs.declared.betters.Better.{Better}
pub use Rattle.any_time.specs.declared.betters.Last.{Last}
pub use Rattle.futures.specs.declared.task.Poll.{Poll}
pub use Rattle.futures.specs.declared.task.Poll.TheVariants.{Pending, Ready}
pub use Rattle.plan_model.specs.Reports.ReportText.{line, path_to, short_report}
pub use Rattle.plan_model.specs.Runs.OrderLaw.{IsAllowedEdge}
pub use Rattle.plan_model.specs.Spaces.Clearance.{path_point}
pub use Rattle.plan_model.specs.Trees.BestNode.{best_node, goals_of}
pub use Rattle.plan_model.specs.Trees.NodeLists.{length_of_path}
pub use Rattle.plan_model.specs.Trees.TreeStates.{GrowsInto, IsSettled, sum_in}
pub use Rattle.plan_model.specs.declared.errors.Memory.{Memory}
pub use Rattle.plan_work.specs.OneWorker.{IsOfTextbook}
pub use Rattle.grown_runs.specs.Terms.{IsClosed, IsGoalNode, Point, Record, StandsAt, Task, TreeState, setup_of}
pub use Rattle.plan_work.specs.Terms.{Grown, IsOfTextbookRun, Scene, lies_in_goals, state_of_grown}
