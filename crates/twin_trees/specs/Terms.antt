-- What the definitions here say of the crates below and of the types of this one, passed on from one place. Declares nothing.
pub use Rattle.std.specs.Prelude.{Some}
pub use Rattle.plan_model.specs.Reports.ReportText.{counts_line, no_path_line, path_line, path_to, point_lines}
pub use Rattle.plan_model.specs.Runs.ClosedLaw.{IsClosed}
pub use Rattle.plan_model.specs.Scenes.Limits.{IsBetween, are_goals, most_side}
pub use Rattle.plan_model.specs.Scenes.MarkPoints.{mark_points}
pub use Rattle.plan_model.specs.Scenes.ChangedScenes.{with_ends}
pub use Rattle.plan_model.specs.Trees.TreeStates.{IsSettled, chain_in, sum_in}
pub use Rattle.point_bands.specs.declared.bands.Numbered.{Numbered}
pub use Rattle.twin_trees.specs.declared.bridges.Bridge.{Bridge}
pub use Rattle.twin_trees.specs.declared.bridging.TwoRuns.{TwoRuns}
pub use Rattle.twin_trees.specs.declared.twin_runs.Twin.{Twin}
pub use Rattle.twin_trees.specs.declared.twin_runs.TwinFault.{TwinFault}
pub use Rattle.plan_work.specs.Terms.{Goal, Grown, IsOfTextbookRun, IsPresent, Point, Record, Scene, cost_of, point_of, setup_of, state_of_grown}
pub use Rattle.step_core.specs.Terms.{IsAllowedEdge, None, Option, Setup, StandsAt, TreeState, ℕ}
