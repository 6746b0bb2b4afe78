-- What the definitions here say of the crates below and of the types of this one, passed on from one place. Declares nothing.
pub use Rattle.path_tools.specs.declared.rests.Rest.{Rest}
pub use Rattle.plan_model.specs.Reports.ReportText.{counts_line, path_line, point_lines, short_report}
pub use Rattle.plan_model.specs.Spaces.Clearance.{IsChoice, IsClearPath, cost_of_choice, kept_points, path_point}
pub use Rattle.plan_model.specs.Trees.NodeLists.{length_of_path}
pub use Rattle.report_judge.specs.Terms.{Clear, ConfigurationSpace, Point, Scene, TreeState, best_node, goals_of, path_to, space_of}
