-- What the definitions here say of the crates below and of the types of this one, passed on from one place. Declares nothing.
pub use Rattle.plan_model.specs.Geometry.Plane.{squared_distance}
pub use Rattle.plan_model.specs.Geometry.Lengths.{radius_of}
pub use Rattle.plan_model.specs.Reports.ReportText.{path_line, path_to, report_text}
pub use Rattle.plan_model.specs.Runs.ClosedLaw.{IsEarlier, IsNeighbour, has_outcome, mark_at}
pub use Rattle.plan_model.specs.Runs.Outcomes.{is_same}
pub use Rattle.plan_model.specs.Runs.Textbook.{Setup}
pub use Rattle.plan_model.specs.Spaces.Clearance.{Clear, ClearAt, IsClear}
pub use Rattle.plan_model.specs.Spaces.Zones.{weighted}
pub use Rattle.plan_model.specs.Spaces.ConfigurationSpace.{Rational}
pub use Rattle.plan_model.specs.Trees.BestNode.{IsBestNode, IsGoalNode, goals_of}
pub use Rattle.plan_model.specs.Trees.NodeLists.{StandsAt, length_of_path, point_of}
pub use Rattle.plan_model.specs.Trees.TreeStates.{TreeState, sum_in}
pub use Rattle.plan_model.specs.declared.geometry.Goal.{Goal}
pub use Rattle.plan_model.specs.declared.geometry.Point.{Point}
pub use Rattle.plan_model.specs.declared.geometry.Vertex.{Vertex}
pub use Rattle.plan_model.specs.declared.records.Outcome.TheVariants.{Placed, Same}
pub use Rattle.plan_model.specs.declared.records.Record.{Record}
pub use Rattle.plan_model.specs.declared.scenes.Scene.{Scene}
