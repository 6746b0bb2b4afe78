-- What the definitions here say of the crates below and of the types of this one, passed on from one place. Declares nothing.
pub use Rattle.std.specs.List.{zip}
pub use Rattle.grown_runs.specs.ChildChains.{IndexesChains}
pub use Rattle.grown_runs.specs.declared.child_index.ChildIndex.{ChildIndex}
pub use Rattle.plan_model.specs.Runs.Textbook.{Handles, IsBestGoalNode, Nodes, Rewires, cost_through, mark_bound}
pub use Rattle.plan_model.specs.Spaces.ConfigurationSpace.{space_of}
pub use Rattle.plan_model.specs.Trees.Nearness.{near}
pub use Rattle.plan_model.specs.Trees.NodeLists.{AreTight, CostsFall, IsFree, node_at, sum_of}
pub use Rattle.plan_model.specs.declared.configuration_spaces.ConfigurationSpace.{ConfigurationSpace}
pub use Rattle.plan_model.specs.declared.scenes.Scene.{Scene}
pub use Rattle.plan_model.specs.declared.trees.Twig.{Twig}
pub use Rattle.seq_planner.specs.declared.extensions.Extension.{Extension}
pub use Rattle.seq_planner.specs.declared.placed_points.PlacedPoints.{PlacedPoints}
pub use Rattle.grown_runs.specs.Terms.{AreDistinct, Goal, IsBounded, IsGoalNode, IsPresent, Knot, MOST_NODES, Point, Record, StandsAt, node_count, point_at}
pub use Rattle.grown_runs.specs.Terms.{point_of, points_of, range_with_len, setup_of}
