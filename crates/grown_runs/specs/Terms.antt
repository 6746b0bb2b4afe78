-- What the definitions here say of the crates below and of the types of this one, passed on from one place. Declares nothing.
pub use Rattle.std.proofs.Common.{arith}
pub use Rattle.std.proofs.Props.{props}
pub use Rattle.std.proofs.lemmas.List.FromFn.{length-map-range_with_len}
pub use Rattle.std.proofs.lemmas.List.Sums.{count_by-le-length}
pub use Rattle.std.specs.Vec.{vec_capacity}
pub use Rattle.grown_runs.specs.declared.child_index.ChildIndex.{ChildIndex}
pub use Rattle.grown_runs.specs.declared.kd_walks.Stop.{Stop}
pub use Rattle.grown_runs.specs.declared.measured_nodes.MeasuredNode.{MeasuredNode}
pub use Rattle.plan_model.proofs.ClosedProps.{IsClosed-prop}
pub use Rattle.plan_model.proofs.WayLengths.{depth_below}
pub use Rattle.plan_model.proofs.WayProps.{FollowWays-prop}
pub use Rattle.plan_model.specs.Geometry.Plane.{IsBounded}
pub use Rattle.plan_model.specs.Geometry.Lengths.{cost_of}
pub use Rattle.plan_model.specs.Runs.ClosedLaw.{IsClosed}
pub use Rattle.plan_model.specs.Runs.Endings.{NewNode, Steered, record_of_ending, unplaced_record}
pub use Rattle.plan_model.specs.Runs.Outcomes.{is_placed}
pub use Rattle.plan_model.specs.Runs.Textbook.{setup_of}
pub use Rattle.plan_model.specs.Scenes.MarkPoints.{quota_of}
pub use Rattle.plan_model.specs.Seen.SeenTrees.{Children, FollowWays, IsOnWay, IsSeen, SeenTree, goes_right}
pub use Rattle.plan_model.specs.Seen.Sights.{Sight}
pub use Rattle.plan_model.specs.Trees.BestNode.{IsGoalNode}
pub use Rattle.plan_model.specs.Trees.Nearness.{IsPairNotAbove}
pub use Rattle.plan_model.specs.Trees.NodeLists.{AreDistinct, IsPresent, StandsAt, node_count, parent_of, point_at, point_of, points_of, without_costs}
pub use Rattle.plan_model.specs.Trees.TreeStates.{TreeState}
pub use Rattle.plan_model.specs.declared.geometry.Goal.{Goal}
pub use Rattle.plan_model.specs.declared.geometry.Point.{Point}
pub use Rattle.plan_model.specs.declared.limits.TheConstants.{MOST_MARKS, MOST_NODES}
pub use Rattle.plan_model.specs.declared.records.Outcome.{Outcome}
pub use Rattle.plan_model.specs.declared.records.Outcome.TheVariants.{Blocked, Placed, Same, Skipped}
pub use Rattle.plan_model.specs.declared.records.Record.{Record}
pub use Rattle.plan_model.specs.declared.tasks.Task.{Task}
pub use Rattle.plan_model.specs.declared.trees.Knot.{Knot}
pub use Rattle.plan_model.specs.Terms.{abs_diff, list_any, range_with_len}
