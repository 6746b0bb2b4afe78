-- The names that proofs here and above cite, passed on from one place. Declares nothing.
pub use Rattle.plan_model.proofs.BestNodeLaws.{IsPresent-goal, best_node-none, best_node-some}
pub use Rattle.plan_model.proofs.ClassLaws.{below_digits, from_digits}
pub use Rattle.plan_model.proofs.ClosedLaws.{IsPlacedLawfully-closed, KeepsFirstCosts-closed}
pub use Rattle.plan_model.proofs.CostLaws.{cost_of-swap}
pub use Rattle.plan_model.proofs.CountLaws.{node_count-closed, numbers-closed}
pub use Rattle.plan_model.proofs.DistinctPoints.{IsPresent-below, length-ends, points_of-ends}
pub use Rattle.plan_model.proofs.RunLaws.{HandlesAll-nodes}
pub use Rattle.plan_model.proofs.EarlierNodes.{earlier-present}
pub use Rattle.plan_model.proofs.EmptyRoomClearance.{AreInRoom-from_clear, Clear-empty_room, IsInRoom-from_clear_at, corner_in_box}
pub use Rattle.plan_model.proofs.GoalBoundLaws.{bound_of-least}
pub use Rattle.plan_model.proofs.GoalNodes.{MayBeCheaper-not_skipping, no_goal_node}
pub use Rattle.plan_model.proofs.ListMembers.{Contains-after}
pub use Rattle.plan_model.proofs.MeetingLaws.{Meets-shares_point, SharesPoint-meets}
pub use Rattle.plan_model.proofs.NearNodes.{Contains-near, squared_distance-swap}
pub use Rattle.plan_model.proofs.NewNodes.{IsPresent-stands, StandsAt-unique, node_count-some, point_of-stands, present_below}
pub use Rattle.plan_model.proofs.OrderLaws.{start-present}
pub use Rattle.plan_model.proofs.OrderedTrees.{sum_in-le_cost}
pub use Rattle.plan_model.proofs.PlacedNodes.{present-of_record, record-of_present}
pub use Rattle.plan_model.proofs.RadiusLaws.{greatest-le, greatest-most, greatest-passes}
pub use Rattle.plan_model.proofs.Ring.{minus, same, times, var}
pub use Rattle.plan_model.proofs.RootLaws.{lt-from_squares, root_ceiling-zero}
pub use Rattle.plan_model.proofs.SameTrees.{IsClosed-of_textbook, IsSettled-of_textbook}
pub use Rattle.plan_model.proofs.SegmentLaws.{Clear-back, Clear-last, way_is}
pub use Rattle.plan_model.proofs.SteeringLaws.{steered-near}
pub use Rattle.plan_model.proofs.TextbookRuns.{IsClosed-textbook}
pub use Rattle.plan_model.proofs.TreeChanges.{points_of-push}
pub use Rattle.plan_model.proofs.TriangleLaw.{cost_of-triangle}
pub use Rattle.plan_model.specs.Geometry.Lengths.{cost_of, class_of, radius_of, radius_of_class, advanced, steered}
pub use Rattle.plan_model.specs.Geometry.Plane.{squared_distance}
pub use Rattle.plan_model.specs.Runs.ClosedLaw.{IsClosed, has_outcome, mark_at, HasLawfulEnding, IsEarlier, IsNeighbour, IsPlacedLawfully, IsSkippedLawfully}
pub use Rattle.plan_model.specs.Runs.ClosedLaw.{IsSteeredLawfully, ReachesLawfully, is_earlier_record}
pub use Rattle.plan_model.specs.Runs.Endings.{Ending, NewNode, NoWay, Reached, SameNode, SkippedBy, Steered, ending_as, ending_of, first_hanging}
pub use Rattle.plan_model.specs.Runs.Outcomes.{is_placed, is_same}
pub use Rattle.plan_model.specs.Runs.Textbook.{IsOfTextbookRun, Ends, EndsPlaced, EndsSteered, Handles, HandlesAll, IsCandidate, IsCheaperThrough}
pub use Rattle.plan_model.specs.Runs.Textbook.{IsTextbookRun, Nodes, Rewires, Setup, cost_through, mark_bound, near_new, setup_of, start_alone}
pub use Rattle.plan_model.specs.Scenes.MarkPoints.{mark_points}
pub use Rattle.plan_model.specs.Spaces.Clearance.{Clear, ClearAt, IsClear, on_the_way}
pub use Rattle.plan_model.specs.Spaces.ConfigurationSpace.{space_among, space_of, IsInRoom, empty_room, IsBetweenWalls, IsSamePoint, Rational, at_lattice}
pub use Rattle.plan_model.specs.Spaces.ConfigurationSpace.{moved_by}
pub use Rattle.plan_model.specs.Spaces.Zones.{Meets, weighted}
pub use Rattle.plan_model.specs.Trees.BestNode.{IsGoalNode, best_node, goals_of, is_goal_point, lies_in_goals}
pub use Rattle.plan_model.specs.Trees.Nearness.{IsNotAbove, IsNearest, distance_to, is_within}
pub use Rattle.plan_model.specs.Trees.NodeLists.{length_of_path, points_of, sum_of, AreNumberedTo, IsFree, IsPresent, StandsAt, node_count, point_at}
pub use Rattle.plan_model.specs.Trees.NodeLists.{point_of}
pub use Rattle.plan_model.specs.Trees.TreeStates.{IsSettled, TreeState, first_cost_of, recorded_or, state_of, sum_in}
pub use Rattle.plan_model.specs.Vectors.Spaces.{great_triangle, point_body, small_square, overlapped}
pub use Rattle.plan_model.specs.Vectors.Reports.{placed_by, placed_record, same_record}
pub use Rattle.plan_model.specs.Vectors.Runs.{marks_to_rewire, open_setup, open_setup_to, rewired_tree}
pub use Rattle.plan_model.specs.Vectors.Geometry.{at, corner, two_is_positive}
pub use Rattle.plan_model.specs.declared.geometry.Goal.{Goal}
pub use Rattle.plan_model.specs.declared.geometry.Point.{Point}
pub use Rattle.plan_model.specs.declared.geometry.Vertex.{Vertex}
pub use Rattle.plan_model.specs.declared.records.Outcome.{Outcome}
pub use Rattle.plan_model.specs.declared.records.Outcome.TheVariants.{Blocked, Placed, Same, Skipped}
pub use Rattle.plan_model.specs.declared.records.Record.{Record}
pub use Rattle.plan_model.specs.declared.scenes.Scene.{Scene}
pub use Rattle.plan_model.specs.declared.trees.Twig.{Twig}
