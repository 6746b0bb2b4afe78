-- What the definitions here say of the crates below and of the types of this one, passed on from one place. Declares nothing.
pub use Rattle.plan_model.specs.Geometry.Plane.{IsBounded}
pub use Rattle.plan_model.specs.Geometry.Lengths.{IsCost, IsRootCeiling, IsStep}
pub use Rattle.plan_model.specs.Reports.ReportText.{full_report}
pub use Rattle.plan_model.specs.Runs.ClosedLaw.{IsClosed, IsLawfulRecord}
pub use Rattle.plan_model.specs.Runs.Endings.{unplaced_record}
pub use Rattle.plan_model.specs.Runs.OrderLaw.{KeepsFirstCosts, KeepsOrder, most_cost_of}
pub use Rattle.plan_model.specs.Runs.Textbook.{HaveSameInputs, IsOfTextbookRun, IsTextbookRun, Nodes}
pub use Rattle.plan_model.specs.Seen.SeenTrees.{AddsPoint, AreSeenLawfully, FollowSeenWays, HasSeenAtLeast, IsRooted, LinksAt, SeenTree, TreeGrows}
pub use Rattle.plan_model.specs.Seen.Sights.{AgreeOnParents, IsLaterMoment, KeepsSight, Sight}
pub use Rattle.plan_model.specs.Spaces.Clearance.{IsClearPath}
pub use Rattle.plan_model.specs.Spaces.ConfigurationSpace.{IsInRoom, empty_room, space_among}
pub use Rattle.plan_model.specs.Texts.CanonicalText.{Covers}
pub use Rattle.plan_model.specs.Texts.LineChecks.{Format}
pub use Rattle.plan_model.specs.Texts.SceneGrammar.{whole_format}
pub use Rattle.plan_model.specs.Trees.TreeStates.{AreSameRuns, ChangesCosts, GrowsInto, IsBranchLowered, state_of}
pub use Rattle.plan_model.specs.Trees.BestNode.{IsOpenTo, bound_of}
pub use Rattle.plan_model.specs.Trees.NodeLists.{AreTight, CostsFall, points_of, sum_of, without_costs}
pub use Rattle.plan_model.specs.Vectors.Spaces.{early_record, great_triangle, overlapped, point_body, small_square}
pub use Rattle.plan_model.specs.Vectors.Reports.{blocked_record, box, placed_by, placed_record, same_record, skipped_record}
pub use Rattle.plan_model.specs.Vectors.Runs.{gapped, marks_to_rewire, node, open_setup, open_setup_to, rewired_records, rewired_tree}
pub use Rattle.plan_model.specs.Vectors.SeenTrees.{at_entry, at_return, found_at_entry, found_at_return, four_children, three_children, three_points}
pub use Rattle.plan_model.specs.Vectors.SeenTrees.{tree_before, tree_now, trees_at_entry}
pub use Rattle.plan_model.specs.Vectors.Geometry.{at, corner}
pub use Rattle.plan_model.specs.declared.configuration_spaces.ConfigurationSpace.{ConfigurationSpace}
pub use Rattle.plan_model.specs.declared.records.Outcome.TheVariants.{Blocked, Skipped}
pub use Rattle.plan_model.specs.declared.scenes.Marks.TheVariants.{Drawn, Listed}
pub use Rattle.plan_model.specs.declared.text_terms.Key.{Key}
pub use Rattle.plan_model.specs.declared.trees.Twig.{Twig}
pub use Rattle.route_laws.specs.Routes.{AreHandledInTurn, EndApart, HasClearDisc, HasGoalNode, IsChain, IsChainInOrder, IsLinkInOrder, IsNearLink, IsOpenLink}
pub use Rattle.route_laws.specs.Routes.{IsReached, IsRoute, KeepsBodyFar, cost_of_chain, cost_of_route, end_of, least_radius}
pub use Rattle.route_laws.specs.Terms.{ClearAt, Goal, Point, Record, Same, Scene, Setup, TreeState, Vertex, radius_of, squared_distance}
