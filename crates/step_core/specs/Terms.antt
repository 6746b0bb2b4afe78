-- What the definitions here say of the crates below and of the types of this one, passed on from one place. Declares nothing.
pub use Rattle.std.specs.List.{sum_by}
pub use Rattle.std.specs.Prelude.{List, None, Option, [], length, map, replicate, slice_index, slice_set, ℕ}
pub use lib.ListN.{get_elem?}
pub use mathlib.Core.Option.{some}
pub use Rattle.grown_runs.specs.Runs.GrownWords.{IsWritten, children_of_words, has_node, is_linked, node_point_by, points_by, record_at, state_by}
pub use Rattle.grown_runs.specs.Table.SeenWords.{SeenWords, seen_tree_of_words, sight_of_words}
pub use Rattle.grown_runs.specs.Table.WordKinds.{AreBehind, HaveWholePairs, MayBecome, kind_at, kind_of, later_word}
pub use Rattle.grown_runs.specs.Table.WordKinds.WordKind.{Apart}
pub use Rattle.grown_runs.specs.Table.WordNames.{Word, Words, WritesWord}
pub use Rattle.grown_runs.specs.Table.WordNames.Word.{Best, ChildOf, Count, Counter, FirstOf, PointOf, RecordOf, TreeOf}
pub use Rattle.grown_runs.specs.Table.WordPlaces.{Sizes, place_of, word_at, word_count}
pub use Rattle.grown_runs.specs.Table.Words.{FitsWord, best_cost_in, best_node_in, best_word, cost_in, no_best, parent_in, point_word, record_word, tree_word}
pub use Rattle.plan_model.specs.Geometry.Lengths.{class_of, radius_of_class, steered}
pub use Rattle.plan_model.specs.Runs.ClosedLaw.{IsLawfulRecord, first_cost_through, is_earlier_record, mark_at}
pub use Rattle.plan_model.specs.Runs.Endings.{Ending, FirstHanging, NoWay, Reached, SameNode, SkippedBy, ending_of}
pub use Rattle.plan_model.specs.Runs.OrderLaw.{AreTurns, Hangs, IsAllowedEdge, KeepsFirstCosts, KeepsOrder, is_of_worker, most_cost_of, once_if, turns_of}
pub use Rattle.plan_model.specs.Runs.Textbook.{Setup, mark_bound, skipping_goals}
pub use Rattle.plan_model.specs.Scenes.MarkPoints.{is_claimed}
pub use Rattle.plan_model.specs.Seen.SeenTrees.{AreSeenLawfully, FollowSeenWays, IsRooted, SharedTree}
pub use Rattle.plan_model.specs.Spaces.Clearance.{Clear}
pub use Rattle.plan_model.specs.Spaces.ConfigurationSpace.{space_among, space_of}
pub use Rattle.plan_model.specs.Trees.BestNode.{is_goal_point}
pub use Rattle.plan_model.specs.Trees.Nearness.{IsNotAbove, distance_to, is_within}
pub use Rattle.plan_model.specs.Trees.NodeLists.{IsFree}
pub use Rattle.plan_model.specs.declared.limits.TheConstants.{MOST_STEERING_STEP, MOST_STRIPS, MOST_WORKERS}
pub use Rattle.step_core.specs.declared.views.Hand.{Hand}
pub use Rattle.step_core.specs.declared.views.Member.{Member}
pub use Rattle.step_core.specs.declared.views.Note.{Note}
pub use Rattle.step_core.specs.declared.views.SharedRun.{SharedRun}
pub use Rattle.step_core.specs.declared.views.Stage.{Stage}
pub use Rattle.step_core.specs.declared.views.Stage.TheVariants.{Claimed, Counted, Half, Linked, Pointed, Posted, Treed}
pub use Rattle.step_core.specs.declared.views.View.{View}
pub use Rattle.grown_runs.specs.Terms.{AreDistinct, FollowWays, IsBounded, IsGoalNode, IsOnWay, IsPresent, IsSeen, MOST_MARKS, NewNode, Outcome, Point}
pub use Rattle.grown_runs.specs.Terms.{Record, SeenTree, Sight, StandsAt, Steered, Task, TreeState, cost_of, goes_right, is_placed, node_count, point_at}
pub use Rattle.grown_runs.specs.Terms.{point_of, quota_of, range_with_len}
