-- What the definitions here say of the crates below and of the types of this one, passed on from one place. Declares nothing.
pub use Rattle.std.specs.List.{IsDistinct}
pub use Rattle.edge_cost.specs.LeastParents.{IsLeastParent}
pub use Rattle.edge_cost.specs.declared.parents.Parent.{Parent}
pub use Rattle.plan_model.specs.Geometry.Plane.{squared_distance}
pub use Rattle.plan_model.specs.Runs.Textbook.{Nodes}
pub use Rattle.plan_model.specs.Trees.NodeLists.{cost_through_by, parent_of, points_of, sum_of}
pub use Rattle.plan_model.specs.Trees.BestNode.{IsOpenTo}
pub use Rattle.plan_model.specs.declared.configuration_spaces.ConfigurationSpace.{ConfigurationSpace}
pub use Rattle.plan_words.specs.Nodes.{KeepsOrPosts}
pub use Rattle.plan_words.specs.LoweredChildren.{HasQueued}
pub use Rattle.plan_words.specs.SearchLists.{IsOn, numbers_of, weighed}
pub use Rattle.plan_words.specs.States.{BelongsTo, GoesOn, Lists, PassState, SharedState, with_view}
pub use Rattle.plan_words.specs.declared.spots.Found.{Found}
pub use Rattle.step_core.specs.Stages.{has_count}
pub use Rattle.tree_rewire.specs.declared.near_nodes.NearNodes.{NearNodes}
pub use Rattle.tree_rewire.specs.declared.near_nodes.NearNodes.TheVariants.{Listed, Searched}
pub use Rattle.plan_words.specs.Terms.{Best, ChangesOnly, FirstOf, Hand, HasLooked, Point, PointOf, SeesPoint, TreeOf, View, Word, cost_in, cost_of}
pub use Rattle.plan_words.specs.Terms.{last_look, pair_in_hand, parent_in, sees, tree_seen}
pub use Rattle.step_core.specs.Terms.{Clear, IsPresent, distance_to, point_at, point_of, tree_word}
