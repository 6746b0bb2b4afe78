-- What the definitions here say of the crates below and of the types of this one, passed on from one place. Declares nothing.
pub use Rattle.edge_cost.specs.declared.radii.Radii.{Radii}
pub use Rattle.kd_shared.specs.Placings.{IsSame}
pub use Rattle.kd_shared.specs.Searches.{SweepsWithin}
pub use Rattle.kd_shared.specs.declared.placing.Placing.{Placing}
pub use Rattle.kd_shared.specs.declared.placing.Placing.TheVariants.{Placed, Same}
pub use Rattle.plan_model.specs.Runs.Textbook.{IsOfTextbookRun, IsTextbookRun, MayBeCheaper, SteersTo, near_new}
pub use Rattle.plan_model.specs.Trees.BestNode.{lies_in_goals}
pub use Rattle.plan_model.specs.declared.scenes.Scene.{Scene}
pub use Rattle.plan_words.specs.Nodes.{HasPostedGoals}
pub use Rattle.plan_words.specs.Claims.{AllFull}
pub use Rattle.plan_words.specs.States.{MayClaim, turn_of, worker_of}
pub use Rattle.plan_work.specs.declared.growing.Worker.{Worker}
pub use Rattle.plan_work.specs.declared.growing.Worker.TheVariants.{Away, Stopped, Working}
pub use Rattle.plan_work.specs.declared.mark_placing.Hanging.{Hanging}
pub use Rattle.step_core.specs.SeenBests.{IsInformed, IsUnskipped}
pub use Rattle.step_core.specs.ViewSteps.{finished, one_turn_more}
pub use Rattle.step_core.specs.declared.views.Stage.{Stage}
pub use Rattle.step_core.specs.declared.views.Stage.TheVariants.{Claimed, Pointed, Posted, Treed}
pub use Rattle.tree_rewire.specs.NearNodes.{AreOf, IsMeasured}
pub use Rattle.tree_rewire.specs.Spreads.{HasSpreadFalls, Mirrors}
pub use Rattle.tree_rewire.specs.SeenCosts.{IsBestParentSeen, IsInReach, IsLoadedSince, SeesPair, cost_seen, seen_cost_through}
pub use Rattle.step_core.specs.Terms.{AreBehind, Clear, Count, Counter, Ending, FirstHanging, FirstOf, IsBounded, IsFree, IsNotAbove, IsPresent, NewNode}
pub use Rattle.step_core.specs.Terms.{NoWay, Outcome, Point, PointOf, Reached, Record, RecordOf, SameNode, SkippedBy, Steered, TreeOf, Word, best_cost_in}
pub use Rattle.step_core.specs.Terms.{best_node_in, best_word, class_of, cost_of, distance_to, ending_of, has_node, is_claimed, mark_at, mark_bound, no_best}
pub use Rattle.step_core.specs.Terms.{node_count, point_of, radius_of_class, record_at, record_word, space_of, steered, tree_word}
pub use Rattle.kd_shared.specs.Terms.{BelongsTo, Counted, Found, GoesOn, Hand, HasWholeShare, IsSwept, PassState, SeesBestSince, SeesPoint, SharedState, View}
pub use Rattle.kd_shared.specs.Terms.{last_look, numbers_of, pair_in_hand, sees, sight_in, squared_distance, tree_seen, with_view}
pub use Rattle.plan_words.specs.Terms.{Grown, Linked, best_loaded, counters, own_count, setup_in, share, state_of_grown}
pub use Rattle.tree_rewire.specs.Terms.{ConfigurationSpace, Nodes, Parent, weighed}
pub use Rattle.grown_runs.specs.Terms.{Goal, record_of_ending, setup_of, unplaced_record}
