-- What the definitions here say of the crates below and of the types of this one, passed on from one place. Declares nothing.
pub use Rattle.std.proofs.Common.{ap, sym, ◌∙◌}
pub use Rattle.std.specs.List.{IsDistinct}
pub use Rattle.grown_runs.specs.Ways.KdLinks.{StopsAt, goes_right_by, split_distance}
pub use Rattle.grown_runs.specs.declared.kd_walks.Stop.{Stop}
pub use Rattle.kd_shared.specs.declared.placing.Placing.{Placing}
pub use Rattle.kd_shared.specs.declared.placing.Placing.TheVariants.{Placed, Same}
pub use Rattle.kd_shared.specs.declared.word_walks.WordStop.{WordStop}
pub use Rattle.plan_model.specs.Geometry.Plane.{squared_distance}
pub use Rattle.plan_model.specs.Seen.Sights.{IsLaterMoment, IsSwept, KeepsSight}
pub use Rattle.plan_model.specs.Seen.SeenTrees.{FillsPlaces}
pub use Rattle.plan_model.specs.Trees.Nearness.{IsNearest, near}
pub use Rattle.plan_words.proofs.GoingOn.{GoesOn-trans}
pub use Rattle.plan_words.specs.Nodes.{NamesChildOrPoint, NamesNode, SeesBestSince}
pub use Rattle.plan_words.specs.Claims.{KeepsHand, SeesAsBefore}
pub use Rattle.plan_words.specs.SearchLists.{SearchLists, numbers_of, point_of_spot}
pub use Rattle.plan_words.specs.States.{BelongsTo, GoesOn, HasWholeShare, PassState, SharedState, with_view}
pub use Rattle.plan_words.specs.declared.spots.Found.{Found}
pub use Rattle.plan_words.specs.declared.spots.Spot.{Spot}
pub use Rattle.step_core.proofs.OneView.LaterViews.{HasLooked-trans}
pub use Rattle.step_core.proofs.OneView.LawfulSights.{IsLaterMoment-later, KeepsSight-lawful}
pub use Rattle.step_core.proofs.Seen.SeenWays.{depth_within}
pub use Rattle.step_core.specs.Stages.{state_of_links}
pub use Rattle.step_core.specs.ViewTrees.{sight_in}
pub use Rattle.step_core.specs.Terms.{ChildOf, Count, FirstOf, IsNotAbove, IsOnWay, IsPresent, Point, PointOf, SeenTree, Sight, StandsAt, TreeOf, TreeState}
pub use Rattle.step_core.specs.Terms.{Word, distance_to, is_within, point_at, point_word}
pub use Rattle.plan_words.specs.Terms.{ChangesOnly, Counted, Hand, HasLooked, LeadsTo, SeesPoint, View, last_look, note_before, pair_in_hand, place_in}
pub use Rattle.plan_words.specs.Terms.{point_in, run_sizes, sees, tree_seen}
pub use Rattle.grown_runs.specs.Terms.{MOST_NODES, arith}
