-- The definitions and lemmas that proofs of this crate are about, passed on from one place. Declares nothing.
pub use Rattle.growing_tests.specs.LoweredNodes.HeldMarks.{HasNearInReach, HoldsMark, IfPlaced, IsAtWork, MayRewire}
pub use Rattle.growing_tests.specs.Shares.Sharers.{HasClaimed, HasShare}
pub use Rattle.grown_runs.proofs.Common.{Clear, ConfigurationSpace, Counter, IsAllowedEdge, IsFirstLeast, IsOpenTo, IsPresent, IsStep-steered, Point, Record}
pub use Rattle.grown_runs.proofs.Common.{Sight, StandsAt-present, Task, TreeOf, Word, cost_in, cost_of, length-marks, mark_at, point_of, point_of-stands}
pub use Rattle.grown_runs.proofs.Common.{quota_of, space_of, squared_distance}
pub use Rattle.kd_shared.proofs.SearchResults.{AreNearSeen-only}
pub use Rattle.kd_shared.specs.Placings.{IsPlacing}
pub use Rattle.kd_shared.specs.Searches.{AreNearSeen}
pub use Rattle.kd_shared.specs.declared.placing.Placing.{Placing}
pub use Rattle.kd_shared.specs.declared.placing.Placing.TheVariants.{Placed, Same}
pub use Rattle.plan_model.proofs.SceneBounds.{goals-some}
pub use Rattle.plan_model.specs.Geometry.Plane.{IsBounded}
pub use Rattle.plan_words.proofs.Common.{AllFull, BelongsTo, BelongsTo-later, GoesOn, IsBounded-hand, IsOrPosted, PassState, SharedState, at_hand, if_hand}
pub use Rattle.plan_words.proofs.Common.{no_goals, run_in, with_view}
pub use Rattle.plan_words.proofs.GoingOn.{GoesOn-trans}
pub use Rattle.plan_words.specs.States.{MayClaim}
pub use Rattle.plan_work.proofs.PlacedHands.{HasPlaced-placed, IsSome-placed}
pub use Rattle.plan_work.proofs.WorkedMarks.{share-turned}
pub use Rattle.plan_work.specs.Extensions.{HandlesMark}
pub use Rattle.std.proofs.Common.{List, None, Option, Some, [], ap, arith, cond, inl, inr, is_some, length, refl, subst, suc, sym, true, zero, ℕ, ◌*◌, ◌+◌, ◌<◌}
pub use Rattle.std.proofs.Common.{◌∙◌, ◌∷◌, ◌≡◌, ◌≤◌}
pub use Rattle.std.proofs.lemmas.Bool.{leb-true}
pub use Rattle.std.proofs.lemmas.List.Elements.{All-head, All-pop, All-push, Contains-get_or}
pub use Rattle.std.proofs.lemmas.Nat.{mul-le}
pub use Rattle.std.specs.Prelude.{All, Contains, IfSome, slice_index_or}
pub use Rattle.step_core.proofs.Common.{IsCostBelow, IsInformed, IsLawfulView, IsUnskipped, MayHang, SeesCost, SeesPoint, best_loaded, half, hand_with_post}
pub use Rattle.step_core.proofs.Common.{has_point, pointed, sight_in, tree_seen, treed}
pub use Rattle.step_core.specs.Views.{setup_in, share}
pub use Rattle.step_core.specs.declared.views.Hand.{Hand}
pub use Rattle.step_core.specs.declared.views.Stage.TheVariants.{Counted, Half, Pointed, Treed}
pub use Rattle.step_core.specs.declared.views.View.{View}
pub use Rattle.tree_rewire.proofs.ChosenParents.{IsInReach-later, points_later}
pub use Rattle.tree_rewire.proofs.CostSteps.{PassSees-lower, PassSees-tree}
pub use Rattle.tree_rewire.proofs.LoweredCosts.{MayLower-less}
pub use Rattle.tree_rewire.proofs.SeenCosts.{SeesPair-later, stands_later}
pub use Rattle.tree_rewire.specs.SeenCosts.{IsInReach, NamesLowered, NamesTree, PassSees, SeesPair, cost_seen, seen_cost_through}
pub use Rattle.tree_rewire.specs.Spreads.{OnlyAt}
