-- The definitions and lemmas that proofs of this crate are about, passed on from one place. Declares nothing.
pub use Rattle.edge_cost.proofs.CostBounds.{cost_of-low, squared_distance-low}
pub use Rattle.edge_cost.specs.declared.parents.Parent.{Parent}
pub use Rattle.grown_runs.proofs.Common.{AreDistinct, AreTight, AreTight-sums, Best, ChildOf, Clear, ConfigurationSpace, Contains-after, Contains-filter}
pub use Rattle.grown_runs.proofs.Common.{Contains-first, CostsFall, CostsFall-cheaper_parent, CostsFall-tight, Count, Counter, FirstOf, HasCheaperParent}
pub use Rattle.grown_runs.proofs.Common.{IsAllowedEdge, IsBounded, IsCheaperThrough, IsFirstLeast, IsNotAbove, IsOpenTo, IsPresent, IsPresent-cheaper_parent}
pub use Rattle.grown_runs.proofs.Common.{KeepsOrder, KeepsOrder-falls, Nodes, Point, PointOf, RecordOf, Rewires, RewiresOne, Sizes}
pub use Rattle.grown_runs.proofs.Common.{StandsAt-present, StandsAt-unique, TreeOf, TreeState, Word, WritesWord, best_word, cost_in, cost_in-tree_word, cost_of}
pub use Rattle.grown_runs.proofs.Common.{cost_of-swap, cost_through, edge_from, edge_of, if_written-set, parent_in, parent_in-tree_word, parent_kept}
pub use Rattle.grown_runs.proofs.Common.{parent_new, parent_of, point_at, point_of, point_of-stands, point_of_word, points_of, points_of-cheaper_parent}
pub use Rattle.grown_runs.proofs.Common.{space_of, squared_distance, squared_distance-swap, sum-parent, sum_of, sums-tight, tree_word, with_parent}
pub use Rattle.plan_words.proofs.Common.{BelongsTo, BelongsTo-later, Contains-number, CostsAtMostThrough, GoesOn, GoesOn-refl, GoesOn-trans, HasLooked-loaded}
pub use Rattle.plan_words.proofs.Common.{HasLooked-refl, HasPostedGoals, HasPostedGoals-children, HasPostedGoals-more, HasPostedGoals-same, HasQueued}
pub use Rattle.plan_words.proofs.Common.{HasSeenParent, HasWholeShare, IsFound, IsLoweredChild, IsOn, KeepsOrPosts-trans, Lists, LooksOn, LowersChildren}
pub use Rattle.plan_words.proofs.Common.{OnlyPosts, PassState, SearchLists, SeesAsBefore, SeesGoal-kept, SeesSamePoints, SharedState, at_hand, distinct_numbers}
pub use Rattle.plan_words.proofs.Common.{eqb-swap, if_hand, is_dearer, numbers_of, same_numbers, some_hand, tree_words, weighed, with_lists, with_view}
pub use Rattle.plan_words.specs.Nodes.{IsPairIn}
pub use Rattle.plan_words.specs.States.{run_in}
pub use Rattle.plan_words.specs.declared.spots.Found.{Found}
pub use Rattle.std.proofs.Common.{Bool, Err, IsFalse, List, None, Ok, Option, Result, Some, [], ap, arith, cond, drop, false, inl, inr, is_some, length, map}
pub use Rattle.std.proofs.Common.{not, refl, set, subst, suc, sym, take, true, zero, ℕ, ◌*◌, ◌++◌, ◌+◌, ◌-◌, ◌<◌, ◌^◌, ◌∙◌, ◌∷◌, ◌≡◌, ◌≢◌, ◌≤◌, ◌⊎◌}
pub use Rattle.std.proofs.lemmas.Bool.{cases_Bool, cases_eq, cases_lt, ltb-false}
pub use Rattle.std.proofs.lemmas.List.{append-nil, drop_all, drop_more, take_all, take_more}
pub use Rattle.std.proofs.lemmas.List.Edits.{map_over_more}
pub use Rattle.std.proofs.lemmas.List.Elements.{All-cons, All-contains, All-contains_itself, All-filter, All-head, All-map, All-nil, All-push, All-tail}
pub use Rattle.std.proofs.lemmas.List.Elements.{Contains-append_left, Contains-get_or, Contains-push, filter_passes}
pub use Rattle.std.proofs.lemmas.List.Kept.{IsStrictlySortedBy-filter}
pub use Rattle.std.proofs.lemmas.List.Sorted.{Contains-permutation, IsPermutation-map, IsPermutation-sym}
pub use Rattle.std.proofs.lemmas.Map.Keys.{IsDistinct-IsPermutation, IsStrictlyIncreasing-from_distinct, sorted_from_strictly_increasing}
pub use Rattle.std.proofs.lemmas.Nat.{mul-le}
pub use Rattle.std.proofs.lemmas.Option.{get_or_from_slice_get, slice_get-map, slice_get_within}
pub use Rattle.std.specs.List.{IsDistinct}
pub use Rattle.std.specs.List.Sorted.{IsNonDecreasing, IsStrictlyIncreasing}
pub use Rattle.std.specs.Ordering.{nat_cmp}
pub use Rattle.std.specs.Prelude.{All, Contains, IfErr, IfOk, IfSome, IsOk, IsPermutation, IsSome, IsTrue, eqb, filter, nat_lt, option_map, slice_get}
pub use Rattle.std.specs.Prelude.{slice_index_or, unwrap_or}
pub use Rattle.step_core.proofs.Common.{Contains-cases, HasLooked, HasLooked-trans, IsBounded-seen, IsCostBelow, IsLater, IsLawfulView, IsPresent-later}
pub use Rattle.step_core.proofs.Common.{MayLower, SeesGoal, SeesNode, SeesPoint, SeesPoint-later, has_count, has_first, last_look, linked_points}
pub use Rattle.step_core.proofs.Common.{linked_points-seen, loaded, point_at-kept, point_at-seen, run_sizes, same_name, saw, seen-within, sees, setup_in, share}
pub use Rattle.step_core.proofs.Common.{state_of_links, tree_seen}
pub use Rattle.step_core.proofs.Seen.DistinctNumbers.{Contains-none}
pub use Rattle.step_core.specs.declared.views.Hand.{Hand}
pub use Rattle.step_core.specs.declared.views.SharedRun.{SharedRun}
pub use Rattle.step_core.specs.declared.views.Stage.{Stage}
pub use Rattle.step_core.specs.declared.views.Stage.TheVariants.{Claimed, Counted, Half, Linked, Pointed, Posted, Treed}
pub use Rattle.step_core.specs.declared.views.View.{View}
pub use Rattle.swept_check.proofs.BoundedSegments.{IsBounded-clear_in_scene}
pub use Rattle.tree_rewire.specs.NearNodes.{AreKnown, AreMeasured, AreOf, IsBlockedBelow, IsClearTo, IsMeasured, IsNextOf, IsNextWord, IsOpenWord, IsWeighed}
pub use Rattle.tree_rewire.specs.NearNodes.{nodes_on, weighed_on, with_found, word_through}
pub use Rattle.tree_rewire.specs.Spreads.{AllTight, AllTightBut, CostsLess, HangsElsewhere, HasPlaced, HasSettledChanges, HasSpread, HasSpreadFalls, IsInFall}
pub use Rattle.tree_rewire.specs.Spreads.{IsLooked, IsShortcut, IsSource, IsSpreading, IsTight, IsWithinParent, IsWithinSeenParent, KeepsParents, Mirrors}
pub use Rattle.tree_rewire.specs.Spreads.{NoneRises, OnlyAt, QueuesFallen, SeesKnot, SpreadsFrom}
pub use Rattle.tree_rewire.specs.SeenCosts.{IsBestParentSeen, IsInReach, IsLoadedSince, NamesLowered, NamesLoweredOrPoint, NamesNothing, NamesPoint}
pub use Rattle.tree_rewire.specs.SeenCosts.{NamesTree, PassLowers, PassSees, SeesAnew, SeesPair, cost_seen, parent_seen, seen_cost_through}
pub use Rattle.tree_rewire.specs.declared.near_nodes.NearNodes.{NearNodes}
pub use Rattle.tree_rewire.specs.declared.near_nodes.NearNodes.TheVariants.{Listed, Searched}
