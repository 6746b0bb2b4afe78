-- The definitions and lemmas that proofs of this crate are about, passed on from one place. Declares nothing.
pub use Rattle.edge_cost.proofs.CostBounds.{cost_of-low}
pub use Rattle.edge_cost.specs.LeastParents.{IsLeastParent}
pub use Rattle.edge_cost.specs.declared.parents.Parent.{Parent}
pub use Rattle.grown_runs.proofs.Children.SiblingWalks.{AreMembers-chain, siblings_from-here, times-cons}
pub use Rattle.grown_runs.proofs.Common.{Adds, Adds-push, AddsPriced, All-task_marks_within, AreDistinct, AreDistinct-adds, AreInRoom-from_clear, AreMembers}
pub use Rattle.grown_runs.proofs.Common.{AreSameRuns, AreSameRuns-trans, AreTight-adds, AreTight-cheaper_parent, AreTight-same, Clear, ClearAt}
pub use Rattle.grown_runs.proofs.Common.{ConfigurationSpace, Contains-filter, Contains-near, CostsFall, CostsFall-adds, CostsFall-lowered, CostsFall-same}
pub use Rattle.grown_runs.proofs.Common.{Ending, Ends, Goal, Handles, HandlesAll, HandlesAll-length, HandlesAll-push, HasCheaperParent, HasInChain, HasOneMore}
pub use Rattle.grown_runs.proofs.Common.{IndexesChains, IsBestParent, IsBounded, IsBounded-in_room, IsBranchLowered, IsCandidate, IsCheaperThrough, IsClosed}
pub use Rattle.grown_runs.proofs.Common.{IsClosed-same_run, IsClosed-textbook, IsFirstLeast, IsFirstLeast-alone, IsFirstLeast-among, IsFirstLeast-keeps}
pub use Rattle.grown_runs.proofs.Common.{IsFirstLeast-takes, IsFree, IsFree-steered, IsGoalNode, IsInRoom, IsIndex-same, IsNearest, IsNotAbove}
pub use Rattle.grown_runs.proofs.Common.{IsNotAbove-lesser, IsNotAbove-refl, IsNotAbove-trans, IsOfTextbookRun, IsOpenTo, IsPresent, IsPresent-below}
pub use Rattle.grown_runs.proofs.Common.{IsPresent-goal, IsPresent-push, IsPriced, IsReachable, IsSettled-of_textbook, IsTextbookRun, KeepsCosts, Knot}
pub use Rattle.grown_runs.proofs.Common.{MOST_NODES, MayBeCheaper, MovesNode, NewNode, NoWay, Nodes, Point, Record, Record-from_fields, Rewires, RewiresOne}
pub use Rattle.grown_runs.proofs.Common.{SameNode, Scene, Setup, SkippedBy, StandsAt, StandsAt-node, StandsAt-present, Steered, SteersTo, TreeState, Twig}
pub use Rattle.grown_runs.proofs.Common.{class_of, cost_of, cost_through, distance_to, ending_of, filter-none, is_goal_point, is_near_free, is_within}
pub use Rattle.grown_runs.proofs.Common.{kept_cost_of, length-marks, lies_in_goals, mark_bound, near, near-present, near_new, near_new-reachable, new_or_kept}
pub use Rattle.grown_runs.proofs.Common.{no_goal_node, node_at, node_at-absent, node_at-past, node_at-push_new, node_count, node_count-push, node_count-some}
pub use Rattle.grown_runs.proofs.Common.{parent_of, parent_or_zero, point_at, point_at-points_of, point_at-same, point_of, point_of-stands, points_of}
pub use Rattle.grown_runs.proofs.Common.{points_of-cheaper_parent, points_of-ends, points_of-push, present_below, radius_of, range-more, record_of_ending}
pub use Rattle.grown_runs.proofs.Common.{same_point-false, same_point-true, setup_of, skipping_goals, space_of, squared_distance, start_alone, state_of}
pub use Rattle.grown_runs.proofs.Common.{state_of_grown, state_of_lists, steered, steered-near, sum_of, sums-tight, with_parent, within_present, without_costs}
pub use Rattle.grown_runs.specs.ChildChains.{siblings_from, times}
pub use Rattle.grown_runs.specs.declared.child_index.ChildIndex.{ChildIndex}
pub use Rattle.plan_model.proofs.LeastScans.{IsFirstLeast-scanned, IsFirstLeastBelow, IsFirstLeastBelow-first, IsFirstLeastBelow-keeps, IsFirstLeastBelow-takes}
pub use Rattle.plan_model.proofs.NewNodes.{point_at-absent}
pub use Rattle.plan_model.proofs.ParentChanges.{CostsFall-cheaper_parent, IsPresent-cheaper_parent}
pub use Rattle.seq_planner.specs.LinkedTrees.{AreGoalNodesBelow, AreLinked, ArePlaced, IsGoalNodeBelow, MayJoin, chain_in, chain_of, hangs_below}
pub use Rattle.seq_planner.specs.LinkedTrees.{is_parent_number, listed_near, parent_if_child, present_numbers}
pub use Rattle.seq_planner.specs.SearchTrees.{AddsRewired, AreBounded, Fits, GrowsByMark, IsExtensionOf, IsSkippedBy, IsSound, IsSoundTree, most_cost}
pub use Rattle.seq_planner.specs.SearchTrees.{with_costs}
pub use Rattle.seq_planner.specs.declared.extensions.Extension.{Extension}
pub use Rattle.seq_planner.specs.declared.placed_points.PlacedPoints.{PlacedPoints}
pub use Rattle.seq_planner.specs.declared.search_tree.SearchTree.{SearchTree}
pub use Rattle.std.proofs.Common.{Bool, Err, List, None, Ok, OnOk, Option, Result, Some, [], ap, arith, cond, false, get_or, inl, inr, leb, length, map, max}
pub use Rattle.std.proofs.Common.{refl, rules, set, slice_index, subst, suc, sym, take, true, zero, ℕ, ◌*◌, ◌++◌, ◌+◌, ◌-◌, ◌<◌, ◌^◌, ◌∙◌, ◌∷◌, ◌≡◌, ◌≤◌, ◌⊎◌}
pub use Rattle.std.proofs.Math.Seq.{get_or-append_seam}
pub use Rattle.std.proofs.lemmas.Bool.{cases_Bool, cases_eq, cases_lt, cases_order, eq-eqb, eqb-true, false_from_ne_true, le-leb, leb-true, lt-leb, ne_eqb}
pub use Rattle.std.proofs.lemmas.Grind.{get_or_default_zero}
pub use Rattle.std.proofs.lemmas.List.{append-nil, get_or-map, get_or-set_other, get_or-set_same, get_or_append_left, get_or_default, get_or_past, get_or_push}
pub use Rattle.std.proofs.lemmas.List.{get_or_read, length-map, length-set, length-take, length_push, map_push, take_all, take_more}
pub use Rattle.std.proofs.lemmas.List.Elements.{All-cons, All-contains, All-get_or, All-head, All-map, All-more, All-nil, All-push, All-same, All-tail}
pub use Rattle.std.proofs.lemmas.List.Elements.{All-weaker, Contains-append_left, Contains-get_or, Contains-push, filter-append, filter_more, filter_passes}
pub use Rattle.std.proofs.lemmas.List.FromFn.{fill_by_all, get_or-range_with_len, length-range_with_len}
pub use Rattle.std.proofs.lemmas.List.Kept.{AllPairs-from_increasing, IsStrictlyIncreasing-filter}
pub use Rattle.std.proofs.lemmas.List.Sums.{count_by-le-length, length-filter, sum_by-set, sum_by_push}
pub use Rattle.std.proofs.lemmas.Result.{IfOk-weaker}
pub use Rattle.std.specs.List.{AllPairs, range_with_len, sum}
pub use Rattle.std.specs.List.Sorted.{IsStrictlyIncreasing}
pub use Rattle.std.specs.Prelude.{All, Contains, IsTrue, filter, is_some, option_map, unwrap_or, ◌==◌, ◌≢◌}
