-- The definitions and lemmas that proofs of this crate are about, passed on from one place. Declares nothing.
pub use Rattle.grown_runs.proofs.Common.{AreDistinct, Best, ChangesOnly, ChildOf, Contains-after, Contains-first, Contains-near, Count, EndsBelow-stop}
pub use Rattle.grown_runs.proofs.Common.{EndsSince, EndsSince-later, FirstOf, IsBounded, IsFree, IsFree-ends, IsLaterMoment, IsLaterMoment-refl}
pub use Rattle.grown_runs.proofs.Common.{IsLaterMoment-trans, IsNearerOf, IsNotAbove, IsOnWay, IsPairNotAbove, IsPresent, IsPresent-stands, IsSeen, IsSeen-more}
pub use Rattle.grown_runs.proofs.Common.{IsSwept-later, KeepsSight, MOST_NODES, Point, PointOf, RecordOf, Sight, StandsAt, StandsAt-present, StandsAt-unique}
pub use Rattle.grown_runs.proofs.Common.{StopsAt, StopsAt-below, TreeOf, Word, Words, WritesWord, begins, child_of_word, cost_in, cost_in-tree_word}
pub use Rattle.grown_runs.proofs.Common.{distance_to, goes_on, goes_right, goes_right-by, goes_right_by, has_node, is_by_rows, is_by_rows-next, is_within, near}
pub use Rattle.grown_runs.proofs.Common.{parent_in, parent_in-tree_word, point_at, point_in, point_of, point_of-stands, record_at, record_of_word}
pub use Rattle.grown_runs.proofs.Common.{same_or_other, seen_tree_of_words, side_is, side_of, split_distance-le, squared_distance, two_sides}
pub use Rattle.grown_runs.proofs.Table.PackedWords.{x_in-point_word, y_in-point_word}
pub use Rattle.grown_runs.proofs.Ways.WalkStops.{StopsAt-fills, StopsAt-root}
pub use Rattle.grown_runs.specs.Table.Words.{point_word}
pub use Rattle.grown_runs.specs.declared.kd_walks.Stop.{Stop}
pub use Rattle.grown_runs.specs.declared.measured_nodes.MeasuredNode.{MeasuredNode}
pub use Rattle.kd_shared.specs.Searches.{AreGathered, AreNearSeen, IsChildSpot, IsChildWithin, IsFinished, IsNearestSeen, IsShift, LeavesChild, LoadsFar}
pub use Rattle.kd_shared.specs.Searches.{LoadsSpot, Opens, PopsFar, Puts, QueuesChild, QueuesWithin, StacksFar, StopsAtWord, SweepsWithin, WalksOn, far_side}
pub use Rattle.kd_shared.specs.Searches.{line_square, near_side, past_line, side_distance, stop_of}
pub use Rattle.kd_shared.specs.Looking.{FindsChild, FindsEmpty, KeepsLists, KeepsPoints, LoadsChild, LoadsPoint, OnlyLooks, OnlyLooks-trans, PassLooks}
pub use Rattle.kd_shared.specs.Looking.{PassLooks-fills, PassLooks-short, PassLooks-trans, searched}
pub use Rattle.kd_shared.specs.Placings.{AddsHand, GoesOnPlacing, IsPlaced, IsWordOfLink, KeepsShare, SeesLinked, WasLinkedSince, state_seen}
pub use Rattle.plan_model.proofs.SamePoints.{same_point-false, same_point-true}
pub use Rattle.plan_words.proofs.Common.{BelongsTo, BelongsTo-later, Contains-number, GoesOn, GoesOn-trans, HasLinked, HasLooked-loaded, HasLooked-refl}
pub use Rattle.plan_words.proofs.Common.{HasWholeShare, IsBounded-hand, IsLinkedAt, IsLinkedAt-counted, LeadsOn, NamesChildOrPoint, NamesNode, NamesNode-child}
pub use Rattle.plan_words.proofs.Common.{PassState, SearchLists, SeesAsBefore, SeesBestSince-trans, SharedState, eqb-swap, leads_seen, no_search, numbers_of}
pub use Rattle.plan_words.proofs.Common.{point_of_spot, same_numbers, with_lists, with_view}
pub use Rattle.plan_words.specs.SearchLists.{IsNoted, found_of_spot, noted, noted_spot}
pub use Rattle.plan_words.specs.declared.spots.Found.{Found}
pub use Rattle.plan_words.specs.declared.spots.Spot.{Spot}
pub use Rattle.std.proofs.Common.{Bool, List, None, Option, Some, [], ap, arith, drop, eqb, false, inl, inr, length, length-append, not, refl, set, subst}
pub use Rattle.std.proofs.Common.{suc, sym, take, true, zero, ℕ, ◌*◌, ◌++◌, ◌+◌, ◌-◌, ◌<◌, ◌^◌, ◌∙◌, ◌∷◌, ◌≡◌, ◌≤◌, ◌⊎◌}
pub use Rattle.std.proofs.Math.ListN.{drop_of_length-le}
pub use Rattle.std.proofs.Math.Seq.{drop-cons}
pub use Rattle.std.proofs.lemmas.Bool.{cases_eq, cases_lt, leb-false, leb-true, ltb-false, ltb-true, ne_eqb}
pub use Rattle.std.proofs.lemmas.List.{append-nil, append_assoc, drop-append-le, drop-set-lt, length-drop, length-map, length-set, map-append, take-append-le}
pub use Rattle.std.proofs.lemmas.List.{take-set, take_more_set}
pub use Rattle.std.proofs.lemmas.List.Elements.{All-append, All-cons, All-contains, All-nil, Contains-append_cases, Contains-append_left}
pub use Rattle.std.proofs.lemmas.List.Elements.{Contains-append_right, Contains-push, Contains-push_cases, filter_passes}
pub use Rattle.std.proofs.lemmas.List.FromFn.{get_or-range_with_len, length-range_with_len}
pub use Rattle.std.proofs.lemmas.List.Kept.{IsStrictlyIncreasing-filter}
pub use Rattle.std.proofs.lemmas.List.Sorted.{Contains-permutation, IsPermutation-sym}
pub use Rattle.std.proofs.lemmas.Map.Keys.{IsDistinct-IsPermutation, IsStrictlyIncreasing-from_distinct, sorted_from_strictly_increasing}
pub use Rattle.std.proofs.lemmas.Nat.{mul-le}
pub use Rattle.std.proofs.lemmas.Option.{get_or_from_slice_get, slice_get_cases, slice_get_within}
pub use Rattle.std.specs.Int.{abs_diff}
pub use Rattle.std.specs.List.{IsDistinct, range_with_len}
pub use Rattle.std.specs.List.Sorted.{IsNonDecreasing, IsPermutation, IsStrictlyIncreasing, IsStrictlySortedBy}
pub use Rattle.std.specs.Ordering.{nat_cmp}
pub use Rattle.std.specs.Prelude.{All, Contains, IfSome, IsFalse, IsSome, MatchOption, if◌then◌else◌, map, nat_le, nat_lt, slice_get, ◌==◌, ◌≢◌}
pub use Rattle.step_core.proofs.Common.{AreDifferent-after, Contains-within, HasLooked, IsFree-here, IsLater, IsLater-refl, IsLater-trans}
pub use Rattle.step_core.proofs.Common.{IsLaterMoment-later, IsLawfulView, IsOnWay-later, KeepsSight-lawful, LeadsTo, SeesNode, SeesPoint, ShowsNode}
pub use Rattle.step_core.proofs.Common.{WritesWord-saw, counted, has_first, has_link, last_look, linked, linked_points-seen, loaded, note_before, place_in}
pub use Rattle.step_core.proofs.Common.{point_at-kept, record-unplaced, run_sizes, same_name, sees, sees-linked, sight_in, tree_seen}
pub use Rattle.step_core.proofs.Seen.DistinctNumbers.{AreDifferent, AreDifferent-few, AreDifferent-within, Contains-cases, Contains-none}
pub use Rattle.step_core.proofs.Seen.DistinctNumbers.{IsDistinct-from_different, length-one_more}
pub use Rattle.step_core.specs.Stages.{has_point}
pub use Rattle.step_core.specs.declared.views.Hand.{Hand}
pub use Rattle.step_core.specs.declared.views.Stage.TheVariants.{Treed}
pub use Rattle.step_core.specs.declared.views.View.{View}
