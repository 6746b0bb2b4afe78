-- The definitions and lemmas that proofs of this crate are about, passed on from one place. Declares nothing.
pub use Rattle.grown_runs.proofs.Common.{Blocked, ChangesCosts, CostsInstead, FallAlong, Goal, GrowsInto, HoldRun, IsBounded-stands, IsPresent, IsPresent-goal}
pub use Rattle.grown_runs.proofs.Common.{IsSettled, KeepsOrder, KeepsOrder-falls, Outcome, Placed, Point, Record, Same, Setup, Skipped, StandsAt, Task}
pub use Rattle.grown_runs.proofs.Common.{TreeState, Words, best_node, chain-parent, chain-start, chain_in, children_of_grown, cost_of, count-more, edge_by}
pub use Rattle.grown_runs.proofs.Common.{first_cost_of, first_least, first_least-some, goals_of, has_outcome, is_blocked, is_goal_point, is_placed, is_same}
pub use Rattle.grown_runs.proofs.Common.{is_skipped, length-marks, lesser, mark_line_if_recorded, mark_lines, node-held, node_line_if_present, outcome_count}
pub use Rattle.grown_runs.proofs.Common.{parent-present, path_to, point_at, point_of, point_of-stands, recorded_or, setup_of, sizes_of, start_present-held}
pub use Rattle.grown_runs.proofs.Common.{state_of_grown, state_of_words, sum_by, sum_in, sum_in-le_cost, sum_in-parent, sum_in-start, sums-tight}
pub use Rattle.grown_runs.proofs.Common.{words_of_grown}
pub use Rattle.grown_runs.specs.declared.grown.Grown.{Grown}
pub use Rattle.plan_model.specs.Reports.ReportText.{point_lines}
pub use Rattle.settle_report.specs.SettledMarks.{AreCounts, CostsByParent, IsChildOf, IsTight, LeadsDown, LeadsDownBy, MarksSettled, with_outcome}
pub use Rattle.settle_report.specs.declared.outcome_counts.OutcomeCounts.{OutcomeCounts}
pub use Rattle.std.proofs.Common.{Bool, IfSome, List, None, Option, Some, [], ap, append-nil, append_assoc, arith, cond, drop, false, filter, inl, inr, length}
pub use Rattle.std.proofs.Common.{map, refl, replicate, reverse, rules, set, string_bytes, subst, suc, sym, take, true, zero, ℕ, ◌++◌, ◌+◌, ◌-◌, ◌<◌, ◌∙◌, ◌∷◌}
pub use Rattle.std.proofs.Common.{◌≡◌, ◌≢◌, ◌≤◌}
pub use Rattle.std.proofs.KnownBytes.{Appends-trans}
pub use Rattle.std.proofs.Math.Seq.{take-add}
pub use Rattle.std.proofs.lemmas.Bool.{cases_eq, cases_lt}
pub use Rattle.std.proofs.lemmas.Grind.{flat_map-append, get_or-set_at}
pub use Rattle.std.proofs.lemmas.List.{get_or-replicate, get_or-set_other, get_or_past, length-drop, length-replicate, length-set, take_rest}
pub use Rattle.std.proofs.lemmas.List.Folds.{flat_map-map}
pub use Rattle.std.proofs.lemmas.List.FromFn.{map-range_with_len_more}
pub use Rattle.std.specs.Io.KnownBytes.{Appends}
pub use Rattle.std.specs.List.{flat_map, range_with_len}
pub use Rattle.std.specs.Prelude.{IsTrue, is_some, slice_index, slice_index_or}
