-- The definitions and lemmas that proofs of this crate are about, passed on from one place. Declares nothing.
pub use Rattle.grown_runs.proofs.Common.{Clear, Clear-alone, Clear-first, ClearAt, ConfigurationSpace, Goal, IsAllowedEdge, IsBetween, IsBounded}
pub use Rattle.grown_runs.proofs.Common.{IsBounded-stands, IsClosed, IsOfTextbookRun, IsOfTextbookRun-settled, IsPresent, IsPresent-stands, IsSettled}
pub use Rattle.grown_runs.proofs.Common.{KeepsOrder, KeepsOrder-falls, MOST_GOALS, Point, Record, Scene, Setup, StandsAt, Task, TreeState, are_goals, cost_of}
pub use Rattle.grown_runs.proofs.Common.{cost_of-short, cost_of-swap, cost_of-triangle, goals-some, is_goal, kept-low, length-marks, mark_points, most_goals}
pub use Rattle.grown_runs.proofs.Common.{most_side, node-held, point_of, point_of-stands, same_parts, setup_of, sizes_of, space_of, squared_distance}
pub use Rattle.grown_runs.proofs.Common.{squared_distance-swap, state_of_grown, sum_in, sum_in-parent, true_at, with_ends, words_of_grown}
pub use Rattle.grown_runs.specs.declared.grown.Grown.{Grown}
pub use Rattle.plan_work.proofs.TextbookEnds.{IsOfTextbook-new, IsOfTextbookRun-whole}
pub use Rattle.point_bands.specs.Walks.{HasNoneBetween, IsWithin, nowhere, numbered_at}
pub use Rattle.point_bands.specs.declared.bands.Numbered.{Numbered}
pub use Rattle.std.proofs.Common.{All, Bool, Contains, List, None, Option, Some, [], ap, arith, false, inl, inr, le-leb, leb-true, length, not, refl, subst}
pub use Rattle.std.proofs.Common.{suc, sym, true, zero, ℕ, ◌&&◌, ◌*◌, ◌++◌, ◌+◌, ◌<◌, ◌∙◌, ◌∷◌, ◌≡◌, ◌≤◌}
pub use Rattle.std.proofs.lemmas.Bool.{and_from, and_parts, cases_eq, cases_lt, true≢false}
pub use Rattle.std.proofs.lemmas.List.{get_or_read}
pub use Rattle.std.proofs.lemmas.List.Elements.{All-push, Contains-append_left, Contains-push}
pub use Rattle.std.proofs.lemmas.List.Sorted.{All-permutation, Contains-permutation}
pub use Rattle.std.proofs.lemmas.Result.{IfOk-weaker}
pub use Rattle.std.specs.Int.{abs_diff}
pub use Rattle.std.specs.List.{list_all}
pub use Rattle.std.specs.List.Sorted.{IsPermutation}
pub use Rattle.std.specs.Prelude.{IfSome, IsTrue, if◌then◌else◌, is_some, nat_le, ◌-◌, ◌==◌}
pub use Rattle.twin_trees.specs.Twins.{AreNodes, IsBridge, IsCandidate, IsMatched, IsMember, IsNoWorse, IsTripleNotAbove, IsTurnedRound, IsTurnedRun, IsTwin}
pub use Rattle.twin_trees.specs.Twins.{IsWholeRun, Matches, MatchesIn, MayBeBest, MayBeBestIn, box_of, cost_over, first_goal, goal_middle, start_boxes}
pub use Rattle.twin_trees.specs.declared.bridges.Bridge.{Bridge}
pub use Rattle.twin_trees.specs.declared.twin_runs.Twin.{Twin}
