-- The nodes and the records of a closed run that is given by lists fit their words.
use Rattle.grown_runs.proofs.Words.{ℕ, List, Option, Some, None, length, arith, ap, ◌∙◌, subst, option_map, get_or_from_slice_get, Record, Task, Knot}
use Rattle.grown_runs.proofs.Words.{IsBounded, IsClosed, StandsAt, setup_of, points_of, parent_of, without_costs, TreeState, IsPresent-stands, point_of-stands}
use Rattle.grown_runs.proofs.Words.{parent-present, sizes_of, kept_cost_of, state_of_lists, IsKnot, FitsNode, FitWords}
use Rattle.grown_runs.proofs.Runs.FittingStates.{present-closed, small_number, kept-low, IsBounded-closed, FitsRecord-closed}
use Rattle.grown_runs.proofs.Runs.PackedStates.{point_at-lists, parent_of-lists}

module _
    (task : Task) (knots : List (Option Knot)) (records : List Record)
    (closed : IsClosed (setup_of task.scene) task.marks (length records) (state_of_lists knots records)) where
  abbrev state : TreeState
  state = state_of_lists knots records

  fits_node : (n : ℕ) (knot : Knot) → IsKnot knots n knot → FitsNode (sizes_of task) n knot
  fits_node n knot is =
      let at = get_or_from_slice_get knots n (Some knot) None is in
      let stands : StandsAt (points_of (without_costs knots)) n knot.point = point_at-lists knots n ∙ ap (option_map (λ (k : Knot). k.point)) at in
      let here = IsPresent-stands (points_of (without_costs knots)) n knot.point stands in
      let parent = parent-present (setup_of task.scene) state closed.order n here in
      record {
        within = present-closed task (length records) state closed n here;
        point =
            subst IsBounded (point_of-stands (points_of (without_costs knots)) n knot.point stands)
            (IsBounded-closed task (length records) state closed n here);
        parent =
            omega (
              arith,
              small_number task (length records) state closed (parent_of (without_costs knots) n) parent,
              parent_of-lists knots n knot at,
            );
        cost = omega (arith, kept-low task (length records) state closed n here, ap kept_cost_of at);
      }

  -- The lists of a closed run fit their words.
  pub FitWords-closed : FitWords (sizes_of task) knots records
  FitWords-closed = record {
    few = closed.within;
    nodes = fits_node;
    records_fit = FitsRecord-closed task (length records) state closed;
  }
