-- The run in which node 2 gets a cheaper way through node 3 is closed.
use Rattle.std.proofs.Common.{ℕ, Option, Some, List, [], ◌∷◌, refl}
use Rattle.grown_runs.proofs.Common.{IsClosed, IsClosed-same_lists, Knot, at, marks_to_rewire, open_setup, rewired_records, setup_of, state_of_lists}
use Rattle.plan_model_tests.proofs.ClosedDecisions.{is_closed}
use Rattle.plan_model_tests.proofs.Decisions.{shown}
use Rattle.plan_model_tests.proofs.OrderDecisions.{is_clear, is_clear_at}
use Rattle.runs_tests.proofs.packed_runs.grown.rewired.Goals as goal

abbrev knot : ℕ → ℕ → ℕ → ℕ → Option Knot
knot x y parent cost = Some (record { point = at x y; parent = parent; cost = cost })

-- its nodes with their kept costs
abbrev rewired_knots : List (Option Knot)
rewired_knots = knot 0 0 0 0 ∷ knot 0 50 0 12800 ∷ knot 40 79 3 25344 ∷ knot 40 30 0 12800 ∷ []

closed : IsClosed open_setup marks_to_rewire 3 (state_of_lists rewired_knots rewired_records)
closed =
    shown
    (is_closed open_setup (is_clear (at 100 100)) (state_of_lists rewired_knots rewired_records) rewired_records refl
    (is_clear_at (at 100 100) (at 0 0)) marks_to_rewire 3) refl

pub packed-requires : goal.packed-requires
packed-requires g c =
    let task = c.task_of-task.result in
    IsClosed-same_lists (setup_of task.scene) open_setup task.marks marks_to_rewire c.rewired_knots.result rewired_knots
    c.rewired_records.result rewired_records c.task_of-task.ensures.setup c.task_of-task.ensures.marks c.rewired_knots.ensures
    c.rewired_records.ensures closed
