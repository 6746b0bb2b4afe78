-- The run of two marks of which none is placed is closed.
use Rattle.std.proofs.Common.{Option, Some, None, List, [], ◌∷◌, refl}
use Rattle.grown_runs.proofs.Common.{IsClosed, IsClosed-same_lists, Knot, Point, Record, Setup, at, blocked_record, empty_room, same_record, setup_of}
use Rattle.grown_runs.proofs.Common.{state_of_lists}
use Rattle.plan_model_tests.proofs.ClosedDecisions.{is_closed}
use Rattle.plan_model_tests.proofs.Decisions.{shown}
use Rattle.plan_model_tests.proofs.OrderDecisions.{is_clear, is_clear_at}
use Rattle.runs_tests.proofs.packed_runs.grown.stopped.Goals as goal

abbrev low_setup : Setup
low_setup = record { space = empty_room (at 40 40); start = at 0 0; step = 50; gamma = 1000; goals = [] }

abbrev marks : List Point
marks = at 0 0 ∷ at 0 50 ∷ []

abbrev entries : List Record
entries = same_record 0 0 0 ∷ blocked_record 1 0 ∷ []

abbrev knots : List (Option Knot)
knots = Some (record { point = at 0 0; parent = 0; cost = 0 }) ∷ None ∷ None ∷ []

closed : IsClosed low_setup marks 2 (state_of_lists knots entries)
closed =
    shown (is_closed low_setup (is_clear (at 40 40)) (state_of_lists knots entries) entries refl (is_clear_at (at 40 40) (at 0 0)) marks 2) refl

pub packed-requires : goal.packed-requires
packed-requires g c =
    let task = c.task_of-task.result in
    IsClosed-same_lists (setup_of task.scene) low_setup task.marks marks c.stopped_knots.result knots c.stopped_records.result
    entries c.task_of-task.ensures.setup c.task_of-task.ensures.marks c.stopped_knots.ensures c.stopped_records.ensures closed
