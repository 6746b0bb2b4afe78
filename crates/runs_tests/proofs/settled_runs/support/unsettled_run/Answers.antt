-- The run is closed.
use Rattle.grown_runs.proofs.Common.{setup_of, IsClosed-same_lists}
use Rattle.runs_tests.proofs.UnsettledRun.{IsClosed-unsettled, rrt_setup, unsettled_knots, unsettled_marks, unsettled_records}
use Rattle.runs_tests.proofs.settled_runs.support.unsettled_run.Goals as goal

pub packed-requires : goal.packed-requires
packed-requires g c =
    let task = c.task_of-task.result in
    IsClosed-same_lists (setup_of task.scene) rrt_setup task.marks unsettled_marks c.unsettled_knots.result unsettled_knots
    c.unsettled_records.result unsettled_records c.task_of-task.ensures.setup c.task_of-task.ensures.marks
    c.unsettled_knots.ensures c.unsettled_records.ensures IsClosed-unsettled
