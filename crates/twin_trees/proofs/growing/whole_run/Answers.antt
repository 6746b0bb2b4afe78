use Rattle.twin_trees.proofs.Words.{length, ap, arith, sym, ◌∙◌, length-marks, IsOfTextbookRun-settled, setup_of, mark_points, Task, state_of_grown}
use Rattle.twin_trees.proofs.Words.{IsOfTextbook-new, IsOfTextbookRun-whole}
use Rattle.twin_trees.proofs.TurnedRuns.{IsWholeRun-settled}
use Rattle.twin_trees.proofs.growing.whole_run.Goals as goal

pub overflow_cast-limit : goal.overflow_cast-limit
overflow_cast-limit g c = omega (arith, length-marks c.args.task, c.len-limit.ensures)

-- settling keeps the records, and is no change to a run of the textbook
pub returns : goal.returns
returns g c =
    let scene = c.args.task.scene in
    let grown = c.in_ok-grown.grown in
    let task_is = c.in_ok-grown.ensures.task ∙ c.in_ok-fresh.ensures.task in
    let limit_is = c.in_ok-grown.ensures.limit ∙ c.len-limit.ensures in
    IsWholeRun-settled c.args.workers c.settle.new.grown c.args.task (c.in_ok-settle.ensures.task ∙ task_is)
    (c.in_ok-settle.ensures.limit ∙ limit_is) c.in_ok-settle.ensures.settled
    (λ k entry is.
    c.in_ok-grown.ensures.workers k entry (sym (c.in_ok-settle.ensures.costs_alone.records k) ∙ is) (omega (arith, c.in_ok-fresh.ensures.limit)))
    (λ one.
    let textbook = c.in_ok-grown.ensures.textbook one
    (IsOfTextbook-new _ c.in_ok-fresh.fresh c.in_ok-fresh.ensures.task c.in_ok-fresh.ensures.limit c.in_ok-fresh.ensures.state) in
    IsOfTextbookRun-settled (setup_of scene) (mark_points scene) (state_of_grown grown) _ c.requires.start
    (IsOfTextbookRun-whole scene grown (ap (λ (t : Task). t.scene) task_is) (limit_is ∙ ap length c.args.task.of_scene) textbook)
    c.in_ok-settle.ensures.costs_alone c.in_ok-settle.ensures.settled)
