use Rattle.std.proofs.Common.{length, ap, sym, ◌∙◌, arith}
use Rattle.grown_runs.proofs.Common.{length-points_of_marks, mark_points, setup_of, Task, IsOfTextbookRun-settled, state_of_grown}
use Rattle.plan_work.proofs.TextbookEnds.{IsOfTextbook-new, IsOfTextbookRun-whole}
use Rattle.plan_c.proofs.answers.run_alone.Goals as goal

pub overflow_cast-limit : goal.overflow_cast-limit
overflow_cast-limit c =
    let scene = c.args.task.scene in
    let few = length-points_of_marks scene scene.plan scene.plan_within in
    omega (arith, few, ap length c.args.task.of_scene, c.len-limit.ensures)

-- settling keeps the records
pub returns-clause-worker : goal.returns-clause-worker
returns-clause-worker c = λ k entry is.
    c.in_ok-grown.ensures.worker k entry (sym (c.in_ok-settle.ensures.costs_alone.records k) ∙ is) (omega (arith, c.in_ok-fresh.ensures.limit))

-- and is no change to a run of the textbook
pub returns-clause-textbook : goal.returns-clause-textbook
returns-clause-textbook c =
    let scene = c.args.task.scene in
    let grown = c.in_ok-grown.grown in
    let of_scene = ap (λ (t : Task). t.scene) (c.in_ok-grown.ensures.task ∙ c.in_ok-fresh.ensures.task) in
    let whole = c.in_ok-grown.ensures.limit ∙ c.len-limit.ensures ∙ ap length c.args.task.of_scene in
    let textbook = c.in_ok-grown.ensures.textbook
    (IsOfTextbook-new _ c.in_ok-fresh.fresh c.in_ok-fresh.ensures.task c.in_ok-fresh.ensures.limit c.in_ok-fresh.ensures.state) in
    IsOfTextbookRun-settled (setup_of scene) (mark_points scene) (state_of_grown grown) _ c.requires.start
    (IsOfTextbookRun-whole scene grown of_scene whole textbook) c.in_ok-settle.ensures.costs_alone c.in_ok-settle.ensures.settled
