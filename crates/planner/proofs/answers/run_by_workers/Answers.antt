use Rattle.planner.proofs.Words.{length, ap, sym, ◌∙◌, arith, length-points_of_marks, mark_points, setup_of, Task, IsOfTextbookRun-settled, state_of_grown}
use Rattle.planner.proofs.Words.{IsOfTextbook-new, IsOfTextbookRun-whole}
use Rattle.planner.proofs.answers.run_by_workers.Goals as goal

pub overflow_cast-limit : goal.overflow_cast-limit
overflow_cast-limit g c =
    let scene = c.args.task.scene in
    let few = length-points_of_marks scene scene.plan scene.plan_within in
    omega (arith, few, ap length c.args.task.of_scene, c.len-limit.ensures)

-- settling keeps the records
pub returns-clause-workers : goal.returns-clause-workers
returns-clause-workers g c = λ k entry is.
    let before = sym (c.in_ok-settle.ensures.costs_alone.records k) ∙ is in
    rw c.get.ensures.value at (c.in_ok-grown.ensures.workers k entry before (omega (arith, c.in_ok-fresh.ensures.limit)))

-- and is no change to a run of the textbook
pub returns-clause-textbook : goal.returns-clause-textbook
returns-clause-textbook g c = λ one.
    let grown = c.in_ok-grown.grown in
    let of_scene = ap (λ (t : Task). t.scene) (c.in_ok-grown.ensures.task ∙ c.in_ok-fresh.ensures.task) in
    let whole = c.in_ok-grown.ensures.limit ∙ c.len-limit.ensures ∙ ap length c.args.task.of_scene in
    let textbook = c.in_ok-grown.ensures.textbook (c.get.ensures.value ∙ one)
    (IsOfTextbook-new _ c.in_ok-fresh.fresh c.in_ok-fresh.ensures.task c.in_ok-fresh.ensures.limit c.in_ok-fresh.ensures.state) in
    IsOfTextbookRun-settled (setup_of c.args.task.scene) (mark_points c.args.task.scene) (state_of_grown grown) _ c.requires.start
    (IsOfTextbookRun-whole c.args.task.scene grown of_scene whole textbook) c.in_ok-settle.ensures.costs_alone c.in_ok-settle.ensures.settled
