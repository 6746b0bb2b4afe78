use Rattle.planner.proofs.Words.{length, ap, ◌∙◌, IfOk-weaker, Task, IsOfTextbookRun-whole}
use Rattle.planner.proofs.answers.run_by_slices.Goals as goal

pub returns-clause-scene : goal.returns-clause-scene
returns-clause-scene g c =
    IfOk-weaker c.finish_session.result _ _ (λ done end. ap (λ (t : Task). t.scene) end.of_task) c.finish_session.ensures.ended

pub returns-clause-all_marks : goal.returns-clause-all_marks
returns-clause-all_marks g c =
    IfOk-weaker c.finish_session.result _ _ (λ done end. end.all_marks ∙ ap length c.args.problem.task.of_scene) c.finish_session.ensures.ended

pub returns-clause-settled : goal.returns-clause-settled
returns-clause-settled g c = IfOk-weaker c.finish_session.result _ _ (λ done end. end.settled) c.finish_session.ensures.ended

pub returns-clause-workers : goal.returns-clause-workers
returns-clause-workers g c =
    rw c.get.ensures.value at (IfOk-weaker c.finish_session.result _ _ (λ done end. end.by_workers) c.finish_session.ensures.ended)

-- by one worker it is the textbook's run over all marks
pub returns-clause-textbook : goal.returns-clause-textbook
returns-clause-textbook g c = λ one.
    IfOk-weaker c.finish_session.result _ _
    (λ done end. IsOfTextbookRun-whole c.args.problem.task.scene done.run (ap (λ (t : Task). t.scene) end.of_task)
    (end.all_marks ∙ ap length c.args.problem.task.of_scene) (end.textbook (c.get.ensures.value ∙ one))) c.finish_session.ensures.ended
