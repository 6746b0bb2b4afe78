use Rattle.planner.proofs.Words.{ap, ◌∙◌, is_some, better_report, IsBetterReport, status_of_report, state_of_grown}
use Rattle.planner.proofs.Successes.{ReportsGrown-answer}
use Rattle.planner.proofs.answers.better_report_of.Goals as goal

pub returns-clause-reported : goal.returns-clause-reported
returns-clause-reported c =
    let run = c.args.finished.run in
    ReportsGrown-answer (IsBetterReport c.args.finished.better) run _ _ c.requires.all_marks c.requires.settled c.answer_of-done.ensures.run
    (c.answer_of-done.ensures.status ∙ ap (λ best. status_of_report (is_some best)) c.best-best.ensures.value)
    (ap (λ text. text.items) c.answer_of-done.ensures.text ∙ c.in_ok-text.ensures
    ∙ ap (λ items. better_report items run.task.scene run.limit (state_of_grown run)) c.as_slice.ensures)
