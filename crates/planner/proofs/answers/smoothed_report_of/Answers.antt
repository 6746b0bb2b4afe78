use Rattle.planner.proofs.Words.{ap, sym, ◌∙◌, subst, is_some, IsSmoothedReport, status_of_report, state_of_grown}
use Rattle.planner.proofs.Successes.{ReportsGrown-answer}
use Rattle.planner.proofs.answers.smoothed_report_of.Goals as goal

pub returns-clause-reported : goal.returns-clause-reported
returns-clause-reported c =
    let grown = c.args.grown in
    ReportsGrown-answer IsSmoothedReport grown _ _ c.requires.all_marks c.requires.settled c.answer_of.ensures.run
    (c.answer_of.ensures.status ∙ ap (λ best. status_of_report (is_some best)) c.best-best.ensures.value)
    (subst (IsSmoothedReport grown.task.scene grown.limit (state_of_grown grown)) (sym (ap (λ text. text.items) c.answer_of.ensures.text)) c.in_ok-text.ensures)
