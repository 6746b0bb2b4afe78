use Rattle.planner.proofs.Words.{ap, ◌∙◌, is_some, IsReport, status_of_report}
use Rattle.planner.proofs.Successes.{ReportsGrown-answer}
use Rattle.planner.proofs.answers.report_of.Goals as goal

pub returns-clause-reported : goal.returns-clause-reported
returns-clause-reported c =
    ReportsGrown-answer (IsReport c.args.full) c.args.grown _ _ c.requires.all_marks c.requires.settled c.answer_of.ensures.run
    (c.answer_of.ensures.status ∙ ap (λ best. status_of_report (is_some best)) c.best-best.ensures.value)
    (ap (λ text. text.items) c.answer_of.ensures.text ∙ c.in_ok-text.ensures)
