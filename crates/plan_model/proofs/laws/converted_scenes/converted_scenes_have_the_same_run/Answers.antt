use Rattle.plan_model.proofs.ConvertedRuns.{space_of-converted, HaveSameInputs-converted, HaveSameInputs-unconverted}
use Rattle.plan_model.proofs.SameReports.{report_text-same_goals, summary-same_goals}
use Rattle.plan_model.proofs.UniqueRuns.{IsTextbookRun-same_inputs}
use Rattle.plan_model.proofs.laws.converted_scenes.converted_scenes_have_the_same_run.Goals as goal

pub returns-clause-space : goal.returns-clause-space
returns-clause-space c = space_of-converted

pub returns-clause-run : goal.returns-clause-run
returns-clause-run c = λ scene converted tree records h. IsTextbookRun-same_inputs scene converted tree records (HaveSameInputs-converted scene converted h)

pub returns-clause-back : goal.returns-clause-back
returns-clause-back c =
    λ scene converted tree records h. IsTextbookRun-same_inputs converted scene tree records (HaveSameInputs-unconverted scene converted h)

pub returns-clause-report : goal.returns-clause-report
returns-clause-report c = λ scene converted limit state h. report_text-same_goals scene converted limit state h.goals h.informed

pub returns-clause-summary : goal.returns-clause-summary
returns-clause-summary c = λ scene converted limit state h. summary-same_goals scene converted limit state h.goals h.informed
