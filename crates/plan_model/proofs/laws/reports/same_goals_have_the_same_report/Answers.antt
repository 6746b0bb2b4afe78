use Rattle.plan_model.proofs.SameReports.{report_text-same_goals, summary-same_goals}
use Rattle.plan_model.proofs.laws.reports.same_goals_have_the_same_report.Goals as goal

pub returns-clause-report : goal.returns-clause-report
returns-clause-report c = report_text-same_goals

pub returns-clause-summary : goal.returns-clause-summary
returns-clause-summary c = summary-same_goals
