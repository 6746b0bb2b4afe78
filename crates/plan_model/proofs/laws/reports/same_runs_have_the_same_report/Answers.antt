use Rattle.plan_model.proofs.SameReports.{best_node-same, report_text-same, summary-same}
use Rattle.plan_model.proofs.laws.reports.same_runs_have_the_same_report.Goals as goal

pub returns-clause-best : goal.returns-clause-best
returns-clause-best c = best_node-same

pub returns-clause-report : goal.returns-clause-report
returns-clause-report c = report_text-same

pub returns-clause-summary : goal.returns-clause-summary
returns-clause-summary c = summary-same
