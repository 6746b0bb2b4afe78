use Rattle.plan_model.proofs.SameReports.{AreSameRuns-textbook, report_text-textbook, summary-textbook}
use Rattle.plan_model.proofs.laws.reports.textbook_runs_have_one_report.Goals as goal

pub returns-clause-run : goal.returns-clause-run
returns-clause-run c = AreSameRuns-textbook

pub returns-clause-report : goal.returns-clause-report
returns-clause-report c = report_text-textbook

pub returns-clause-summary : goal.returns-clause-summary
returns-clause-summary c = summary-textbook
