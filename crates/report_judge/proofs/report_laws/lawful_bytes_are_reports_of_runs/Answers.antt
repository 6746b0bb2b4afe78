use Rattle.report_judge.proofs.Laws.LawfulSheets.{IsReportOfRun-lawful}
use Rattle.report_judge.proofs.Laws.ReportsOfRuns.{IsLawful-report}
use Rattle.report_judge.proofs.report_laws.lawful_bytes_are_reports_of_runs.Goals as goal

pub returns : goal.returns
returns c = record { run = IsReportOfRun-lawful; lawful = IsLawful-report }
