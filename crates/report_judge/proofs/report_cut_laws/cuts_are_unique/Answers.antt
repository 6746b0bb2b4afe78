use Rattle.report_judge.proofs.Texts.ReportCutLaws.{not_both, same_report, same_scene}
use Rattle.report_judge.proofs.report_cut_laws.cuts_are_unique.Goals as goal

pub returns : goal.returns
returns c = record { scene = same_scene; report = same_report; not_both = not_both }
