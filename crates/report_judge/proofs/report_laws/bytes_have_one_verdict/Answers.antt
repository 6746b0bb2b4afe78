use Rattle.report_judge.proofs.Laws.OneVerdict.{not_both, one_break}
use Rattle.report_judge.proofs.report_laws.bytes_have_one_verdict.Goals as goal

pub returns : goal.returns
returns c = record { not_both = not_both; one_break = one_break }
