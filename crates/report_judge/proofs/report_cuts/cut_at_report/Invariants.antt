use Rattle.std.proofs.Common.{length}
use Rattle.report_judge.proofs.Texts.ReportCuts.{IsWalked}
use Rattle.report_judge.proofs.report_cuts.cut_at_report.Given as goal

-- the lines so far are others
abbrev pub invariant-lines : goal.invariant-lines
invariant-lines l = IsWalked l.text l.rest

abbrev pub decreases-lines : goal.decreases-lines
decreases-lines l = length l.rest
