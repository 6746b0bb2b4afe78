use Rattle.settle_report.proofs.Words.{state_of_grown, AreCounts}
use Rattle.settle_report.proofs.reports.counts_of.Given as goal

-- the counts of the marks so far
abbrev pub invariant-loop-mark : goal.invariant-loop-mark
invariant-loop-mark l = AreCounts (state_of_grown l.grown).record_of l.mark l.counts
