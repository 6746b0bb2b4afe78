use Rattle.report_judge.proofs.Words.{slice_get, AreCounts}
use Rattle.report_judge.proofs.tallies.counts_of.Given as goal

-- the counts of the marks so far
abbrev pub invariant-loop-entry : goal.invariant-loop-entry
invariant-loop-entry l = AreCounts (slice_get l.records) l.entry-index l.counts
