use Rattle.settle_report.proofs.Words.{◌+◌, sym, subst, state_of_grown, AreCounts}
use Rattle.settle_report.proofs.CountedMarks.{AreCounts-next}
use Rattle.settle_report.proofs.reports.counts_of.Goals as goal

pub loop-mark-preserved : goal.loop-mark-preserved
loop-mark-preserved c =
    let records = (state_of_grown c.args.grown.now).record_of in
    let mark = c.loop-mark.mark in
    subst (AreCounts records (mark + 1)) (sym c.count.ensures)
    (AreCounts-next records mark c.record_of.result c.loop-mark.counts c.record_of.ensures c.loop-mark.invariant)
