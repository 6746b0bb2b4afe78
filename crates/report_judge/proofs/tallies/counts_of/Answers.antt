use Rattle.report_judge.proofs.Words.{◌+◌, length, refl, sym, subst, slice_get, slice_get_read, AreCounts, AreCounts-next}
use Rattle.report_judge.proofs.tallies.counts_of.Goals as goal

pub loop-entry-preserved : goal.loop-entry-preserved
loop-entry-preserved c =
    let records = c.args.records.now in
    let k = c.loop-entry.entry-index in
    let entry = c.entry-item.result in
    subst (AreCounts (slice_get records) (k + 1)) (sym c.count.ensures)
    (AreCounts-next (slice_get records) k entry c.loop-entry.counts
    (slice_get_read records (length records) k entry refl c.loop-entry-test.true c.entry-item.is) c.loop-entry.invariant)
