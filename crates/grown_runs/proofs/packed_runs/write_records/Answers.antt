use Rattle.grown_runs.proofs.Words.{◌≡◌, length, refl, arith, ◌∙◌, subst, slice_get_read, WritesRecords, words_in}
use Rattle.grown_runs.proofs.Runs.PackedWritings.{WritesRecords-more}
use Rattle.grown_runs.proofs.packed_runs.write_records.Goals as goal

pub write_record-requires-clause-fits : goal.write_record-requires-clause-fits
write_record-requires-clause-fits c = c.requires.fit c.loop-mark.mark c.index-records-mark.result
    (slice_get_read c.args.records.now (length c.args.records.now) c.loop-mark.mark c.index-records-mark.result refl
    c.loop-mark-test.true c.index-records-mark.is)

pub loop-mark-preserved : goal.loop-mark-preserved
loop-mark-preserved c = record {
  places = c.write_record.ensures.places ∙ c.loop-mark.invariant.places;
  records =
      WritesRecords-more c.args.records.now c.loop-mark.mark (words_in c.args.words.now) (words_in c.loop-mark.words)
      (words_in c.write_record.new.words) c.loop-mark.invariant.records c.index-records-mark.result
      (slice_get_read c.args.records.now (length c.args.records.now) c.loop-mark.mark c.index-records-mark.result refl
      c.loop-mark-test.true c.index-records-mark.is)
      c.write_record.ensures.hold c.write_record.ensures.others;
}

pub returns-clause-records : goal.returns-clause-records
returns-clause-records c =
    let all : c.loop-mark.mark ≡ length c.args.records.now = omega (arith, c.loop-mark-test.false, c.loop-mark.auto.mark-end) in
    subst (λ m. WritesRecords c.args.records.now m (words_in c.args.words.now) (words_in c.loop-mark.words)) all c.loop-mark.invariant.records
