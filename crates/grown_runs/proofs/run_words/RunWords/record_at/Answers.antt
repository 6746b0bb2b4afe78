use Rattle.grown_runs.proofs.Words.{arith, sym, sizes_in}
use Rattle.grown_runs.proofs.Runs.GrownPoints.{record_at-past}
use Rattle.grown_runs.proofs.run_words.RunWords.record_at.Goals as goal

pub returns-then-mark-marks : goal.returns-then-mark-marks
returns-then-mark-marks c =
    let words = c.args.self.now in
    sym (record_at-past (sizes_in words.places) words.list.items c.args.mark (omega (arith, c.marks.ensures, c.if-mark-marks.true)))
