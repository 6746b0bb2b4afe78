use Rattle.grown_runs.proofs.Words.{refl, sizes_in}
use Rattle.grown_runs.proofs.Table.WordReads.{WritesWord-set}
use Rattle.grown_runs.proofs.run_words.RunWords.set.Goals as goal

pub returns-clause-word : goal.returns-clause-word
returns-clause-word c name has found =
    let words = c.args.self.now in
    WritesWord-set (sizes_in words.places) words.list.items c.args.place c.args.word c.args.word name words.sized has found refl
