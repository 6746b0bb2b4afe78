use Rattle.grown_runs.specs.Table.PlacesOfWords.{sizes_in}
use Rattle.grown_runs.proofs.Table.WordReads.{word-read}
use Rattle.grown_runs.proofs.run_words.RunWords.at.Goals as goal

pub returns-clause-word : goal.returns-clause-word
returns-clause-word c name has found =
    let words = c.args.self.now in
    word-read (sizes_in words.places) words.list.items c.args.place c.index.result.now name words.sized has found c.index.ensures
