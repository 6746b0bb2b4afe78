use Rattle.grown_runs.specs.Table.WordNames.Word.{Best}
use Rattle.grown_runs.proofs.run_words.RunWords.set_best.Goals as goal

pub returns-clause-word : goal.returns-clause-word
returns-clause-word c = c.set.ensures.word Best tt c.best.ensures
