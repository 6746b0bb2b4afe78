use Rattle.grown_runs.specs.Table.WordNames.Word.{Count}
use Rattle.grown_runs.proofs.run_words.RunWords.set_count.Goals as goal

pub returns-clause-word : goal.returns-clause-word
returns-clause-word c = c.set.ensures.word Count tt c.count.ensures
