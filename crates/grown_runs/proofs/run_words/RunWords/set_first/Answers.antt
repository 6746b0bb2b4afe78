use Rattle.grown_runs.specs.Table.WordNames.Word.{FirstOf}
use Rattle.grown_runs.proofs.run_words.RunWords.set_first.Goals as goal

pub returns-clause-word : goal.returns-clause-word
returns-clause-word c = c.set.ensures.word (FirstOf c.args.node) c.requires c.first.ensures
