use Rattle.grown_runs.specs.Table.WordNames.Word.{ChildOf}
use Rattle.grown_runs.proofs.run_words.RunWords.set_child.Goals as goal

pub returns-clause-word : goal.returns-clause-word
returns-clause-word c = c.set.ensures.word (ChildOf c.args.node c.args.right) c.requires c.child.ensures
