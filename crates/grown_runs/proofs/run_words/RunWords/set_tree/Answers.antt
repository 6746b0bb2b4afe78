use Rattle.grown_runs.specs.Table.WordNames.Word.{TreeOf}
use Rattle.grown_runs.proofs.run_words.RunWords.set_tree.Goals as goal

pub returns-clause-word : goal.returns-clause-word
returns-clause-word c = c.set.ensures.word (TreeOf c.args.node) c.requires c.tree.ensures
