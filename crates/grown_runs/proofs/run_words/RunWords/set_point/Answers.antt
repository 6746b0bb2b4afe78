use Rattle.grown_runs.specs.Table.WordNames.Word.{PointOf}
use Rattle.grown_runs.proofs.run_words.RunWords.set_point.Goals as goal

pub returns-clause-word : goal.returns-clause-word
returns-clause-word c = c.set.ensures.word (PointOf c.args.node) c.requires c.point.ensures
