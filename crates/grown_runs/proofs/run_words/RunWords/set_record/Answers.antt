use Rattle.grown_runs.specs.Table.WordNames.Word.{RecordOf}
use Rattle.grown_runs.proofs.run_words.RunWords.set_record.Goals as goal

pub returns-clause-word : goal.returns-clause-word
returns-clause-word c = c.set.ensures.word (RecordOf c.args.mark) c.requires c.record.ensures
