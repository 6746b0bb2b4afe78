use Rattle.grown_runs.proofs.Table.PackedRecords.{record_word-one}
use Rattle.grown_runs.proofs.word_laws.different_values_have_different_words.Goals as goal

pub returns-clause-record : goal.returns-clause-record
returns-clause-record c = record_word-one
