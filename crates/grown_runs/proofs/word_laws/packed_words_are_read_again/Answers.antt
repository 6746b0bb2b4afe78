use Rattle.grown_runs.proofs.Table.PackedWords.{point_of_word-packed, tree_of_word-packed}
use Rattle.grown_runs.proofs.Table.PackedRecords.{record_of_word-packed}
use Rattle.grown_runs.proofs.word_laws.packed_words_are_read_again.Goals as goal

pub returns-clause-point : goal.returns-clause-point
returns-clause-point c = point_of_word-packed

pub returns-clause-tree : goal.returns-clause-tree
returns-clause-tree c = tree_of_word-packed

pub returns-clause-record : goal.returns-clause-record
returns-clause-record c = record_of_word-packed
