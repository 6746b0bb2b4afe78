use Rattle.grown_runs.proofs.Table.PackedWords.{tree_word-lower}
use Rattle.grown_runs.proofs.word_laws.lower_costs_have_lower_words.Goals as goal

pub returns : goal.returns
returns c = tree_word-lower
