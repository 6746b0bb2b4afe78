use Rattle.grown_runs.specs.Table.RunWords.{words_in}
use Rattle.grown_runs.proofs.Table.ClearedWords.{ClearsNode-written}
use Rattle.grown_runs.proofs.cleared_words.clear_node.Goals as goal

pub returns-clause-words : goal.returns-clause-words
returns-clause-words c =
    ClearsNode-written c.args.node (words_in c.args.words.now) (words_in c.set_point.new.self) (words_in c.set_tree.new.self) _
    c.set_point.ensures.word c.set_tree.ensures.word c.set_first.ensures.word
