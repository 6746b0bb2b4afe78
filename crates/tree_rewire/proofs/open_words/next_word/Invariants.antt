use Rattle.tree_rewire.proofs.Words.{map, take, IsNextWord, nodes_on, word_through, NamesNothing, PassSees}
use Rattle.tree_rewire.proofs.open_words.next_word.Given as goal

-- the next word so far is that among the earlier nodes
abbrev pub invariant-words : goal.invariant-words
invariant-words l = record {
  steps : PassSees NamesNothing l.shared l.fn.pass l.pass;
  next : IsNextWord (map (word_through l.fn.pass.view l.p) (take l.index (nodes_on l.among l.fn.pass.lists))) l.low l.last l.next;
}
