use Rattle.grown_runs.proofs.Words.{◌≡◌, ClearsNodes, words_in}
use Rattle.grown_runs.proofs.cleared_words.clear.Given as goal

-- the numbers so far are cleared
abbrev pub invariant-loop-node : goal.invariant-loop-node
invariant-loop-node l = record {
  places : l.words.places ≡ l.fn.words.places;
  words : ClearsNodes l.node (words_in l.fn.words) (words_in l.words);
}
