use Rattle.grown_runs.proofs.Words.{◌≡◌, WritesNodes, words_in}
use Rattle.grown_runs.proofs.packed_runs.write_nodes.Given as goal

-- the nodes so far are written
abbrev pub invariant-loop-node : goal.invariant-loop-node
invariant-loop-node l = record {
  places : l.words.places ≡ l.fn.words.places;
  nodes : WritesNodes l.knots l.node (words_in l.fn.words) (words_in l.words);
}
