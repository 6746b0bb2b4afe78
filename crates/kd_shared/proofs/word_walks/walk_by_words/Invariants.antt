use Rattle.kd_shared.proofs.Words.{◌-◌, MOST_NODES, tree_seen, PassLooks, StopsAtWord}
use Rattle.kd_shared.proofs.word_walks.walk_by_words.Given as goal

abbrev pub invariant-way : goal.invariant-way
invariant-way l = record {
  looks : PassLooks l.shared l.fn.pass l.pass;
  at : StopsAtWord (tree_seen l.pass.view) l.p l.at;
}

-- no way is longer than there are nodes
abbrev pub decreases-way : goal.decreases-way
decreases-way l = MOST_NODES - l.at.depth
