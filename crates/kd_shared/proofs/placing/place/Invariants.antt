use Rattle.kd_shared.proofs.Words.{◌-◌, MOST_NODES, StopsAt, tree_seen, PassLooks}
use Rattle.kd_shared.proofs.placing.place.Given as goal

abbrev pub invariant-depths : goal.invariant-depths
invariant-depths l = record {
  passes : PassLooks l.shared l.fn.pass l.pass;
  stops : StopsAt (tree_seen l.pass.view) l.p l.stop;
}

-- no way is longer than there are nodes
abbrev pub decreases-depths : goal.decreases-depths
decreases-depths l = MOST_NODES - l.stop.depth
