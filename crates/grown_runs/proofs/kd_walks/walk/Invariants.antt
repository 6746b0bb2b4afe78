use Rattle.grown_runs.proofs.Words.{◌-◌, MOST_NODES, StopsAt}
use Rattle.grown_runs.proofs.kd_walks.walk.Given as goal

abbrev pub invariant-way : goal.invariant-way
invariant-way g l = record {
  may : g.T.KdTree.may_look l.tree l.looks;
  looks : g.T.KdTree.looked l.tree l.fn.looks l.looks;
  stops : StopsAt (g.T.KdTree.seen l.tree l.looks) l.p l.stop;
}

-- no way is longer than the nodes are many
abbrev pub decreases-way : goal.decreases-way
decreases-way g l = MOST_NODES - l.stop.depth
