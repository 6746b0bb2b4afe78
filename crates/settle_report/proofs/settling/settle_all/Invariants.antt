use Rattle.settle_report.proofs.MarkedRuns.{AreMarkedBelow, SettlesMarked}
use Rattle.settle_report.proofs.settling.settle_all.Given as goal

-- costs alone have changed, and the nodes so far are marked
abbrev pub invariant-loop-node : goal.invariant-loop-node
invariant-loop-node l = record {
  settles : SettlesMarked l.fn.grown l.grown l.settled;
  below : AreMarkedBelow l.grown l.settled l.node;
}
