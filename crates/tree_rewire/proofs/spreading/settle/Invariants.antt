use Rattle.tree_rewire.proofs.Words.{NamesLoweredOrPoint, PassSees, SeesPair, cost_seen, OnlyAt}
use Rattle.tree_rewire.proofs.spreading.settle.Given as goal

abbrev pub invariant-lowers : goal.invariant-lowers
invariant-lowers l = record {
  steps : PassSees NamesLoweredOrPoint l.shared l.fn.pass l.pass;
  others : OnlyAt l.node l.fn.pass.view l.pass.view;
  pair : SeesPair l.pass.view l.node;
}

-- what the node is seen to cost
abbrev pub decreases-lowers : goal.decreases-lowers
decreases-lowers l = cost_seen l.pass.view l.node
