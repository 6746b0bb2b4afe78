use Rattle.growing_tests.proofs.Words.{GoesOn, SeesPair, cost_seen, OnlyAt, IsAtWork}
use Rattle.growing_tests.proofs.rewiring.support.lower_while_dearer.Given as goal

-- the pass goes on, and sees no cost anew but that of the node
abbrev pub invariant-lowers : goal.invariant-lowers
invariant-lowers l = record {
  works : IsAtWork l.shared l.pass;
  goes_on : GoesOn l.fn.pass.view l.pass.view;
  others : OnlyAt l.edge.node l.fn.pass.view l.pass.view;
  pair : SeesPair l.pass.view l.edge.node;
}

-- what the node is seen to cost
abbrev pub decreases-lowers : goal.decreases-lowers
decreases-lowers l = cost_seen l.pass.view l.edge.node
