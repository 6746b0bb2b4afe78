use Rattle.growing_tests.specs.LoweredNodes.HeldMarks.{IsAtWork}
use Rattle.growing_tests.proofs.rewiring.support.expect_pairs.Given as goal

abbrev pub invariant-nodes : goal.invariant-nodes
invariant-nodes g l = IsAtWork l.shared l.pass
