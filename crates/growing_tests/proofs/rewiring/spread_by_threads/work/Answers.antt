use Rattle.growing_tests.proofs.LoweredNodes.WorkingPasses.{IsAtWork-claims}
use Rattle.growing_tests.proofs.rewiring.spread_by_threads.work.Goals as goal

pub lower_and_spread-lowered-requires-clause-works : goal.lower_and_spread-lowered-requires-clause-works
lower_and_spread-lowered-requires-clause-works c = IsAtWork-claims c.args.shared.now c.args.worker.now.pass c.requires.may_claim
