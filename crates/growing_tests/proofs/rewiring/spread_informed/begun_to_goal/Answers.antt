use Rattle.growing_tests.proofs.LoweredNodes.WorkingPasses.{IsAtWork-claims}
use Rattle.growing_tests.proofs.rewiring.spread_informed.begun_to_goal.Goals as goal

pub returns-clause-works : goal.returns-clause-works
returns-clause-works g c = IsAtWork-claims c.begun_after.result.shared c.begun_after.result.pass c.begun_after.ensures.may_claim
