use Rattle.growing_tests.proofs.LoweredNodes.WorkingPasses.{IsAtWork-claims}
use Rattle.growing_tests.proofs.rewiring.spread_by_threads.expect_lowered.Goals as goal

pub expect_pairs-requires : goal.expect_pairs-requires
expect_pairs-requires g c = IsAtWork-claims c.args.shared.now c.args.looker.now c.requires.looks
