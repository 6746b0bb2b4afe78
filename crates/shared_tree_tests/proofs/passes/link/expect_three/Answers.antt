use Rattle.std.proofs.Common.{ap}
use Rattle.shared_tree_tests.proofs.HeldPasses.FirstRecords.{HangsFromStart-kept}
use Rattle.shared_tree_tests.proofs.passes.link.expect_three.Goals as goal

pub returns-clause-hangs : goal.returns-clause-hangs
returns-clause-hangs g c =
    HangsFromStart-kept c.args.pass.now.view c.number-nodes.new.pass.view c.number-nodes.ensures.goes_on.later c.args.cost c.requires.hangs
    (ap (λ p. p.view.hand) c.number-nodes.ensures.view)
