use Rattle.std.proofs.Common.{ap}
use Rattle.shared_tree_tests.proofs.HeldPasses.FirstRecords.{HangsFromStart-kept}
use Rattle.shared_tree_tests.proofs.passes.link.expect_free.Goals as goal

pub returns-clause-hangs : goal.returns-clause-hangs
returns-clause-hangs g c =
    HangsFromStart-kept c.args.pass.now.view c.child-child.new.pass.view c.child-child.ensures.goes_on.later c.args.cost c.requires.hangs
    (ap (λ p. p.view.hand) c.child-child.ensures.view)
