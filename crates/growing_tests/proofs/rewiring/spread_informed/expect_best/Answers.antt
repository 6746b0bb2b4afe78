use Rattle.growing_tests.proofs.LoweredNodes.WorkingPasses.{IsAtWork-best, informed_here}
use Rattle.growing_tests.proofs.rewiring.spread_informed.expect_best.Goals as goal

pub best-requires-clause-informed : goal.best-requires-clause-informed
best-requires-clause-informed g c = informed_here c.args.shared.now c.args.pass.now.view c.requires.works.belongs.run c.requires.informed

pub returns : goal.returns
returns g c =
    IsAtWork-best c.args.shared.now c.args.pass.now c.best.new.pass c.best.ensures.view c.best.ensures.goes_on c.requires.works
