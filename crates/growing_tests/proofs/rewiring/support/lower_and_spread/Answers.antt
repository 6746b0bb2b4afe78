use Rattle.growing_tests.proofs.LoweredNodes.WorkingPasses.{IsAtWork-kept}
use Rattle.growing_tests.proofs.rewiring.support.lower_and_spread.Goals as goal

pub returns : goal.returns
returns c =
    let spread = c.spread.ensures in
    IsAtWork-kept c.args.shared.now c.lower_below.new.pass c.spread.new.pass spread.belongs spread.seen.kept.crew
    c.lower_below.ensures.works
