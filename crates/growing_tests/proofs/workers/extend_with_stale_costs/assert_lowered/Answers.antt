use Rattle.growing_tests.proofs.Shares.KeptShares.{HasShare-sees}
use Rattle.growing_tests.proofs.workers.extend_with_stale_costs.assert_lowered.Goals as goal
use Rattle.growing_tests.proofs.Words.{PassSees-lower, NamesLowered}

pub returns : goal.returns
returns g c =
    let lower = c.lower-found.ensures in
    let may = c.requires.share.may_claim in
    HasShare-sees NamesLowered c.args.shared.now c.args.pass.now c.lower-found.new.pass 1
    (PassSees-lower c.args.shared.now c.args.pass.now c.lower-found.new.pass _ _ _ c.lower-found.result may.belongs
    lower.kept lower.view_found lower.goes_on lower.seen lower.shown)
    c.requires.share
