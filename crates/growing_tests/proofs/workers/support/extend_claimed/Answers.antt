use Rattle.growing_tests.proofs.Shares.KeptShares.{HasClaimed-handled}
use Rattle.growing_tests.proofs.workers.support.extend_claimed.Goals as goal

pub returns : goal.returns
returns g c =
    HasClaimed-handled c.args.shared.now c.args.pass.now c.extend.new.pass 1 _ c.extend.result c.extend.ensures.handled c.requires.claimed
