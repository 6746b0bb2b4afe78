use Rattle.std.proofs.Common.{length, ap, arith}
use Rattle.growing_tests.proofs.LoweredNodes.PlacedHands.{MayRewire-placed}
use Rattle.growing_tests.proofs.rewiring.rewire.place_mark.Goals as goal

pub returns : goal.returns
returns c =
    let holds = c.requires.holds in
    let place = c.place.ensures in
    MayRewire-placed c.args.shared.now c.args.pass.now c.place.new.pass c.args.mark holds.hand c.place.result place.belongs
    (omega (arith, holds.part, ap (λ crew. length crew) place.share.crew))
    place.goes_on.goes_on holds.held holds.mark c.requires.near
    (ap (λ pass. pass.lists.near) place.view_alone) place.placed
