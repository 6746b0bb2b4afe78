use Rattle.plan_work.proofs.KeptRecords.{KeepsRecords-trans}
use Rattle.plan_work.proofs.KeptSights.{HasSteered-still}
use Rattle.plan_work.proofs.WholeLists.{HasCounted-kept, HasWholeShare-kept, SeesButCount-trans}
use Rattle.plan_work.proofs.mark_steering.steer_and_test.Goals as goal
use Rattle.plan_work.specs.ExtensionSteps.{IsFilledSince}

pub returns-clause-keeps : goal.returns-clause-keeps
returns-clause-keeps g c =
    KeepsRecords-trans c.args.shared.now c.args.pass.now c.steer_among_near-steering.new.pass c.renew_near.new.pass
    c.steer_among_near-steering.ensures.keeps c.renew_near.ensures.keeps

pub returns-clause-steered : goal.returns-clause-steered
returns-clause-steered g c =
    let steering = c.steer_among_near-steering.result in
    HasSteered-still c.args.pass.now.view c.steer_among_near-steering.new.pass.view c.renew_near.new.pass.view
    c.steer_among_near-steering.ensures.keeps.goes_on c.renew_near.ensures.keeps.goes_on c.args.k steering.nearest steering.from steering.point
    c.steer_among_near-steering.ensures.steered

pub returns-clause-filled : goal.returns-clause-filled
returns-clause-filled g c =
    let begun = c.steer_among_near-steering in
    let since : IsFilledSince c.args.shared.now c.args.pass.now begun.new.pass begun.result.point begun.result.class =
    record { keeps = begun.ensures.keeps; filled = begun.ensures.filled } in
    (c.renew_near.ensures.filled c.args.pass.now since).filled

pub returns-clause-whole : goal.returns-clause-whole
returns-clause-whole g c = λ whole counted.
    let before = c.args.pass.now in
    let begun = c.steer_among_near-steering in
    let one = begun.ensures.whole whole counted in
    let two = c.renew_near.ensures.whole (HasWholeShare-kept c.args.shared.now before begun.new.pass begun.ensures.keeps whole)
    (HasCounted-kept before.view begun.new.pass.view begun.ensures.hand counted) one.1 in
    (SeesButCount-trans before.view begun.new.pass.view c.renew_near.new.pass.view one.0 two.0, two.1)
