use Rattle.shared_tree_tests.proofs.Words.{ap, false, refl, true, BelongsTo-later, PassState, HasSeenAtLeast-later, LeadsTo, Treed}
use Rattle.shared_tree_tests.proofs.HeldPasses.FirstRecords.{HangsFromStart-kept, HangsFromStart-linked}
use Rattle.shared_tree_tests.proofs.HeldPasses.HeldMarks.{HoldsMark-kept, HoldsMark-linked}
use Rattle.shared_tree_tests.proofs.HeldPasses.LinkedPlaces.{LeadsTo-below, of_hand}
use Rattle.shared_tree_tests.proofs.passes.link.link_below.Goals as goal

pub link-requires-clause-belongs : goal.link-requires-clause-belongs
link-requires-clause-belongs g c =
    let met = c.meet_above-above in
    BelongsTo-later c.args.shared.now met.new.pass c.point-start.new.pass (ap (λ (p : PassState). p.table) c.point-start.ensures.view)
    c.point-start.ensures.goes_on met.ensures.holds.belongs

pub link-requires-clause-leads : goal.link-requires-clause-leads
link-requires-clause-leads g c =
    let met = c.meet_above-above in
    let view = c.point-start.new.pass.view in
    let later = c.point-start.ensures.goes_on.later in
    let places = (HasSeenAtLeast-later met.new.pass.view view later.run later.seen).places in
    let there = places.nodes c.args.met met.result met.ensures.stands in
    let child = places.children 0 c.args.met true met.ensures.met in
    of_hand view.hand c.hand_point-p.result (λ p. LeadsTo view p c.args.met false) c.hand_point-p.ensures
    (LeadsTo-below view c.point-start.result met.result c.hand_point-p.result c.args.met c.point-start.ensures.found there child
    c.if-p-start.false c.if-p-start-2.false c.if-above-p.false)

pub returns-clause-hangs : goal.returns-clause-hangs
returns-clause-hangs g c =
    let met = c.meet_above-above in
    let mid = c.point-start.new.pass in
    let hung = HangsFromStart-kept met.new.pass.view mid.view c.point-start.ensures.goes_on.later c.args.cost met.ensures.hangs
    (ap (λ p. p.view.hand) c.point-start.ensures.view) in
    HangsFromStart-linked mid c.link.new.pass c.args.cost c.args.met false c.link.result c.link.ensures.goes_on.later hung c.link.ensures.view
    c.link.ensures.view_found

pub returns-clause-linked : goal.returns-clause-linked
returns-clause-linked g c =
    let met = c.meet_above-above in
    let mid = c.point-start.new.pass in
    let holds = HoldsMark-kept c.args.shared.now c.args.mark Treed met.new.pass mid _ c.point-start.ensures.view refl c.point-start.ensures.goes_on
    met.ensures.holds in
    HoldsMark-linked c.args.shared.now c.args.mark c.args.met false mid c.link.new.pass c.link.result holds c.link.ensures.goes_on c.link.ensures.view
