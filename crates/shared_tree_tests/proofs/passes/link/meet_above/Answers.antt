use Rattle.shared_tree_tests.proofs.Words.{◌∙◌, ap, refl, true, IsLater-trans, HasSeenAtLeast-later, Treed}
use Rattle.shared_tree_tests.proofs.HeldPasses.FirstRecords.{HangsFromStart-kept}
use Rattle.shared_tree_tests.proofs.HeldPasses.HeldMarks.{HoldsMark-kept}
use Rattle.shared_tree_tests.proofs.passes.link.meet_above.Goals as goal

pub returns-clause-holds : goal.returns-clause-holds
returns-clause-holds g c =
    HoldsMark-kept c.args.shared.now c.args.mark Treed c.point-above.new.pass c.child-child.new.pass _ c.child-child.ensures.view refl
    c.child-child.ensures.goes_on
    (HoldsMark-kept c.args.shared.now c.args.mark Treed c.args.pass.now c.point-above.new.pass _ c.point-above.ensures.view refl
    c.point-above.ensures.goes_on c.requires.holds)

pub returns-clause-hangs : goal.returns-clause-hangs
returns-clause-hangs g c =
    let first = c.point-above.new.pass.view in
    let last = c.child-child.new.pass.view in
    let whole = IsLater-trans c.args.pass.now.view first last c.point-above.ensures.goes_on.later c.child-child.ensures.goes_on.later in
    HangsFromStart-kept c.args.pass.now.view last whole c.args.cost c.requires.hangs
    (ap (λ p. p.view.hand) c.child-child.ensures.view ∙ ap (λ p. p.view.hand) c.point-above.ensures.view)

pub returns-clause-met : goal.returns-clause-met
returns-clause-met g c =
    let first = c.point-above.new.pass.view in
    let last = c.child-child.new.pass.view in
    let whole = IsLater-trans c.args.pass.now.view first last c.point-above.ensures.goes_on.later c.child-child.ensures.goes_on.later in
    (HasSeenAtLeast-later c.args.pass.now.view last whole.run whole.seen).places.children 0 c.args.met true c.requires.met

pub returns-clause-stands : goal.returns-clause-stands
returns-clause-stands g c =
    let first = c.point-above.new.pass.view in
    let last = c.child-child.new.pass.view in
    let later = c.child-child.ensures.goes_on.later in
    (HasSeenAtLeast-later first last later.run later.seen).places.nodes c.args.met c.point-above.result c.point-above.ensures.found
