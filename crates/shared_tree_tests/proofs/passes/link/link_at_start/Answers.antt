use Rattle.shared_tree_tests.proofs.Words.{ap, refl, true, HoldsMark, Treed, LeadsTo}
use Rattle.shared_tree_tests.proofs.HeldPasses.FirstRecords.{HangsFromStart-kept, HangsFromStart-linked}
use Rattle.shared_tree_tests.proofs.HeldPasses.HeldMarks.{HoldsMark-kept, HoldsMark-linked, HoldsMark-unlinked}
use Rattle.shared_tree_tests.proofs.HeldPasses.LinkedPlaces.{LeadsTo-start, of_hand}
use Rattle.shared_tree_tests.proofs.passes.link.link_at_start.Given.{Over}
use Rattle.shared_tree_tests.proofs.passes.link.link_at_start.Goals as goal
use Rattle.shared_tree_tests.proofs.passes.link.link_at_start.Goals.{After-point-start}

pub link-requires-clause-leads : goal.link-requires-clause-leads
link-requires-clause-leads g c =
    let view = c.point-start.new.pass.view in
    of_hand view.hand c.hand_point-p.result (λ p. LeadsTo view p 0 true) c.hand_point-p.ensures
    (LeadsTo-start view c.point-start.result c.hand_point-p.result c.point-start.ensures.found c.if-p-start.false c.if-p-start-2.false)

pub returns-clause-hangs : goal.returns-clause-hangs
returns-clause-hangs g c =
    let mid = c.point-start.new.pass in
    let hung = HangsFromStart-kept c.args.pass.now.view mid.view c.point-start.ensures.goes_on.later c.args.cost c.requires.hangs
    (ap (λ p. p.view.hand) c.point-start.ensures.view) in
    HangsFromStart-linked mid c.link.new.pass c.args.cost 0 true c.link.result c.link.ensures.goes_on.later hung c.link.ensures.view c.link.ensures.view_found

-- the mark stays in hand while the start is looked at
holds_mid : (g : Over) (c : After-point-start g) → HoldsMark c.args.shared.now c.args.mark Treed c.point-start.new.pass
holds_mid g c =
    HoldsMark-kept c.args.shared.now c.args.mark Treed c.args.pass.now c.point-start.new.pass _ c.point-start.ensures.view refl
    c.point-start.ensures.goes_on c.requires.holds

pub returns-clause-linked : goal.returns-clause-linked
returns-clause-linked g c =
    HoldsMark-linked c.args.shared.now c.args.mark 0 true c.point-start.new.pass c.link.new.pass c.link.result
    (holds_mid g (goal.at.returns-clause-linked g c).After-point-start) c.link.ensures.goes_on c.link.ensures.view

pub returns-clause-same : goal.returns-clause-same
returns-clause-same g c =
    HoldsMark-unlinked c.args.shared.now c.args.mark 0 true c.point-start.new.pass c.link.new.pass c.link.result
    (holds_mid g (goal.at.returns-clause-same g c).After-point-start) c.link.ensures.goes_on c.link.ensures.view_found
