use Rattle.std.proofs.Common.{◌∙◌, ap, arith, refl}
use Rattle.shared_tree_tests.proofs.HeldPasses.FirstRecords.{HangsFromStart-kept, may_finish}
use Rattle.shared_tree_tests.proofs.passes.bests.finish_posted.Goals as goal

pub finish-requires-clause-may : goal.finish-requires-clause-may
finish-requires-clause-may g c =
    let view = c.number-nodes.new.pass.view in
    let steps = c.number-nodes.ensures in
    let same = ap (λ p. p.view.hand) steps.view in
    let hung = HangsFromStart-kept c.args.pass.now.view view steps.goes_on.later c.args.cost c.requires.hangs same in
    may_finish view c.requires.holds.hand _ c.args.cost steps.goes_on.lawful hung
    (same ∙ c.requires.holds.held) refl refl c.requires.holds.from_start (λ goal. c.requires.holds.stage_is) refl refl refl
    refl (omega (arith, steps.seen.here, c.if-nodes-eq0.false))
