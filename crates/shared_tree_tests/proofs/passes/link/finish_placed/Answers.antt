use Rattle.shared_tree_tests.proofs.Words.{◌∙◌, ap, arith, refl, sym, no_goals, Posted}
use Rattle.shared_tree_tests.proofs.HeldPasses.FirstRecords.{HangsFromStart-kept, may_finish, posted_plain}
use Rattle.shared_tree_tests.proofs.passes.link.finish_placed.Goals as goal

pub finish-requires-clause-may : goal.finish-requires-clause-may
finish-requires-clause-may g c =
    let view = c.number-nodes.new.pass.view in
    let steps = c.number-nodes.ensures in
    let same = ap (λ p. p.view.hand) steps.view in
    let hung = HangsFromStart-kept c.args.pass.now.view view steps.goes_on.later c.args.cost c.requires.hangs same in
    may_finish view c.requires.holds.hand _ c.args.cost steps.goes_on.lawful hung
    (same ∙ c.requires.holds.held) refl refl c.requires.holds.from_start
    (posted_plain view c.requires.holds.hand Posted
    (no_goals c.args.shared.now view (ap (λ p. p.view.run) steps.view ∙ c.requires.holds.belongs.run)
    (ap (λ t. t.scene.informed) (sym c.task.ensures) ∙ c.if-task.false))) refl refl refl
    refl (omega (arith, steps.seen.here, c.if-nodes-eq0.false))
