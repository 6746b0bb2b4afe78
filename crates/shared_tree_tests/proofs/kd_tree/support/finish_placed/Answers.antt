use Rattle.shared_tree_tests.proofs.Words.{◌≡◌, ◌∙◌, ap, arith, refl, sym, true, class_of, RecordOf, no_goals, has_link}
use Rattle.shared_tree_tests.proofs.SteeredPasses.SteeredMarks.{HangsBelowNearest-kept}
use Rattle.shared_tree_tests.proofs.SteeredPasses.SteeredRecords.{may_finish-placed, own_count-same}
use Rattle.shared_tree_tests.proofs.kd_tree.support.finish_placed.Goals as goal

pub finish-requires-clause-may : goal.finish-requires-clause-may
finish-requires-clause-may c =
    let holds = c.requires.holds in
    let view = c.number-nodes.new.pass.view in
    let step = c.number-nodes.ensures in
    let hangs =
    HangsBelowNearest-kept c.args.pass.now.view view step.goes_on.later holds.belongs.lawful
    (λ k. step.seen.others (RecordOf k) (λ e. cc)) c.args.closest c.args.cost
    c.requires.hangs (ap (λ p. p.view.hand) step.view) in
    let held = ap (λ p. p.view.hand) step.view ∙ holds.held in
    let same : holds.hand ≡ hangs.steers.hand = cc (held, hangs.steers.held) in
    let linked : has_link hangs.steers.hand.stage ≡ true = ap (λ h. has_link h.stage) (sym same) ∙ ap has_link holds.stage_is in
    let run = ap (λ p. p.view.run) step.view ∙ holds.belongs.run in
    let gamma : view.run.gamma ≡ 0 = omega (arith, ap (λ r. r.gamma) run, ap (λ t. t.scene.gamma) c.task.ensures, c.if-task-ne0.false) in
    may_finish-placed view c.args.closest c.args.cost _ step.goes_on.lawful hangs linked gamma
    (no_goals c.args.shared.now view run c.requires.plain) refl refl refl refl
    (λ e. omega (arith, step.own e, step.seen.here, own_count-same c.args.pass.now.view view e step.goes_on (λ k. step.seen.others (RecordOf k) (λ is. cc))))
    (c.class.ensures.value ∙ ap class_of (c.from.ensures ∙ sym step.seen.here))
