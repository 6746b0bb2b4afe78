use Rattle.shared_tree_tests.proofs.Words.{◌∙◌, ap, subst, sym, mark_at, Record, no_goals, SeesPoint}
use Rattle.shared_tree_tests.proofs.HeldPasses.StartMarks.{may_finish-start}
use Rattle.shared_tree_tests.proofs.passes.support.take_turn.Goals as goal

pub finish-requires-clause-may : goal.finish-requires-clause-may
finish-requires-clause-may g c =
    let view = c.expect_on_start.new.pass.view in
    let holds = c.expect_on_start.ensures.holds in
    let marks = ap (λ run. run.marks) holds.belongs.run in
    let same = ap (λ l. mark_at l holds.hand.mark) marks ∙ ap (mark_at c.args.shared.now.task.marks) holds.mark in
    may_finish-start view holds.hand c.unplaced-entry.result holds.held (subst (SeesPoint view 0) (sym same) c.expect_on_start.ensures.on_start)
    (ap (λ (entry : Record). entry.nearest) c.unplaced-entry.ensures)
    (no_goals c.args.shared.now view holds.belongs.run (ap (λ t. t.scene.informed) (sym c.task.ensures) ∙ c.if-task.false))
    (ap (λ (entry : Record). entry.outcome) c.unplaced-entry.ensures)
