use Rattle.std.proofs.Common.{◌∙◌, ap, sym}
use Rattle.shared_tree_tests.proofs.HeldPasses.FirstRecords.{unskipped_plain}
use Rattle.shared_tree_tests.proofs.passes.link.hang_both.Goals as goal

pub write_from_start-requires-clause-unskipped : goal.write_from_start-requires-clause-unskipped
write_from_start-requires-clause-unskipped g c =
    let holds = c.claim_mark.ensures in
    unskipped_plain c.args.shared.now c.claim_mark.new.pass.view holds.hand holds.held holds.belongs.run
    (ap (λ t. t.scene.informed) (sym c.task.ensures) ∙ c.if-task.false)

pub write_from_start-requires-2-clause-unskipped : goal.write_from_start-requires-2-clause-unskipped
write_from_start-requires-2-clause-unskipped g c =
    let holds = c.claim_mark-2.ensures in
    unskipped_plain c.args.shared.now c.claim_mark-2.new.pass.view holds.hand holds.held holds.belongs.run
    (ap (λ t. t.scene.informed) (sym c.task.ensures) ∙ c.if-task.false)
