use Rattle.settle_report.proofs.Words.{◌<◌, length, set, true, sym, subst, arith, setup_of, state_of_grown, MarksSettled}
use Rattle.settle_report.proofs.HeldOrders.{number-grown}
use Rattle.settle_report.proofs.SettlingSteps.{MarksSettled-more}
use Rattle.settle_report.proofs.settling.settle_node.Goals as goal

pub returns-clause-marks : goal.returns-clause-marks
returns-clause-marks c =
    let old = c.args.grown.now in
    let new = c.lower_to_parent.new.grown in
    let within : c.args.node < length c.args.settled.now =
    omega (arith, c.requires.marks.each, number-grown old c.args.node c.requires.present) in
    subst (λ limit. MarksSettled (state_of_grown new) limit (set c.args.settled.now c.args.node true)) (sym c.lower_to_parent.ensures.limit)
    (MarksSettled-more (setup_of old.task.scene) (state_of_grown old) (state_of_grown new) old.hold_run.closed.order old.limit c.args.settled.now
    c.requires.marks c.args.node c.requires.present c.requires.other within c.requires.hangs c.lower_to_parent.ensures.state)
