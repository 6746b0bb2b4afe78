use Rattle.settle_report.proofs.Words.{◌<◌, length, arith, sym, state_of_grown, IsChildOf}
use Rattle.settle_report.proofs.GrownPaths.{FallAlong-grown}
use Rattle.settle_report.proofs.HeldOrders.{number-grown, parent-grown}
use Rattle.settle_report.proofs.WaysDown.{LeadsDown-up, child_costs_more}
use Rattle.settle_report.proofs.SettlingSteps.{unmarked-other}
use Rattle.settle_report.proofs.settling.climb.Goals as goal

pub bounds-settled-parent : goal.bounds-settled-parent
bounds-settled-parent c =
    let grown = c.args.grown.now in
    let run = c.loop-parent.invariant in
    let above = parent-grown grown c.loop-parent.at c.loop-parent.parent run.above run.present in
    omega (arith, c.requires.marks.each, number-grown grown c.loop-parent.parent above)

pub loop-parent-smaller : goal.loop-parent-smaller
loop-parent-smaller c =
    let grown = c.args.grown.now in
    let run = c.loop-parent.invariant in
    child_costs_more (state_of_grown grown) (FallAlong-grown grown) c.loop-parent.parent c.loop-parent.at
    (record { present = run.present; other = run.other; hangs = sym run.above })

pub loop-parent-preserved : goal.loop-parent-preserved
loop-parent-preserved c =
    let grown = c.args.grown.now in
    let state = state_of_grown grown in
    let run = c.loop-parent.invariant in
    let above = parent-grown grown c.loop-parent.at c.loop-parent.parent run.above run.present in
    let child : IsChildOf (state_of_grown c.args.grown.now) c.loop-parent.parent c.loop-parent.at =
    record { present = run.present; other = run.other; hangs = sym run.above } in
    let within : c.loop-parent.parent < length c.loop-parent.below =
    omega (arith, c.requires.places, number-grown grown c.loop-parent.parent above) in
    record {
      present = above;
      other = unmarked-other state grown.limit c.args.settled.now c.requires.marks c.loop-parent.parent c.loop-parent-test.true;
      above = c.parent-parent-in-loop-parent.ensures;
      way = LeadsDown-up state (FallAlong-grown grown) c.loop-parent.below c.loop-parent.parent c.loop-parent.at c.args.node within child run.way;
    }
