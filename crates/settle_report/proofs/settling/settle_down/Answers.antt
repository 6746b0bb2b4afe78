use Rattle.settle_report.proofs.Words.{◌<◌, ◌≤◌, ℕ, ◌-◌, true, false, length, set, arith, sym, subst, IsTrue, slice_index, slice_index_or, state_of_grown}
use Rattle.settle_report.proofs.GrownPaths.{FallAlong-grown}
use Rattle.settle_report.proofs.HeldOrders.{number-grown}
use Rattle.settle_report.proofs.MarkedRuns.{SettlesMarked-trans}
use Rattle.settle_report.proofs.SettlingSteps.{ChangesCosts-trans, marks-set_here, marks-set_kept}
use Rattle.settle_report.proofs.WaysDown.{child_costs_more, next-LeadsDown, rises-LeadsDown}
use Rattle.settle_report.proofs.settling.settle_down.Goals as goal

pub bounds-below-at : goal.bounds-below-at
bounds-below-at c =
    let old = c.args.grown.now in
    omega (arith, c.requires.places, number-grown old c.loop-at.at c.loop-at.invariant.present)

gap_falls : (here next end : ℕ) → here < next → next ≤ end → end - next < end - here
gap_falls here next end less within = omega arith

pub loop-at-smaller : goal.loop-at-smaller
loop-at-smaller c =
    let old = c.args.grown.now in
    let state = state_of_grown old in
    let fall = FallAlong-grown old in
    let next = next-LeadsDown state fall c.args.below.now c.loop-at.at c.args.node c.loop-at-test.true c.loop-at.invariant.way in
    gap_falls _ _ _ (child_costs_more state fall c.loop-at.at _ next.0) (rises-LeadsDown state fall c.args.below.now _ c.args.node next.1)

pub loop-at-preserved : goal.loop-at-preserved
loop-at-preserved c =
    let old = c.args.grown.now in
    let now = c.loop-at.grown in
    let after = c.settle_node.new.grown in
    let run = c.loop-at.invariant in
    let done = c.settle_node.ensures in
    let way = next-LeadsDown (state_of_grown old) (FallAlong-grown old) c.args.below.now c.loop-at.at c.args.node c.loop-at-test.true run.way in
    let within : c.loop-at.at < length c.loop-at.settled =
    omega (arith, run.settles.marked.each, run.settles.limit, number-grown old c.loop-at.at run.present) in
    record {
      settles =
          SettlesMarked-trans old now after c.loop-at.settled c.settle_node.new.settled run.settles
          (record { task = done.task; limit = done.limit; children = done.children; costs_alone = done.costs_alone; marked = done.marks });
      keeps = λ n marked.
          subst (λ marks. IsTrue (slice_index_or marks n false)) (sym done.marked)
          (marks-set_kept c.loop-at.settled c.loop-at.at n within (run.keeps n marked));
      present = way.0.present;
      other = way.0.other;
      hangs =
          subst (λ marks. IsTrue (slice_index_or marks ((state_of_grown old).parent (slice_index c.args.below.now c.loop-at.at)) false)) (sym done.marked)
          (subst (λ n. IsTrue (slice_index_or (set c.loop-at.settled c.loop-at.at true) n false)) (sym way.0.hangs)
          (marks-set_here c.loop-at.settled c.loop-at.at within));
      way = way.1;
    }

pub returns-clause-costs_alone : goal.returns-clause-costs_alone
returns-clause-costs_alone c =
    ChangesCosts-trans (state_of_grown c.args.grown.now) (state_of_grown c.loop-at.grown) (state_of_grown c.settle_node-2.new.grown)
    c.loop-at.invariant.settles.costs_alone c.settle_node-2.ensures.costs_alone

pub returns-clause-marked : goal.returns-clause-marked
returns-clause-marked c =
    let old = c.args.grown.now in
    let run = c.loop-at.invariant in
    let within : c.args.node < length c.loop-at.settled =
    omega (arith, run.settles.marked.each, run.settles.limit, c.loop-at-test.false, number-grown old c.loop-at.at run.present) in
    subst (λ marks. IsTrue (slice_index_or marks c.args.node false)) (sym c.settle_node-2.ensures.marked)
    (marks-set_here c.loop-at.settled c.args.node within)
