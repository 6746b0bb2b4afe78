use Rattle.settle_report.proofs.Words.{◌≡◌, ℕ, ◌+◌, Bool, false, List, arith, sym, ap, ◌∙◌, subst, IsTrue, is_some, slice_index_or, IsPresent, length-marks}
use Rattle.settle_report.proofs.Words.{state_of_grown, Grown}
use Rattle.settle_report.proofs.MarkedRuns.{AreMarkedBelow, AreMarkedBelow-kept, AreMarkedBelow-more, IsSettled-marked, SettlesMarked, SettlesMarked-trans}
use Rattle.settle_report.proofs.settling.settle_all.Goals.{then-is_some+then-not-settled-node, else-is_some}
use Rattle.settle_report.proofs.settling.settle_all.Goals.{else-is_some-via-then-is_some+else-not-settled-node, else-is_some-via-else-is_some}
use Rattle.settle_report.proofs.settling.settle_all.Goals as goal

-- what came of a turn, by the names that its branches share
turned : (old after run : Grown) (more marks : List Bool) (next : ℕ) → run ≡ after → marks ≡ more
    → SettlesMarked old after more → AreMarkedBelow after more next
    → record { settles : SettlesMarked old run marks; below : AreMarkedBelow run marks next }
turned old after run more marks next same_run same_marks settles below = record {
  settles = subst (λ g. SettlesMarked old g marks) (sym same_run) (subst (SettlesMarked old after) (sym same_marks) settles);
  below = subst (λ g. AreMarkedBelow g marks next) (sym same_run) (subst (λ m. AreMarkedBelow after m next) (sym same_marks) below);
}

pub overflow_add-node-end : goal.overflow_add-node-end
overflow_add-node-end c =
    let grown = c.args.grown.now in
    omega (arith, grown.hold_run.closed.within, length-marks grown.task, c.limit-node-end.ensures)

pub loop-node-preserved : goal.loop-node-preserved
loop-node-preserved c =
    let old = c.args.grown.now in
    let now = c.loop-node.grown in
    let marks = c.loop-node.settled in
    let run = c.loop-node.invariant in
    elim c.if-is_some.branch [
      | then-is_some+then-not-settled-node w ↦ (
          let done = w.settle_down.ensures in
          let after = w.settle_down.new.grown in
          let more = w.settle_down.new.settled in
          let settles =
          SettlesMarked-trans old now after marks more run.settles
          (record { task = done.task; limit = done.limit; children = done.children; costs_alone = done.costs_alone; marked = done.marks }) in
          let below =
          AreMarkedBelow-more after more c.loop-node.node
          (AreMarkedBelow-kept now after marks more c.loop-node.node run.below done.costs_alone done.keeps) (λ here. done.marked) in
          turned old after c.if-is_some.grown more c.if-is_some.settled (c.loop-node.node + 1) w.grown-is w.settled-is settles below)
      | else-is_some w ↦ (
          let marked :
          IsPresent (state_of_grown c.loop-node.grown).points c.loop-node.node → IsTrue (slice_index_or c.loop-node.settled c.loop-node.node false) =
          λ here.
          elim w.else-is_some.branch [
            | else-is_some-via-then-is_some+else-not-settled-node v ↦ v.if-not-settled-node.false
            | else-is_some-via-else-is_some v ↦ (let none = ap is_some (sym c.point.ensures) ∙ sym c.is_some.ensures ∙ v.if-is_some.false in cc)
          ] in
          turned old now c.if-is_some.grown marks c.if-is_some.settled (c.loop-node.node + 1) w.grown-is w.settled-is run.settles
          (AreMarkedBelow-more now marks c.loop-node.node run.below marked))
    ]

pub returns-clause-settled : goal.returns-clause-settled
returns-clause-settled c =
    let run = c.loop-node.invariant in
    IsSettled-marked c.loop-node.grown c.loop-node.settled run.settles.marked
    (subst (AreMarkedBelow c.loop-node.grown c.loop-node.settled) (omega (arith, run.settles.limit, c.limit-node-end.ensures)) run.below)
