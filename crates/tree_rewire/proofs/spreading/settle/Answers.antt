use Rattle.tree_rewire.proofs.Words.{ap, arith, ◌∙◌, TreeOf, cost_in}
use Rattle.tree_rewire.proofs.CostSteps.{PassSees-lower, PassSees-more, PassSees-trans, LoweredOrPoint-point, LoweredOrPoint-lowered}
use Rattle.tree_rewire.proofs.spreading.settle.Goals as goal

pub lowers-smaller : goal.lowers-smaller
lowers-smaller c = omega (arith, c.lower-found.ensures.falls.less, ap cost_in (c.looser.ensures.steps.sees_anew.others (TreeOf c.args.node) (λ no. no)))

pub lowers-preserved : goal.lowers-preserved
lowers-preserved c =
    let h = c.lowers.invariant in
    let lower = c.lower-found.ensures in
    let looks = c.looser.ensures.steps in
    record {
      steps = PassSees-trans h.steps (PassSees-trans (PassSees-more LoweredOrPoint-point looks) (PassSees-more LoweredOrPoint-lowered
          (PassSees-lower c.args.shared.now c.looser.new.pass c.lower-found.new.pass c.args.node _ _ c.lower-found.result looks.belongs lower.kept
          lower.view_found lower.goes_on lower.seen lower.shown)));
      others = λ m apart.
          lower.seen.others (TreeOf m) (λ e. apart cc) ∙ looks.sees_anew.others (TreeOf m) (λ no. no) ∙ h.others m apart;
      pair = lower.falls.written;
    }

pub returns-clause-steps : goal.returns-clause-steps
returns-clause-steps c =
    PassSees-trans c.lowers.invariant.steps (PassSees-more LoweredOrPoint-point c.looser.ensures.steps)
