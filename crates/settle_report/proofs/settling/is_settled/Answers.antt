use Rattle.settle_report.proofs.Words.{rules, arith, inl, inr, subst, sym, cases_eq, state_of_grown, IsTight}
use Rattle.settle_report.proofs.TightNodes.{IsSettled-tight, IsTight-settled}
use Rattle.settle_report.proofs.settling.is_settled.Goals as goal

pub returns-then-not-is_tight : goal.returns-then-not-is_tight
returns-then-not-is_tight c = (
  (λ yes. cc),
  (λ settled. let tight = c.is_tight.ensures.1 (IsTight-settled c.args.grown.now settled c.loop-node.node (omega arith)) in cc),
)

pub returns : goal.returns
returns c = (
  (λ yes. IsSettled-tight c.args.grown.now (λ n other within. c.loop-node.invariant n other (search rules))),
  (λ settled. cc),
)

pub returns-else-not-is_tight : goal.returns-else-not-is_tight
returns-else-not-is_tight c = (
  (λ yes. IsSettled-tight c.args.grown.now (λ n other within.
      elim (cases_eq n c.loop-node.node) [
        | inl last ↦ subst (IsTight (state_of_grown c.args.grown.now)) (sym last) (c.is_tight.ensures.0 cc)
        | inr before ↦ c.loop-node.invariant n other (search rules)
      ])),
  (λ settled. cc),
)
