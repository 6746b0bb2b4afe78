use Rattle.plan_words.proofs.Words.{◌≡◌, ◌⊎◌, ap, arith, inr, length, subst, sym, HasSeenParent, IsOn}
use Rattle.plan_words.proofs.SeenChildren.{HasFirstPairs-all, chain-HasSeenParent}
use Rattle.plan_words.proofs.passes.Pass.queue_parent.Goals as goal

pub returns-then-has_child-clause-only : goal.returns-then-has_child-clause-only
returns-then-has_child-clause-only c n on = subst (λ p. IsOn p.lists.waiting n ⊎ (n ≡ c.args.node)) c.self.view_is (c.push.ensures.only n on)

pub returns-else-has_child-clause-parent : goal.returns-else-has_child-clause-parent
returns-else-has_child-clause-parent c n own =
    let chain = chain-HasSeenParent _ _ c.args.node n (HasFirstPairs-all _ _ c.self.invariant.3)
    (subst (λ p. HasSeenParent p.view c.args.node n) (sym c.self.view_is) own) in
    absurd (let yes = c.has_child.ensures n chain in cc)

pub returns-then-has_child-clause-few : goal.returns-then-has_child-clause-few
returns-then-has_child-clause-few c =
    inr (omega (
      arith,
      c.push.ensures.few,
      c.self.invariant.2.waiting,
      ap (λ p. length p.view.run.marks) c.self.view_is,
    ))
