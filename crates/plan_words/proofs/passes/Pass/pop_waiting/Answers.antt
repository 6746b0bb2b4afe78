use Rattle.plan_words.proofs.Words.{length, sym, ap, ◌∙◌, subst, arith, IfSome_then, IsOn}
use Rattle.plan_words.proofs.MarkedNodes.{IsOn-before, IsOn-popped, IsOn-unless_popped, shorter-popped}
use Rattle.plan_words.proofs.passes.Pass.pop_waiting.Goals as goal

pub returns-clause-popped : goal.returns-clause-popped
returns-clause-popped c = sym (ap (λ p. p.lists.waiting) c.self.view_is) ∙ c.pop.ensures.popped

pub returns-clause-low : goal.returns-clause-low
returns-clause-low c =
    IfSome_then c.pop.result c.pop.ensures.low
    (λ n low. omega (arith, low, c.self.invariant.2.waiting, ap (λ p. length p.view.run.marks) c.self.view_is))

pub returns-clause-was_on : goal.returns-clause-was_on
returns-clause-was_on c = IsOn-popped _ c.pop.new.self.nodes c.pop.result (returns-clause-popped c)

pub returns-clause-keeps : goal.returns-clause-keeps
returns-clause-keeps c = IsOn-unless_popped _ c.pop.new.self.nodes c.pop.result (returns-clause-popped c)

pub returns-clause-only : goal.returns-clause-only
returns-clause-only c n on =
    subst (λ p. IsOn p.lists.waiting n) c.self.view_is (subst (λ l. IsOn l n) (sym c.pop.ensures.popped) (IsOn-before c.pop.new.self.nodes _ n on))

pub returns-clause-shorter : goal.returns-clause-shorter
returns-clause-shorter c = shorter-popped _ c.pop.new.self.nodes c.pop.result (returns-clause-popped c)
