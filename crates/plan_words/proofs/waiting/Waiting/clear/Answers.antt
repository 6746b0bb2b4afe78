use Rattle.plan_words.proofs.Words.{sym, subst, arith, AreMarked}
use Rattle.plan_words.proofs.MarkedNodes.{AreMarked-none}
use Rattle.plan_words.proofs.waiting.Waiting.clear.Goals as goal

pub invariant_of-self : goal.invariant_of-self
invariant_of-self c =
    let marked = c.unmark.new.marked.items in
    record {
      room = omega (arith, c.self.invariant.room, c.clear.ensures.capacity, c.unmark.ensures.as_many);
      marks = subst (λ l. AreMarked l marked) (sym c.clear.ensures.items) (AreMarked-none marked c.unmark.ensures.none);
    }
