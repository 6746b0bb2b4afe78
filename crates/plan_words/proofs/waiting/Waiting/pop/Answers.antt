use Rattle.plan_words.proofs.Words.{false, subst, arith, length-set, AreMarked}
use Rattle.plan_words.proofs.MarkedNodes.{AreMarked-pop}
use Rattle.plan_words.proofs.waiting.Waiting.pop.Goals as goal

pub invariant_of-self-2 : goal.invariant_of-self-2
invariant_of-self-2 c =
    let marked = c.self.inside.marked.items in
    let node = c.in_ok-node.node in
    let popped = AreMarked-pop c.pop.new.self.items marked node (subst (λ l. AreMarked l marked) c.in_ok-node.ensures.items c.self.invariant.marks) in
    record {
      room = omega (arith, c.self.invariant.room, c.in_ok-node.ensures.capacity, length-set marked node false);
      marks = popped.0;
    }
