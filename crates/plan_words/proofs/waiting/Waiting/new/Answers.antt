use Rattle.plan_words.proofs.Words.{rules, ◌≡◌, false, replicate, sym, subst, arith, AreMarked, NoneMarked}
use Rattle.plan_words.proofs.MarkedNodes.{AreMarked-none, NoneMarked-start}
use Rattle.plan_words.proofs.waiting.Waiting.new.Goals as goal

pub invariant_of-result : goal.invariant_of-result
invariant_of-result c =
    let nodes = c.args.nodes in
    let marked = c.in_ok-from_elem.field-0.items in
    let is : marked ≡ replicate nodes false = c.in_ok-from_elem.ensures.items_if_clones_equal (search rules) in
    record {
      room = omega (arith, c.in_ok-with_capacity.ensures.capacity, c.in_ok-from_elem.ensures.len);
      marks = subst (λ l. AreMarked l marked) (sym c.in_ok-with_capacity.ensures.items)
          (AreMarked-none marked (subst NoneMarked (sym is) (NoneMarked-start nodes)));
    }
