use Rattle.plan_words.proofs.Words.{◌≡◌, length, vec_capacity, SitsAt, siblings_from}
use Rattle.plan_words.proofs.LoweredChains.{IsLowering}
use Rattle.plan_words.proofs.lowered_children.lower_chain.Given as goal

abbrev pub invariant-children : goal.invariant-children
invariant-children l = record {
  sits : SitsAt l.from.shared.now l.seat.table_id l.seat.me;
  held : l.hand ≡ l.seat.me.0.hand;
  capacity : vec_capacity l.words ≡ vec_capacity l.fn.words;
  lowering :
      IsLowering l.children l.from.above.node l.fn.seat.me.0 l.seat.me.0 l.fn.words.items l.words.items l.fn.waiting.nodes l.waiting.nodes
      l.fn.waiting.size l.child;
  kept : l.waiting ≡ record l.fn.waiting { nodes = l.waiting.nodes };
}

abbrev pub decreases-children : goal.decreases-children
decreases-children l = length (siblings_from l.children l.child)
