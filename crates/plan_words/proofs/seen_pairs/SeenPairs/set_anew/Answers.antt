use Rattle.plan_words.proofs.Words.{length, sym, ap, ◌∙◌, arith, slice_set, vec_capacity, chain_of, seen_words, sibling_chain_in}
use Rattle.std.proofs.lemmas.Grind.{common_steps}
use Rattle.plan_words.proofs.SeenLists.{StandFor, StandFor-reached, StandFor-set, needed-within}
use Rattle.plan_words.proofs.seen_pairs.SeenPairs.set_anew.Goals as goal

pub reach-requires : goal.reach-requires
reach-requires c = (
  c.self.inside.nodes,
  needed-within _ _ c.args.node c.args.word _ _ _ c.self.invariant.within c.self.view_is c.requires.node c.requires.parent c.chain_of-chain.ensures
      c.max.ensures,
  c.self.invariant,
)

-- the longer lists stand for the same words
stand : (c : goal.After-chain_of) → StandFor c.self.inside.nodes c.args.self.now c.reach.new.words.items (vec_capacity c.reach.new.words) c.reach.new.children
stand c =
    StandFor-reached _ _ _ _ _ _ _ _ _
    (needed-within _ _ c.args.node c.args.word _ _ _ c.self.invariant.within c.self.view_is c.requires.node c.requires.parent c.chain_of-chain.ensures
    c.max.ensures) c.self.view_is c.self.invariant c.reach.ensures

pub relink-requires-clause-here : goal.relink-requires-clause-here
relink-requires-clause-here c = record {
  nodes = length c.reach.new.words.items;
  chain = sibling_chain_in (seen_words c.self.inside.nodes c.reach.new.words.items);
  chains = (stand c).first.index;
  here =
      ap (λ l. sibling_chain_in l c.args.node) (stand c).same
      ∙ sym (c.chain_of.ensures ∙ ap (chain_of c.args.node) c.word-before.ensures);
  low = omega (arith, c.reach.ensures.long, c.max.ensures);
}

-- and then for those with this word
stand_set :
    (c : goal.After-self-1)
    → StandFor c.self.inside.nodes (slice_set c.args.self.now c.args.node c.args.word) (slice_set c.reach.new.words.items c.args.node c.args.word)
    c.reach.new.words.cap c.relink.new.self
stand_set c =
    StandFor-set _ _ _ _ c.reach.new.children _ _ _ c.chain_of.result c.chain_of-chain.result
    (StandFor-reached _ _ _ _ _ _ _ _ _
    (needed-within _ _ c.args.node c.args.word _ _ _ c.self.invariant.within c.self.view_is c.requires.node c.requires.parent c.chain_of-chain.ensures
    c.max.ensures) c.self.view_is c.self.invariant c.reach.ensures)
    (omega (arith, c.reach.ensures.long, c.max.ensures))
    (c.chain_of.ensures ∙ ap (chain_of c.args.node) c.word-before.ensures) c.chain_of-chain.ensures c.relink.ensures.moves c.relink.ensures.room

pub invariant_of-self : goal.invariant_of-self
invariant_of-self c = (stand_set c).first

pub returns : goal.returns
returns c = (stand_set c).same

pub overflow_add-node : goal.overflow_add-node
overflow_add-node c = grind (arith, common_steps)

pub relink-requires-clause-parent : goal.relink-requires-clause-parent
relink-requires-clause-parent c = grind (arith, common_steps)
