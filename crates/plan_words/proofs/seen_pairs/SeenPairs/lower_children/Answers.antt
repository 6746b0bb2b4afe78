use Rattle.plan_words.proofs.Words.{◌≡◌, ◌+◌, ◌≤◌, length, ap, arith, subst, sym, ◌∙◌, IfSome_then, seen_words, sibling_chain_in, HasPairs, IndexesChains}
use Rattle.plan_words.proofs.Words.{IsIndex-same}
use Rattle.plan_words.proofs.Claiming.{IfNone-then}
use Rattle.plan_words.proofs.FirstPairs.{HasFirstPairs-seen, HasPairs-first, HasPairs-first_set, chain-seen}
use Rattle.plan_words.proofs.SeenLists.{length-seen}
use Rattle.plan_words.proofs.seen_pairs.SeenPairs.lower_children.Goals as goal
use Rattle.plan_words.proofs.seen_pairs.SeenPairs.lower_children.Goals.{After-lower_chain, After-self}

pub lower_chain-requires-clause-index : goal.lower_chain-requires-clause-index
lower_chain-requires-clause-index c =
    let words = c.self.inside.words.items in
    IsIndex-same (length words) (sibling_chain_in (seen_words c.self.inside.nodes words)) (sibling_chain_in words) _ _ _ c.self.invariant.index
    (λ n. sym (chain-seen c.self.inside.nodes words n))

-- there is a word for each node
all_before : (c : After-self) → length c.args.self.now ≡ c.self.inside.nodes
all_before c = sym (ap (λ l. length l) c.self.view_is) ∙ length-seen c.self.inside.nodes c.self.inside.words.items c.self.invariant.within

pub lower_chain-requires-clause-size : goal.lower_chain-requires-clause-size
lower_chain-requires-clause-size c =
    omega (arith, all_before (goal.at.lower_chain-requires-clause-size c).After-self, c.self.invariant.within, c.requires.size)

pub lower_chain-requires-clause-pairs : goal.lower_chain-requires-clause-pairs
lower_chain-requires-clause-pairs c =
    HasFirstPairs-seen c.args.seat.now.me.0 c.self.inside.nodes c.self.inside.words.items c.self.invariant.within
    (subst (HasPairs c.args.seat.now.me.0) (sym c.self.view_is) c.requires.pairs)

pub invariant_of-self : goal.invariant_of-self
invariant_of-self c =
    let nodes = c.self.inside.nodes in
    let was = c.self.inside.words.items in
    let words = c.lower_chain.new.words.items in
    let kept = c.lower_chain.ensures in
    record {
      within = omega (arith, kept.as_many, c.self.invariant.within);
      room = omega (arith, kept.capacity, c.self.invariant.room);
      children_room = c.self.invariant.children_room;
      index =
          subst (λ n. IndexesChains n (sibling_chain_in (seen_words nodes words)) c.self.inside.children) (sym kept.as_many)
          (IsIndex-same (length was) (sibling_chain_in (seen_words nodes was)) (sibling_chain_in (seen_words nodes words)) _ _ _ c.self.invariant.index
          (λ n. chain-seen nodes words n ∙ kept.chains n ∙ sym (chain-seen nodes was n)));
    }

-- there is a word for each node still
all : (c : After-lower_chain) → c.self.inside.nodes ≡ length c.lower_chain.new.seat.me.0.run.marks + 1
all c =
    omega (
      arith,
      length-seen c.self.inside.nodes c.self.inside.words.items c.self.invariant.within,
      ap (λ l. length l) c.self.view_is,
      c.requires.pairs.for_each,
      ap (λ r. length r.marks) c.lower_chain.ensures.looks.goes_on.later.run,
    )

within : (c : After-lower_chain) → length c.lower_chain.new.words.items ≤ c.self.inside.nodes
within c = omega (arith, c.lower_chain.ensures.as_many, c.self.invariant.within)

pub returns-clause-pairs : goal.returns-clause-pairs
returns-clause-pairs c =
    let at = (goal.at.returns-clause-pairs c).After-lower_chain in
    IfNone-then c.lower_chain.result c.lower_chain.ensures.pairs
    (HasPairs-first c.lower_chain.new.seat.me.0 c.self.inside.nodes c.lower_chain.new.words.items (within at) (all at))

pub returns-clause-pairs_found : goal.returns-clause-pairs_found
returns-clause-pairs_found c =
    let at = (goal.at.returns-clause-pairs_found c).After-lower_chain in
    IfSome_then c.lower_chain.result c.lower_chain.ensures.pairs_found
    (λ found has.
    HasPairs-first_set c.lower_chain.new.seat.me.0 c.self.inside.nodes c.lower_chain.new.words.items found.node found.word (within at) (all at)
    (omega (arith, has.0, c.lower_chain.ensures.as_many)) has.1)

pub returns-clause-as_many : goal.returns-clause-as_many
returns-clause-as_many c =
    let at = goal.at.returns-clause-as_many c in
    length-seen c.self.inside.nodes c.lower_chain.new.words.items (within at.After-lower_chain) ∙ sym (all_before at.After-self)
