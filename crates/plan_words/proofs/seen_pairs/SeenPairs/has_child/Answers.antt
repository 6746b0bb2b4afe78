use Rattle.plan_words.proofs.Words.{◌≡◌, ap, arith, inl, inr, length, suc, ◌∙◌, cases_eq, ne_eqb, seen_words, sibling_chain_in, siblings_from, times}
use mathlib.Core.Bool.{not}
use Rattle.plan_words.proofs.seen_pairs.SeenPairs.has_child.Goals as goal

pub returns-then-parent-len : goal.returns-then-parent-len
returns-then-parent-len c n own =
    let words = seen_words c.self.inside.nodes c.self.inside.words.items in
    let are = c.first_child.ensures (length c.self.inside.words.items) (sibling_chain_in words) c.self.invariant.index in
    let own_here : sibling_chain_in words n ≡ suc c.args.parent = ap (λ l. sibling_chain_in l n) c.self.view_is ∙ own in
    elim (cases_eq c.first_child.result 0) [
      | inl none ↦ absurd (omega (arith, are.each n own_here, ap (λ i. times (siblings_from c.self.inside.children i) n) none))
      | inr some ↦ ap not (ne_eqb c.first_child.result 0 some)
    ]

-- the chain of no node is one more than the number of a node past the end
pub returns-else-parent-len : goal.returns-else-parent-len
returns-else-parent-len c n own =
    let words = seen_words c.self.inside.nodes c.self.inside.words.items in
    let own_here : sibling_chain_in words n ≡ suc c.args.parent = ap (λ l. sibling_chain_in l n) c.self.view_is ∙ own in
    absurd (omega (arith, own_here, c.self.invariant.index.chained.high n, c.if-parent-len.false, c.len.ensures))
