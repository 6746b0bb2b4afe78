use Rattle.tree_rewire.proofs.Words.{◌≤◌, inl, inr, subst, sym, point_of, tree_seen, CostsLess, SeesPair, cost_seen, seen_cost_through}
use Rattle.tree_rewire.proofs.fall_laws.falls_reach_children.Goals as goal

pub returns-clause-fallen : goal.returns-clause-fallen
returns-clause-fallen k = λ space near node n before after spreads pair parent_pair fell below.
    elim (spreads n record { pair = pair; parent_pair = parent_pair; fell = inl fell }) [
      | inl within ↦ within.most
      | inr lost ↦ absurd (lost.elsewhere (below lost.listed lost.shortcut))
    ]

pub returns-clause-child : goal.returns-clause-child
returns-clause-child k = λ space near node n c before after spreads pair pair_c is fell apart.
    subst (λ m. cost_seen after c ≤ seen_cost_through after (point_of (tree_seen after).points c) m) is
    (elim (spreads c record {
      pair = pair_c;
      parent_pair = subst (SeesPair before) (sym is) pair;
      fell = inr (subst (CostsLess before after) (sym is) fell);
    }) [
      | inl within ↦ within.most
      | inr lost ↦ absurd (apart lost.listed)
    ])
