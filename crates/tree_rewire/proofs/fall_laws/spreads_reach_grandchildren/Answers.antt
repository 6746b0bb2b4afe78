use Rattle.tree_rewire.proofs.Words.{◌≡◌, ℕ, ◌<◌, ◌≤◌, arith, inl, inr, subst, sym, point_of, tree_seen, View, cost_seen, seen_cost_through}
use Rattle.tree_rewire.proofs.fall_laws.spreads_reach_grandchildren.Goals as goal

-- what a node costs through its parent, by the parent's name
within : (after : View) (c parent named : ℕ) → parent ≡ named → cost_seen after c ≤ seen_cost_through after (point_of (tree_seen after).points c) parent
    → cost_seen after c ≤ seen_cost_through after (point_of (tree_seen after).points c) named
within after c parent named same most =
    subst (λ m. cost_seen after c ≤ seen_cost_through after (point_of (tree_seen after).points c) m) same most

pub returns-clause-child : goal.returns-clause-child
returns-clause-child k = λ node c before after spreads pair is.
    within after c _ node is (spreads c pair (inl is)).most

pub returns-clause-grandchild : goal.returns-clause-grandchild
returns-clause-grandchild k = λ node b c before after spreads pair_b pair_c is_b is_c fell.
    let one = within after b _ node is_b (spreads b pair_b (inl is_b)).most in
    let other = within after c _ b is_c (spreads c pair_c (inr (subst (λ m. cost_seen after m < cost_seen before m) (sym is_c) fell))).most in
    omega (arith, one, other)
