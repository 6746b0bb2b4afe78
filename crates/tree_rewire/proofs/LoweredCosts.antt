-- When a cost may be lowered, and when it need not.
use Rattle.tree_rewire.proofs.Words.{◌≡◌, ℕ, ◌+◌, ◌<◌, ◌≤◌, is_some, arith, refl, sym, ap, ◌∙◌, subst, Point, cost_of, IsAllowedEdge, IsPresent, point_of}
use Rattle.tree_rewire.proofs.Words.{point_of-stands, TreeOf, cost_in, parent_in, IsPairIn, IsLawfulView, MayLower, SeesPoint, sees, setup_in, tree_seen, View}
use Rattle.tree_rewire.proofs.Words.{SeesPair, cost_seen, seen_cost_through, parent_seen, IsWithinSeenParent, IsWithinParent}

-- a node may be lowered to less than it was seen to cost, through a seen parent over an allowed edge
pub MayLower-less : (view : View) (n parent cost : ℕ) (at from : Point) → SeesPoint view n at → SeesPair view n → SeesPoint view parent from
    → SeesPair view parent → IsAllowedEdge (setup_in view.run) from at → cost ≡ cost_seen view parent + cost_of from at → cost < cost_seen view n
    → MayLower view n parent cost
MayLower-less view n parent cost at from stands written parent_stands parent_written edge cost_is less = record {
  at = at;
  old_cost = cost_seen view n;
  seen = record { stands = stands; written = written; cost_is = refl };
  below = record {
    from = from;
    parent_cost = cost_seen view parent;
    seen = record { stands = parent_stands; written = parent_written; cost_is = refl };
    edge = edge;
    cost_is = cost_is;
  };
  cheaper = less;
}

-- a node is within its parent if it costs no more than through it, both at the points where they are seen
pub IsWithinParent-below : (view : View) (n parent : ℕ) (at from : Point) → parent_seen view n ≡ parent → SeesPoint view n at → SeesPoint view parent from
    → cost_seen view n ≤ cost_seen view parent + cost_of from at → IsWithinParent view n
IsWithinParent-below view n parent at from own stands parent_stands most = record {
  stands = ap is_some stands;
  parent_stands = subst (λ m. IsPresent (tree_seen view).points m) (sym own) (ap is_some parent_stands);
  most = subst (λ m. cost_seen view n ≤ seen_cost_through view (point_of (tree_seen view).points n) m) (sym own)
      (omega (
        arith,
        most,
        ap (λ q. cost_of q (point_of (tree_seen view).points n)) (point_of-stands (tree_seen view).points parent from parent_stands),
        ap (cost_of from) (point_of-stands (tree_seen view).points n at stands),
      ));
}

-- A node and its parent, as they were seen before their points were loaded.
module _ (before after : View) (n parent kept above grand : ℕ) (here there : Point) (lawful : IsLawfulView after)
    (same : (m : ℕ) → sees after (TreeOf m) ≡ sees before (TreeOf m)) (pair : IsPairIn (sees before (TreeOf n)) (parent, kept))
    (parent_pair : IsPairIn (sees before (TreeOf parent)) (grand, above)) (stands : SeesPoint after n here) (parent_stands : SeesPoint after parent there) where
  parent_is : parent_seen after n ≡ parent
  parent_is = ap parent_in (same n) ∙ sym pair.parent

  kept_is : cost_seen after n ≡ kept
  kept_is = ap cost_in (same n) ∙ sym pair.cost

  above_is : cost_seen after parent ≡ above
  above_is = ap cost_in (same parent) ∙ sym parent_pair.cost

  written : SeesPair after n
  written = omega (arith, same n, pair.written)

  -- it may be lowered if it is cheaper through its parent
  pub MayLower-parent : (cost : ℕ) → cost ≡ above + cost_of there here → cost < kept → MayLower after n parent cost
  MayLower-parent cost cost_is less =
      MayLower-less after n parent cost here there stands written parent_stands (omega (arith, same parent, parent_pair.written))
      ((lawful.pairs n written).edge here there stands (subst (λ m. SeesPoint after m there) (sym parent_is) parent_stands))
      (omega (arith, cost_is, above_is)) (omega (arith, less, kept_is))

  -- and else it is settled
  pub IsWithinSeenParent-parent : kept ≤ above + cost_of there here → IsWithinSeenParent after n
  IsWithinSeenParent-parent most seen =
      IsWithinParent-below after n parent here there parent_is stands parent_stands (omega (arith, most, kept_is, above_is))
