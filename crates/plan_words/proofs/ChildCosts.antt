-- A child costs at most what it costs through its parent, or it may be lowered to that.
use Rattle.plan_words.proofs.Words.{◌≡◌, ◌≢◌, ℕ, ◌+◌, ◌<◌, ◌≤◌, ◌^◌, refl, sym, ap, ◌∙◌, subst, arith, Point, cost_of, TreeOf, cost_in, parent_in, tree_word}
use Rattle.plan_words.proofs.Words.{cost_in-tree_word, parent_in-tree_word, CostsAtMostThrough, IsSeenAbove, LooksOn, GoesOn, HasSeenParent, Above}
use Rattle.plan_words.proofs.Words.{IsLawfulView, IsCostBelow, MayLower, SeesPoint, sees, SeesPoint-later, View}
use Rattle.plan_words.proofs.KeptPairs.{fits_word}

-- a point that is seen stays
pub stands_on : (before after : View) (n : ℕ) (p : Point) → GoesOn before after → SeesPoint before n p → SeesPoint after n p
stands_on before after n p goes_on = SeesPoint-later before after goes_on.later.run goes_on.later.seen n p

-- and so does a child whose word is seen as before
pub HasSeenParent-kept : (before after : View) (m n : ℕ) → sees after (TreeOf n) ≡ sees before (TreeOf n) → HasSeenParent before m n → HasSeenParent after m n
HasSeenParent-kept before after m n same own = record {
  child = own.child;
  written = omega (arith, same, own.written);
  parent = ap parent_in same ∙ own.parent;
}

-- if neither word is seen anew, its cost stays at most what it is through the other
pub CostsAtMostThrough-kept : (before after : View) (m n : ℕ) → GoesOn before after → sees after (TreeOf n) ≡ sees before (TreeOf n)
    → sees after (TreeOf m) ≡ sees before (TreeOf m) → CostsAtMostThrough before m n → CostsAtMostThrough after m n
CostsAtMostThrough-kept before after m n goes_on same level h = record {
  from = h.from;
  at = h.at;
  above_stands = stands_on before after m h.from goes_on h.above_stands;
  stands = stands_on before after n h.at goes_on h.stands;
  most = omega (arith, h.most, ap cost_in same, ap cost_in level);
}

-- the node above stays, while its word does
pub IsSeenAbove-kept : (before after : View) (above : Above) → GoesOn before after → sees after (TreeOf above.node) ≡ sees before (TreeOf above.node)
    → IsSeenAbove before above → IsSeenAbove after above
IsSeenAbove-kept before after above goes_on same h = record {
  stands = stands_on before after above.node above.point goes_on h.stands;
  bounded = h.bounded;
  written = omega (arith, same, h.written);
  cost = h.cost ∙ ap cost_in (sym same);
}

-- a child is another node than its parent
pub apart_above : (view : View) (m n : ℕ) → IsLawfulView view → HasSeenParent view m n → m ≢ n
apart_above view m n lawful own e = (lawful.pairs n own.written).other own.child (own.parent ∙ e)

-- ---- the point of a child was loaded

-- The node above and its child n are seen, and the point of the child was loaded; that is where it stands.
pub record LooksAtChild (before mid : View) (above : Above) (n : ℕ) (at : Point) : Type 0 where
  pub looks : LooksOn before mid
  pub same : (m : ℕ) → sees mid (TreeOf m) ≡ sees before (TreeOf m)
  pub above_seen : IsSeenAbove before above
  pub own : HasSeenParent before above.node n
  pub stands : SeesPoint mid n at

module _ (before mid : View) (above : Above) (n : ℕ) (at : Point) (child : LooksAtChild before mid above n at) where
  above_mid : IsSeenAbove mid above
  above_mid = IsSeenAbove-kept before mid above child.looks.goes_on (child.same above.node) child.above_seen

  pub own_mid : HasSeenParent mid above.node n
  own_mid = HasSeenParent-kept before mid above.node n (child.same n) child.own

  pub CostsAtMostThrough-looked : cost_in (sees before (TreeOf n)) ≤ above.cost + cost_of above.point at → CostsAtMostThrough mid above.node n
  CostsAtMostThrough-looked most = record {
    from = above.point;
    at = at;
    above_stands = above_mid.stands;
    stands = child.stands;
    most = omega (arith, most, ap cost_in (child.same n), above_mid.cost);
  }

  -- it may be lowered if it is cheaper so
  module _ (cost : ℕ) (cost_is : cost ≡ above.cost + cost_of above.point at) where
    below_parent : IsCostBelow mid at above.node cost
    below_parent = record {
      from = above.point;
      parent_cost = above.cost;
      seen = record { stands = above_mid.stands; written = above_mid.written; cost_is = above_mid.cost };
      edge = (child.looks.goes_on.lawful.pairs n own_mid.written).edge at above.point child.stands
          (subst (λ m. SeesPoint mid m above.point) (sym own_mid.parent) above_mid.stands);
      cost_is = cost_is;
    }

    pub MayLower-child : cost < cost_in (sees before (TreeOf n)) → MayLower mid n above.node cost
    MayLower-child less = record {
      at = at;
      old_cost = cost_in (sees mid (TreeOf n));
      seen = record { stands = child.stands; written = own_mid.written; cost_is = refl };
      below = below_parent;
      cheaper = omega (arith, less, ap cost_in (child.same n));
    }

    fits : (above.node < 2 ^ 18) × (cost < 2 ^ 44)
    fits = fits_word mid at above.node cost child.looks.goes_on.lawful below_parent

    pub cost-lowered : cost_in (tree_word above.node cost) ≡ cost
    cost-lowered = cost_in-tree_word above.node cost fits.0 fits.1

    -- and then it is a child still, at that cost
    module _ (after : View) (goes_on : GoesOn mid after) (here : sees after (TreeOf n) ≡ tree_word above.node cost)
        (others : (m : ℕ) → m ≢ n → sees after (TreeOf m) ≡ sees mid (TreeOf m)) where
      pub HasSeenParent-lowered : HasSeenParent after above.node n
      HasSeenParent-lowered = record {
        child = child.own.child;
        written = omega (arith, here);
        parent = ap parent_in here ∙ parent_in-tree_word above.node cost fits.0;
      }

      pub CostsAtMostThrough-lowered : CostsAtMostThrough after above.node n
      CostsAtMostThrough-lowered =
          let level = others above.node (apart_above before above.node n child.looks.goes_on.was_lawful child.own) in
          record {
            from = above.point;
            at = at;
            above_stands = stands_on mid after above.node above.point goes_on above_mid.stands;
            stands = stands_on mid after n at goes_on child.stands;
            most = omega (arith, ap cost_in here, cost-lowered, cost_is, above_mid.cost, ap cost_in level);
          }
