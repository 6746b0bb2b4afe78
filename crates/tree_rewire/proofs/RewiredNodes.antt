-- Near nodes that were looked at whether they are cheaper below a new one.
use Rattle.tree_rewire.proofs.Words.{◌≡◌, ℕ, suc, ◌+◌, ◌≤◌, true, List, Some, arith, refl, sym, ap, ◌∙◌, subst, All, Contains, IfSome, All-contains, Point}
use Rattle.tree_rewire.proofs.Words.{Clear, ConfigurationSpace, cost_of, IsPresent, point_of, FirstOf, cost_in, cost_in-tree_word, GoesOn, at_hand, if_hand}
use Rattle.tree_rewire.proofs.Words.{IsLawfulView, has_count, has_first, SeesPoint, sees, tree_seen, Hand, Stage, Claimed, Counted, Half, Linked, Pointed}
use Rattle.tree_rewire.proofs.Words.{Posted, Treed, View, HasPlaced, IsInReach, SeesPair, cost_seen}
use Rattle.tree_rewire.proofs.ChosenParents.{points_later}
use Rattle.tree_rewire.proofs.SeenCosts.{SeesPair-later, cost_seen-later}

-- Node n is seen with its cost, and if its edge from p is clear, it costs at most through a node there that costs so much.
pub record IsRewired (space : ConfigurationSpace) (before after : View) (p : Point) (cost n : ℕ) : Type 0 where
  pub pair : SeesPair after n
  pub most : Clear space p (point_of (tree_seen before).points n) → cost_seen after n ≤ cost + cost_of p (point_of (tree_seen before).points n)

-- it is so still
pub IsRewired-later : (space : ConfigurationSpace) (before mid after : View) (p : Point) (cost n : ℕ) → GoesOn mid after
    → IsRewired space before mid p cost n → IsRewired space before after p cost n
IsRewired-later space before mid after p cost n goes_on h = record {
  pair = SeesPair-later mid after goes_on n h.pair;
  most = λ clear. omega (arith, h.most clear, cost_seen-later mid after goes_on n h.pair);
}

-- one that was looked at is, also by what was seen before
pub IsRewired-looked : (space : ConfigurationSpace) (before mid after : View) (p : Point) (parent n : ℕ) → GoesOn before mid
    → IsPresent (tree_seen before).points n → SeesPair before parent → SeesPair after n
    → (Clear space p (point_of (tree_seen mid).points n) → cost_seen after n ≤ cost_seen mid parent + cost_of p (point_of (tree_seen mid).points n))
    → IsRewired space before after p (cost_seen before parent) n
IsRewired-looked space before mid after p parent n goes_on present parent_pair pair most =
    let same = points_later before mid n goes_on present in
    record {
      pair = pair;
      most = λ clear.
          omega (
            arith,
            most (subst (Clear space p) (sym same) clear),
            ap (cost_of p) same,
            cost_seen-later before mid goes_on parent parent_pair,
          );
    }

-- ---- the new node

-- a counted node has its first word
first-count : (stage : Stage) → has_count stage ≡ true → has_first stage ≡ true
first-count Claimed e = cc
first-count Pointed e = cc
first-count Half e = cc
first-count Treed e = cc
first-count Linked e = cc
first-count Counted e = refl
first-count Posted e = refl

-- The node of mark k is placed, and its point is read.
module _ (view : View) (k : ℕ) (from : Point) (hand : Hand) (hand_is : view.hand ≡ Some hand) (placed : IfSome view.hand (HasPlaced view k))
    (from_is : IfSome view.hand (λ h. from ≡ h.point)) where
  own : HasPlaced view k hand
  own = at_hand (HasPlaced view k) view.hand hand hand_is placed

  point_is : from ≡ hand.point
  point_is = at_hand (λ h. from ≡ h.point) view.hand hand hand_is from_is

  next : suc k ≡ k + 1
  next = omega arith

  pub placed_stands : SeesPoint view (k + 1) from
  placed_stands = subst (λ n. SeesPoint view n from) next (subst (SeesPoint view (suc k)) (sym point_is) own.stands)

  pub placed_pair : SeesPair view (k + 1)
  placed_pair = subst (SeesPair view) next own.pair

  pub placed_near : (near : List ℕ) → IfSome view.hand (λ h. All (IsInReach view h.point) near) → All (IsInReach view from) near
  placed_near near all =
      subst (λ p. All (IsInReach view p) near) (sym point_is) (at_hand (λ h. All (IsInReach view h.point) near) view.hand hand hand_is all)

  -- it costs at most what it was placed at
  pub placed_cost : IsLawfulView view → cost_seen view (k + 1) ≤ hand.cost
  placed_cost lawful =
      let far : has_first hand.stage ≡ true = first-count hand.stage own.counted in
      let fits = lawful.pair_fits hand hand_is far in
      let first : cost_in (sees view (FirstOf (suc k))) ≡ hand.cost =
      ap cost_in own.first ∙ cost_in-tree_word hand.parent hand.cost fits.0 fits.1 in
      omega (arith, (lawful.pairs (suc k) own.pair).first (omega (arith, own.first)), first, ap (cost_seen view) next)

  -- so each near node with a clear edge costs at most what it does through the new one at that cost
  pub all_rewired : (space : ConfigurationSpace) (after : View) (near : List ℕ) → IsLawfulView view
      → All (IsRewired space view after from (cost_seen view (k + 1))) near
      → IfSome view.hand (λ h. (i : ℕ) → Contains near i → Clear space h.point (point_of (tree_seen view).points i)
      → cost_seen after i ≤ h.cost + cost_of h.point (point_of (tree_seen view).points i))
  all_rewired space after near lawful all =
      if_hand
      (λ h. (i : ℕ) → Contains near i → Clear space h.point (point_of (tree_seen view).points i)
      → cost_seen after i ≤ h.cost + cost_of h.point (point_of (tree_seen view).points i))
      view.hand hand hand_is
      (λ i on clear.
      omega (
        arith,
        (All-contains (IsRewired space view after from (cost_seen view (k + 1))) near i all on).most
            (subst (λ p. Clear space p (point_of (tree_seen view).points i)) (sym point_is) clear),
        placed_cost lawful,
        ap (λ p. cost_of p (point_of (tree_seen view).points i)) point_is,
      ))
