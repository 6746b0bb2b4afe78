-- A node is added to a tree with kept costs: the tree keeps the order law, and grows.
use Rattle.plan_model.proofs.Words.{◌≡◌, ℕ, suc, ◌+◌, ◌≤◌, Some, arith, sym, ap, ◌∙◌, subst, inl, inr, ◌≢◌, ◌⊎◌, is_some, cases_eq, Point, Record, cost_of}
use Rattle.plan_model.proofs.Words.{point_at, StandsAt, IsPresent, point_of, IsFree, node_count, TreeState, first_cost_of, GrowsInto, Hangs, HangsBelow}
use Rattle.plan_model.proofs.Words.{most_cost_of, KeepsOrder, KeepsFirstCosts, Setup}
use Rattle.plan_model.proofs.NewNodes.{IsPresent-stands, StandsAt-present, AreDistinct-one_more}
use Rattle.plan_model.proofs.NodeCounts.{node_count-one_more}
use Rattle.plan_model.proofs.OrderLaws.{most_cost_of-le, Hangs-later, Hangs-grows, HangsBelow-at, start-present}

-- all present nodes keep their points, parents, costs and first costs, and all records stand
pub record KeepsPresent (before after : TreeState) : Type 0 where
  pub parents : (i : ℕ) → IsPresent before.points i → after.parent i ≡ before.parent i
  pub costs : (i : ℕ) → IsPresent before.points i → after.cost i ≡ before.cost i
  pub first_costs : (i : ℕ) → IsPresent before.points i → first_cost_of after i ≡ first_cost_of before i
  pub records : (k : ℕ) (entry : Record) → before.record_of k ≡ Some entry → after.record_of k ≡ Some entry

-- Node n is added at p, a free point, where it may hang below node f at its cost, which is within the bound.
pub record AddsNode (setup : Setup) (before after : TreeState) (n f : ℕ) (p : Point) : Type 0 where
  pub kept : KeepsPresent before after
  pub elsewhere : (i : ℕ) → i ≢ n → point_at after.points i ≡ point_at before.points i
  pub absent : ¬ IsPresent before.points n
  pub stands : StandsAt after.points n p
  pub free : IsFree before.points p
  pub parent : after.parent n ≡ f
  pub hangs : Hangs setup before n p f (after.cost n)
  pub within : after.cost n ≤ most_cost_of setup (suc (node_count before.points))
  pub first_cost : first_cost_of after n ≡ after.cost n

module _ (setup : Setup) (before after : TreeState) (n f : ℕ) (p : Point) (change : AddsNode setup before after n f p) where
  present_apart : (i : ℕ) → IsPresent before.points i → i ≢ n
  present_apart i h e = change.absent (subst (IsPresent before.points) e h)

  still_at : (i : ℕ) → IsPresent before.points i → point_at after.points i ≡ point_at before.points i
  still_at i h = change.elsewhere i (present_apart i h)

  still_stands : (i : ℕ) → IsPresent before.points i → StandsAt after.points i (point_of before.points i)
  still_stands i h = still_at i h ∙ StandsAt-present before.points i h

  new_or_present : (i : ℕ) → IsPresent after.points i → (i ≡ n) ⊎ IsPresent before.points i
  new_or_present i h = elim (cases_eq i n) [ inl e ↦ inl e | inr apart ↦ inr (ap is_some (sym (change.elsewhere i apart)) ∙ h) ]

  -- there is one node more
  pub node_count-adds : node_count after.points ≡ suc (node_count before.points)
  node_count-adds =
      node_count-one_more before.points after.points n change.absent (IsPresent-stands after.points n p change.stands) change.elsewhere

  -- the tree grows
  pub GrowsInto-adds : GrowsInto before after
  GrowsInto-adds = record {
    nodes = λ i q h. still_at i (IsPresent-stands before.points i q h) ∙ h;
    first_costs = change.kept.first_costs;
    trees = λ i h. inl (change.kept.costs i h, change.kept.parents i h);
    records = change.kept.records;
  }

  -- the new node hangs below its parent
  new_hangs : HangsBelow setup after n
  new_hangs =
      HangsBelow-at setup after n p f change.stands change.parent
      (Hangs-grows setup before after GrowsInto-adds n p f (after.cost n) change.hangs)

  -- and the others as before
  old_hangs : (i : ℕ) → IsPresent before.points i → HangsBelow setup before i → HangsBelow setup after i
  old_hangs i h old =
      let m : ℕ = before.parent i in
      let p : Point = point_of before.points i in
      let enough : after.cost m + cost_of (point_of before.points m) p ≤ after.cost i =
      omega (arith, change.kept.costs i h, change.kept.costs m old.present, old.above) in
      HangsBelow-at setup after i p m (still_stands i h) (change.kept.parents i h)
      (Hangs-later setup before after i p m (before.cost i) (after.cost i) (still_stands m old.present) enough old)

  -- the bound of the longer tree is no less
  bound_rises : most_cost_of setup (node_count before.points) ≤ most_cost_of setup (node_count after.points)
  bound_rises = most_cost_of-le setup (node_count before.points) (node_count after.points) (omega (arith, node_count-adds))

  new_within : after.cost n ≤ most_cost_of setup (node_count after.points)
  new_within = omega (arith, change.within, ap (most_cost_of setup) node_count-adds)

  -- the order law stays
  pub KeepsOrder-adds : KeepsOrder setup before → KeepsOrder setup after
  KeepsOrder-adds order = record {
    distinct = AreDistinct-one_more before.points after.points n p change.stands change.elsewhere change.free order.distinct;
    start_stands = still_at 0 (start-present setup before order) ∙ order.start_stands;
    start_clear = order.start_clear;
    start_parent = change.kept.parents 0 (start-present setup before order) ∙ order.start_parent;
    start_cost = change.kept.costs 0 (start-present setup before order) ∙ order.start_cost;
    hangs = λ i h.
        elim (new_or_present (suc i) h) [
          | inl e ↦ subst (HangsBelow setup after) (sym e) new_hangs
          | inr was ↦ old_hangs (suc i) was (order.hangs i was)
        ];
    bounded = λ i h.
        elim (new_or_present i h) [
          | inl e ↦ omega (arith, ap after.cost e, new_within)
          | inr was ↦ omega (arith, change.kept.costs i was, order.bounded i was, bound_rises)
        ];
  }

  -- and no node costs more than it was placed at
  pub KeepsFirstCosts-adds : KeepsFirstCosts setup before → KeepsFirstCosts setup after
  KeepsFirstCosts-adds firsts = record {
    kept = λ i h.
        elim (new_or_present i h) [
          | inl e ↦ omega (arith, ap after.cost e, ap (first_cost_of after) e, change.first_cost)
          | inr was ↦ omega (arith, change.kept.costs i was, change.kept.first_costs i was, firsts.kept i was)
        ];
    bounded = λ i h.
        elim (new_or_present i h) [
          | inl e ↦ omega (arith, ap (first_cost_of after) e, change.first_cost, new_within)
          | inr was ↦ omega (arith, change.kept.first_costs i was, firsts.bounded i was, bound_rises)
        ];
  }
