-- Costs that fall while all nodes stay where they are, as in rewiring: the tree keeps the order law, and grows.
use Rattle.plan_model.proofs.Words.{◌≡◌, ℕ, zero, suc, ◌+◌, ◌<◌, ◌≤◌, Some, None, arith, refl, sym, ap, ◌∙◌, subst, inl, inr, ◌≢◌, ◌⊎◌, is_some, cases_eq}
use Rattle.plan_model.proofs.Words.{cases_lt, Point, Record, cost_of, point_at, StandsAt, IsPresent, point_of, node_count, TreeState, recorded_or}
use Rattle.plan_model.proofs.Words.{first_cost_of, KeepsOrFalls, GrowsInto, Hangs, HangsBelow, most_cost_of, KeepsOrder, KeepsFirstCosts, Setup}
use Rattle.plan_model.proofs.NewNodes.{StandsAt-present}
use Rattle.plan_model.proofs.NodeCounts.{node_count-same}
use Rattle.plan_model.proofs.OrderLaws.{Hangs-later, HangsBelow-at, start-present}

-- all nodes stay where they are with their first costs, and all records stand
pub record StandsStill (before after : TreeState) : Type 0 where
  pub points : (n : ℕ) → point_at after.points n ≡ point_at before.points n
  pub first_costs : (n : ℕ) → IsPresent before.points n → first_cost_of after n ≡ first_cost_of before n
  pub records : (k : ℕ) (entry : Record) → before.record_of k ≡ Some entry → after.record_of k ≡ Some entry

-- node n keeps its parent, and its cost falls by no more than its parent's
pub record FallsWithParent (before after : TreeState) (n : ℕ) : Type 0 where
  pub parent : after.parent n ≡ before.parent n
  pub falls : before.cost n + after.cost (before.parent n) ≤ after.cost n + before.cost (before.parent n)

-- node n costs strictly less, and hangs below the parent that it then has
pub record HangsCheaper (setup : Setup) (before after : TreeState) (n : ℕ) : Type 0 where
  pub hangs : HangsBelow setup after n
  pub cheaper : after.cost n < before.cost n

-- No node moves and no cost rises, and each node but the start falls with its parent or hangs cheaper than before.
pub record LowersCosts (setup : Setup) (before after : TreeState) : Type 0 where
  pub still : StandsStill before after
  pub start : after.parent 0 ≡ before.parent 0
  pub none_rises : (n : ℕ) → IsPresent before.points n → after.cost n ≤ before.cost n
  pub nodes : (n : ℕ) → IsPresent before.points (suc n) → FallsWithParent before after (suc n) ⊎ HangsCheaper setup before after (suc n)

-- where no node moves and no cost rises, a node hangs below its parent if it might have before, at its new cost
pub HangsBelow-still :
    (setup : Setup) (before after : TreeState) → StandsStill before after
    → ((m : ℕ) → IsPresent before.points m → after.cost m ≤ before.cost m)
    → (n parent : ℕ) → IsPresent before.points n → after.parent n ≡ parent
    → Hangs setup before n (point_of before.points n) parent (after.cost n) → HangsBelow setup after n
HangsBelow-still setup before after still none_rises n parent here e h =
    let p : Point = point_of before.points n in
    let there = still.points parent ∙ StandsAt-present before.points parent h.present in
    let enough : after.cost parent + cost_of (point_of before.points parent) p ≤ after.cost n =
    omega (arith, none_rises parent h.present, h.above) in
    HangsBelow-at setup after n p parent (still.points n ∙ StandsAt-present before.points n here) e
    (Hangs-later setup before after n p parent (after.cost n) (after.cost n) there enough h)

-- ---- what stays while costs fall

module _ (setup : Setup) (before after : TreeState) (change : LowersCosts setup before after) where
  was_present : (n : ℕ) → IsPresent after.points n → IsPresent before.points n
  was_present n h = ap is_some (sym (change.still.points n)) ∙ h

  still_stands : (n : ℕ) → IsPresent before.points n → StandsAt after.points n (point_of before.points n)
  still_stands n h = change.still.points n ∙ StandsAt-present before.points n h

  same_count : node_count after.points ≡ node_count before.points
  same_count = node_count-same before.points after.points change.still.points

  -- the tree grows
  pub GrowsInto-lowered : GrowsInto before after
  GrowsInto-lowered = record {
    nodes = λ n p h. change.still.points n ∙ h;
    first_costs = change.still.first_costs;
    trees = trees;
    records = change.still.records;
  }
    where
      -- a node that keeps its parent keeps its cost too, or costs less
      same_or_less : (n : ℕ) → IsPresent before.points n → after.parent n ≡ before.parent n → KeepsOrFalls before after n
      same_or_less n h parent =
          elim (cases_lt (after.cost n) (before.cost n)) [
            | inl less ↦ inr less
            | inr no_less ↦ inl (omega (arith, no_less, change.none_rises n h), parent)
          ]

      trees : (n : ℕ) → IsPresent before.points n → KeepsOrFalls before after n
      trees zero h = same_or_less zero h change.start
      trees (suc n) h =
          elim (change.nodes n h) [
            | inl falls ↦ same_or_less (suc n) h falls.parent
            | inr cheaper ↦ inr cheaper.cheaper
          ]

  -- what falls with its parent hangs below it as before
  hangs_falling : (n : ℕ) → IsPresent before.points n → HangsBelow setup before n → FallsWithParent before after n → HangsBelow setup after n
  hangs_falling n here old falls =
      let m : ℕ = before.parent n in
      let p : Point = point_of before.points n in
      let enough : after.cost m + cost_of (point_of before.points m) p ≤ after.cost n = omega (arith, old.above, falls.falls) in
      HangsBelow-at setup after n p m (still_stands n here) falls.parent
      (Hangs-later setup before after n p m (before.cost n) (after.cost n) (still_stands m old.present) enough old)

  -- the order law stays
  pub KeepsOrder-lowered : KeepsOrder setup before → KeepsOrder setup after
  KeepsOrder-lowered order = record {
    distinct = λ i j p one other. order.distinct i j p (sym (change.still.points i) ∙ one) (sym (change.still.points j) ∙ other);
    start_stands = change.still.points 0 ∙ order.start_stands;
    start_clear = order.start_clear;
    start_parent = change.start ∙ order.start_parent;
    start_cost = omega (arith, change.none_rises 0 (start-present setup before order), order.start_cost);
    hangs = hangs;
    bounded = λ n h. omega (arith, change.none_rises n (was_present n h), order.bounded n (was_present n h), ap (most_cost_of setup) same_count);
  }
    where
      hangs : (n : ℕ) → IsPresent after.points (suc n) → HangsBelow setup after (suc n)
      hangs n h =
          elim (change.nodes n (was_present (suc n) h)) [
            | inl falls ↦ hangs_falling (suc n) (was_present (suc n) h) (order.hangs n (was_present (suc n) h)) falls
            | inr cheaper ↦ cheaper.hangs
          ]

  -- and no node costs more than it was placed at
  pub KeepsFirstCosts-lowered : KeepsFirstCosts setup before → KeepsFirstCosts setup after
  KeepsFirstCosts-lowered firsts = record {
    kept = λ n h.
        let was = was_present n h in
        omega (arith, change.none_rises n was, firsts.kept n was, change.still.first_costs n was);
    bounded = λ n h.
        let was = was_present n h in
        omega (arith, firsts.bounded n was, change.still.first_costs n was, ap (most_cost_of setup) same_count);
  }

-- ---- one node alone

-- every other present node keeps its parent and its cost
pub record KeepsOthers (before after : TreeState) (i : ℕ) : Type 0 where
  pub parents : (j : ℕ) → j ≢ i → IsPresent before.points j → after.parent j ≡ before.parent j
  pub costs : (j : ℕ) → j ≢ i → IsPresent before.points j → after.cost j ≡ before.cost j

module _
    (setup : Setup) (before after : TreeState) (i : ℕ) (others : KeepsOthers before after i)
    (not_dearer : IsPresent before.points i → after.cost i ≤ before.cost i) where
  -- no cost rises
  none_of_them_rises : (n : ℕ) → IsPresent before.points n → after.cost n ≤ before.cost n
  none_of_them_rises n h =
      elim (cases_eq n i) [
        | inl e ↦ omega (arith, ap after.cost e, ap before.cost e, not_dearer (subst (IsPresent before.points) e h))
        | inr apart ↦ omega (arith, others.costs n apart h)
      ]

  -- another node falls with its parent: it costs what it did
  others_fall : (n : ℕ) → n ≢ i → IsPresent before.points n → IsPresent before.points (before.parent n) → FallsWithParent before after n
  others_fall n apart h parent = record {
    parent = others.parents n apart h;
    falls = omega (arith, others.costs n apart h, none_of_them_rises (before.parent n) parent);
  }

-- Node i alone is rewired: it gets node n as its parent, below which it may hang at its new cost, and that is strictly smaller.
pub record RewiresNode (setup : Setup) (before after : TreeState) (i n : ℕ) : Type 0 where
  pub still : StandsStill before after
  pub others : KeepsOthers before after i
  pub present : IsPresent before.points i
  pub exchanged : after.parent i ≡ n
  pub hangs : Hangs setup before i (point_of before.points i) n (after.cost i)
  pub cheaper : after.cost i < before.cost i

-- Rewiring one node lowers costs.
pub LowersCosts-rewires :
    (setup : Setup) (before after : TreeState) (i n : ℕ) → KeepsOrder setup before → RewiresNode setup before after i n
    → LowersCosts setup before after
LowersCosts-rewires setup before after i n order change = record {
  still = change.still;
  start = change.others.parents 0 (λ e. omega (arith, ap before.cost e, order.start_cost, change.cheaper)) (start-present setup before order);
  none_rises = none_rises;
  nodes = λ j h.
      elim (cases_eq (suc j) i) [
        | inl e ↦ inr (subst (HangsCheaper setup before after) (sym e) rewired)
        | inr apart ↦ (
            inl
            (others_fall setup before after i change.others (λ p. omega (arith, change.cheaper)) (suc j) apart h (order.hangs j h).present))
      ];
}
  where
    none_rises : (m : ℕ) → IsPresent before.points m → after.cost m ≤ before.cost m
    none_rises = none_of_them_rises setup before after i change.others (λ h. omega (arith, change.cheaper))

    rewired : HangsCheaper setup before after i
    rewired = record {
      hangs = HangsBelow-still setup before after change.still none_rises i n change.present change.exchanged change.hangs;
      cheaper = change.cheaper;
    }

-- Node i keeps its parent, and its kept cost alone is lowered, to no less than what the parent costs and the edge.
pub record LowersNode (before after : TreeState) (i : ℕ) : Type 0 where
  pub still : StandsStill before after
  pub others : KeepsOthers before after i
  pub kept : after.parent i ≡ before.parent i
  pub not_dearer : after.cost i ≤ before.cost i
  pub above :
      before.cost (before.parent i) + cost_of (point_of before.points (before.parent i)) (point_of before.points i) ≤ after.cost i

-- Lowering one kept cost lowers costs.
pub LowersCosts-lowers :
    (setup : Setup) (before after : TreeState) (i : ℕ) → KeepsOrder setup before → LowersNode before after i
    → LowersCosts setup before after
LowersCosts-lowers setup before after i order change = record {
  still = change.still;
  start = same_parent 0 (start-present setup before order);
  none_rises = none_rises;
  nodes = λ j h.
      elim (cases_eq (suc j) i) [
        | inl e ↦ (
            subst (λ m. FallsWithParent before after m ⊎ HangsCheaper setup before after m) (sym e)
            (lowered (subst (IsPresent before.points) e h) (subst (HangsBelow setup before) e (order.hangs j h))))
        | inr apart ↦ inl (others_fall setup before after i change.others (λ p. change.not_dearer) (suc j) apart h (order.hangs j h).present)
      ];
}
  where
    same_parent : (j : ℕ) → IsPresent before.points j → after.parent j ≡ before.parent j
    same_parent j h =
        elim (cases_eq j i) [
          | inl e ↦ ap after.parent e ∙ change.kept ∙ sym (ap before.parent e)
          | inr apart ↦ change.others.parents j apart h
        ]

    none_rises : (m : ℕ) → IsPresent before.points m → after.cost m ≤ before.cost m
    none_rises = none_of_them_rises setup before after i change.others (λ h. change.not_dearer)

    lowered : IsPresent before.points i → HangsBelow setup before i → FallsWithParent before after i ⊎ HangsCheaper setup before after i
    lowered h old =
        elim (cases_lt (after.cost i) (before.cost i)) [
          | inl less ↦ inr (record {
            hangs = HangsBelow-still setup before after change.still none_rises i (before.parent i) h change.kept
                (record { present = old.present; other = old.other; edge = old.edge; above = change.above });
            cheaper = less;
          })
          | inr same ↦ inl (record { parent = change.kept; falls = omega (arith, same, none_rises (before.parent i) old.present) })
        ]

-- ---- a record more

-- The record of mark k is added, with the first cost that was written if its node is present; nothing else changes of present nodes.
pub record AddsRecord (before after : TreeState) (k : ℕ) (entry : Record) : Type 0 where
  pub points : (n : ℕ) → point_at after.points n ≡ point_at before.points n
  pub parents : (n : ℕ) → IsPresent before.points n → after.parent n ≡ before.parent n
  pub costs : (n : ℕ) → IsPresent before.points n → after.cost n ≡ before.cost n
  pub written_costs : (n : ℕ) → IsPresent before.points n → after.written_cost n ≡ before.written_cost n
  pub absent : before.record_of k ≡ None
  pub recorded : after.record_of k ≡ Some entry
  pub records : (j : ℕ) → j ≢ k → after.record_of j ≡ before.record_of j
  pub written : IsPresent before.points (suc k) → entry.first_cost ≡ before.written_cost (suc k)

-- A record more lowers no cost, and the first costs stay.
pub LowersCosts-adds_record :
    (setup : Setup) (before after : TreeState) (k : ℕ) (entry : Record) → KeepsOrder setup before
    → AddsRecord before after k entry → LowersCosts setup before after
LowersCosts-adds_record setup before after k entry order change = record {
  still = record { points = change.points; first_costs = first_costs; records = records };
  start = change.parents 0 (start-present setup before order);
  none_rises = λ n h. omega (arith, change.costs n h);
  nodes = λ n h. inl (record {
    parent = change.parents (suc n) h;
    falls = omega (arith, change.costs (suc n) h, change.costs (before.parent (suc n)) (order.hangs n h).present);
  });
}
  where
    records : (j : ℕ) (own : Record) → before.record_of j ≡ Some own → after.record_of j ≡ Some own
    records j own h =
        elim (cases_eq j k) [
          | inl e ↦ (let none = sym (ap before.record_of e ∙ change.absent) ∙ h in cc)
          | inr apart ↦ change.records j apart ∙ h
        ]

    -- the first cost of the mark's node is the one that was written
    new_first_cost : IsPresent before.points (suc k) → first_cost_of after (suc k) ≡ first_cost_of before (suc k)
    new_first_cost h =
        ap (recorded_or (after.written_cost (suc k))) change.recorded ∙ change.written h
        ∙ sym (ap (recorded_or (before.written_cost (suc k))) change.absent)

    first_costs : (n : ℕ) → IsPresent before.points n → first_cost_of after n ≡ first_cost_of before n
    first_costs zero h = refl
    first_costs (suc j) h =
        elim (cases_eq j k) [
          | inl e ↦ (
              subst (λ m. first_cost_of after (suc m) ≡ first_cost_of before (suc m)) (sym e)
              (new_first_cost (subst (λ m. IsPresent before.points (suc m)) e h)))
          | inr apart ↦ (
              ap (recorded_or (after.written_cost (suc j))) (change.records j apart)
              ∙ ap (λ cost. recorded_or cost (before.record_of j)) (change.written_costs (suc j) h))
        ]

-- ---- the same tree

-- all present nodes are the same at both moments
pub record HaveSameTree (before after : TreeState) : Type 0 where
  pub still : StandsStill before after
  pub parents : (n : ℕ) → IsPresent before.points n → after.parent n ≡ before.parent n
  pub costs : (n : ℕ) → IsPresent before.points n → after.cost n ≡ before.cost n

-- the same tree is lowered by nothing
pub LowersCosts-same :
    (setup : Setup) (before after : TreeState) → KeepsOrder setup before → HaveSameTree before after → LowersCosts setup before after
LowersCosts-same setup before after order same = record {
  still = same.still;
  start = same.parents 0 (start-present setup before order);
  none_rises = λ n h. omega (arith, same.costs n h);
  nodes = λ n h. inl (record {
    parent = same.parents (suc n) h;
    falls = omega (arith, same.costs (suc n) h, same.costs (before.parent (suc n)) (order.hangs n h).present);
  });
}
