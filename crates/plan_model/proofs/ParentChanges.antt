-- A node gets a cheaper parent: costs fall along parents, and are tight once the node and its descendants cost less.
use Rattle.plan_model.proofs.Words.{◌≡◌, ℕ, zero, suc, ◌+◌, ◌<◌, List, Option, Some, None, arith, sym, ap, ◌∙◌, subst, inl, inr, ◌≢◌, cases_eq, get_or-set_same}
use Rattle.plan_model.proofs.Words.{get_or-set_other, Twig, IsBranchLowered, cost_of, IsPresent, point_of, AreDistinct, with_parent, points_of, parent_or_zero}
use Rattle.plan_model.proofs.Words.{parent_of, edge_of, CostsFall, AreTight}
use Rattle.plan_model.proofs.DistinctPoints.{points_of-with_parent}
use Rattle.plan_model.proofs.KeptCosts.{cost_of-apart}
use Rattle.plan_model.proofs.NewNodes.{StandsAt-present, present_below}

-- ---- tight costs

-- where no two nodes stand at one point, tight costs fall along parents if any costs do
pub CostsFall-tight :
    (costs later : ℕ → ℕ) (tree : List (Option Twig)) → CostsFall costs tree → AreTight later tree → AreDistinct (points_of tree)
    → CostsFall later tree
CostsFall-tight costs later tree falling tight distinct = record {
  start = falling.start;
  parent = falling.parent;
  falls = λ n h.
      let edge = cost_of-apart (point_of (points_of tree) (parent_of tree (suc n))) (point_of (points_of tree) (suc n)) (apart n h) in
      omega (arith, tight.edges n h, edge);
}
  where
    apart : (n : ℕ) → IsPresent (points_of tree) (suc n) → point_of (points_of tree) (parent_of tree (suc n)) ≢ point_of (points_of tree) (suc n)
    apart n h e =
        let here = StandsAt-present (points_of tree) (suc n) h in
        let above = StandsAt-present (points_of tree) (parent_of tree (suc n)) (falling.parent n h) ∙ ap Some e in
        let same = distinct (parent_of tree (suc n)) (suc n) (point_of (points_of tree) (suc n)) above here in
        omega (arith, falling.falls n h, ap costs same)

-- ---- another parent

-- After is the tree in which node i has node n as its parent, and the way through n is cheaper by `fall`.
pub record HasCheaperParent (costs : ℕ → ℕ) (tree : List (Option Twig)) (i n fall : ℕ) (after : List (Option Twig)) : Type 0 where
  pub present : IsPresent (points_of tree) i
  pub parent : IsPresent (points_of tree) n
  pub some : 0 < fall
  pub cost : fall + (costs n + cost_of (point_of (points_of tree) n) (point_of (points_of tree) i)) ≡ costs i
  pub exchanged : after ≡ with_parent tree i n

module _ (costs : ℕ → ℕ) (tree : List (Option Twig)) (i n fall : ℕ) (after : List (Option Twig)) (change : HasCheaperParent costs tree i n fall after) where
  -- all nodes stay where they are
  pub points_of-cheaper_parent : points_of after ≡ points_of tree
  points_of-cheaper_parent = ap points_of change.exchanged ∙ points_of-with_parent tree i n change.present

  was_present : (k : ℕ) → IsPresent (points_of after) k → IsPresent (points_of tree) k
  was_present k h = subst (λ points. IsPresent points k) points_of-cheaper_parent h

  -- and each present node stays present
  pub IsPresent-cheaper_parent : (k : ℕ) → IsPresent (points_of tree) k → IsPresent (points_of after) k
  IsPresent-cheaper_parent k h = subst (λ points. IsPresent points k) (sym points_of-cheaper_parent) h

  -- node i has the new parent, and every other node its own
  pub parent_new : (k : ℕ) → k ≡ i → parent_of after k ≡ n
  parent_new k e =
      ap (parent_of after) e ∙ ap (λ nodes. parent_of nodes i) change.exchanged
      ∙ ap parent_or_zero (get_or-set_same tree i _ None (present_below tree i change.present))

  pub parent_kept : (k : ℕ) → k ≢ i → parent_of after k ≡ parent_of tree k
  parent_kept k apart = ap (λ nodes. parent_of nodes k) change.exchanged ∙ ap parent_or_zero (get_or-set_other tree i k _ None apart)

  pub edge_from : (k m : ℕ) → parent_of after k ≡ m → edge_of after k ≡ cost_of (point_of (points_of tree) m) (point_of (points_of tree) k)
  edge_from k m e =
      ap (λ points. cost_of (point_of points (parent_of after k)) (point_of points k)) points_of-cheaper_parent
      ∙ ap (λ j. cost_of (point_of (points_of tree) j) (point_of (points_of tree) k)) e

  -- the costs that were kept fall along the new parents too
  pub CostsFall-cheaper_parent : CostsFall costs tree → CostsFall costs after
  CostsFall-cheaper_parent falling = record { start = IsPresent-cheaper_parent 0 falling.start; parent = parent; falls = falls }
    where
      parent : (k : ℕ) → IsPresent (points_of after) (suc k) → IsPresent (points_of after) (parent_of after (suc k))
      parent k h =
          elim (cases_eq (suc k) i) [
            | inl e ↦ subst (IsPresent (points_of after)) (sym (parent_new (suc k) e)) (IsPresent-cheaper_parent n change.parent)
            | inr apart ↦ (
                subst (IsPresent (points_of after)) (sym (parent_kept (suc k) apart))
                (IsPresent-cheaper_parent (parent_of tree (suc k)) (falling.parent k (was_present (suc k) h))))
          ]

      falls : (k : ℕ) → IsPresent (points_of after) (suc k) → costs (parent_of after (suc k)) < costs (suc k)
      falls k h =
          elim (cases_eq (suc k) i) [
            | inl e ↦ omega (arith, ap costs (parent_new (suc k) e), ap costs e, change.cost, change.some)
            | inr apart ↦ omega (arith, ap costs (parent_kept (suc k) apart), falling.falls k (was_present (suc k) h))
          ]

  module _ (later : ℕ → ℕ) (falling : CostsFall costs tree) (tight : AreTight costs tree)
      (lowered : IsBranchLowered (points_of after) (parent_of after) i fall costs later) where
    -- what costs less than node i is none of its descendants, and costs what it did
    same_below : (most m : ℕ) → IsPresent (points_of after) m → costs m < costs i → costs m < most → later m ≡ costs m
    same_below zero m here below less = absurd (omega (arith, less))
    same_below (suc most) zero here below less = lowered.start
    same_below (suc most) (suc k) here below less =
        let falls = (CostsFall-cheaper_parent falling).falls k here in
        let parent = (CostsFall-cheaper_parent falling).parent k here in
        let above = same_below most (parent_of after (suc k)) parent (omega (arith, falls, below)) (omega (arith, falls, less)) in
        omega (arith, above, lowered.with_parent k here (λ e. omega (arith, ap costs e, below)))

    edge_new : (k : ℕ) → suc k ≡ i → later (suc k) ≡ later (parent_of after (suc k)) + edge_of after (suc k)
    edge_new k e =
        let parent = parent_new (suc k) e in
        let edge = edge_from (suc k) n parent ∙ ap (λ j. cost_of (point_of (points_of tree) n) (point_of (points_of tree) j)) e in
        let same = same_below (suc (costs n)) n (IsPresent-cheaper_parent n change.parent) (omega (arith, change.cost, change.some)) (omega arith) in
        omega (arith, ap later e, ap later parent, lowered.top, change.cost, same, edge)

    edge_kept :
        (k : ℕ) → suc k ≢ i → IsPresent (points_of after) (suc k) → later (suc k) ≡ later (parent_of after (suc k)) + edge_of after (suc k)
    edge_kept k apart h =
        let parent = parent_kept (suc k) apart in
        omega (
          arith,
          lowered.with_parent k h apart,
          tight.edges k (was_present (suc k) h),
          ap costs parent,
          edge_from (suc k) (parent_of tree (suc k)) parent,
        )

    -- the costs are tight once the branch is lowered
    pub AreTight-cheaper_parent : AreTight later after
    AreTight-cheaper_parent = record {
      start = lowered.start ∙ tight.start;
      edges = λ k h. elim (cases_eq (suc k) i) [ inl e ↦ edge_new k e | inr apart ↦ edge_kept k apart h ];
    }

    -- and fall along parents
    pub CostsFall-lowered : AreDistinct (points_of tree) → CostsFall later after
    CostsFall-lowered distinct =
        CostsFall-tight costs later after (CostsFall-cheaper_parent falling) AreTight-cheaper_parent
        (subst AreDistinct (sym points_of-cheaper_parent) distinct)
