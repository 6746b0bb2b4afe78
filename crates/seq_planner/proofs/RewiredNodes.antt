-- A near node that is cheaper through a new one gets it as its parent, and the tree stays sound.
use Rattle.seq_planner.proofs.Words.{◌≡◌, ℕ, ◌+◌, ◌-◌, ◌<◌, List, length, get_or, Result, Ok, Err, OnOk, arith, sym, ap, ◌∙◌, subst, inl, inr, length-set}
use Rattle.seq_planner.proofs.Words.{cases_eq, Point, IsBranchLowered, Clear, ConfigurationSpace, cost_of, IsPresent, point_of, AreDistinct, points_of}
use Rattle.seq_planner.proofs.Words.{parent_of, sum_of, Nodes, with_parent, cost_through, IsCheaperThrough, HasCheaperParent, points_of-cheaper_parent}
use Rattle.seq_planner.proofs.Words.{AreTight-cheaper_parent, CostsFall-lowered, PlacedPoints, ArePlaced, AreBounded, IsSound, most_cost}
use Rattle.seq_planner.proofs.SoundTrees.{kept_sum}

-- what follows of two facts that hold after a success
pub OnOk-two : {T E P Q R : Type 0} (result : Result T E) → (P → Q → R) → OnOk result P → OnOk result Q → OnOk result R
OnOk-two (Ok x) f p q = f p q
OnOk-two (Err e) f p q = tt

-- ---- what is cheaper

-- Node n and node i, with the sums and the points that were read of them.
pub record AreRead (nodes : Nodes) (n i through kept : ℕ) (from to : Point) : Type 0 where
  pub through_is : sum_of nodes n ≡ through
  pub kept_is : sum_of nodes i ≡ kept
  pub from_is : from ≡ point_of (points_of nodes) n
  pub to_is : to ≡ point_of (points_of nodes) i

module _ (space : ConfigurationSpace) (nodes : Nodes) (n i through kept : ℕ) (from to : Point) (read : AreRead nodes n i through kept from to) where
  new_cost : cost_through nodes (point_of (points_of nodes) i) n ≡ through + cost_of from to
  new_cost =
      omega (
        arith,
        read.through_is,
        ap (λ a. cost_of a (point_of (points_of nodes) i)) read.from_is,
        ap (λ b. cost_of from b) read.to_is,
      )

  -- a strictly lesser cost over a clear edge is what the definition asks
  pub IsCheaperThrough-read : through + cost_of from to < kept → Clear space from to → IsCheaperThrough space nodes n i
  IsCheaperThrough-read less clear = record {
    cheaper = omega (arith, new_cost, read.kept_is);
    clear =
        subst (λ a. Clear space a (point_of (points_of nodes) i)) read.from_is (subst (λ b. Clear space from b) read.to_is clear);
  }

  -- and it asks for both
  pub cost-cheaper_through : IsCheaperThrough space nodes n i → through + cost_of from to < kept
  cost-cheaper_through h = omega (arith, h.cheaper, new_cost, read.kept_is)

  pub Clear-cheaper_through : IsCheaperThrough space nodes n i → Clear space from to
  Clear-cheaper_through h =
      subst (λ a. Clear space a to) (sym read.from_is) (subst (λ b. Clear space (point_of (points_of nodes) n) b) (sym read.to_is) h.clear)

-- ---- the other parent

-- Node i of a sound tree costs less by way of node n: so much there, and so much as it is kept.
pub record IsCheaper (nodes : Nodes) (costs : List ℕ) (placed : PlacedPoints) (n i through kept : ℕ) : Type 0 where
  pub sound : IsSound nodes costs placed
  pub parent : IsPresent (points_of nodes) n
  pub present : IsPresent (points_of nodes) i
  pub through_is : through ≡ cost_through nodes (point_of (points_of nodes) i) n
  pub kept_is : sum_of nodes i ≡ kept
  pub less : through < kept

module _ {nodes : Nodes} {costs : List ℕ} {placed : PlacedPoints} {n i through kept : ℕ} (h : IsCheaper nodes costs placed n i through kept) where
  -- it is not the start
  pub child-cheaper : 0 < i
  child-cheaper =
      let costly = kept_sum nodes costs placed i h.sound h.present in
      elim (cases_eq i 0) [
        | inl e ↦ absurd (omega (arith, h.less, h.kept_is, costly, ap (λ m. get_or costs m 0) e, h.sound.tight.start))
        | inr apart ↦ omega arith
      ]

  -- the change of its parent
  pub HasCheaperParent-cheaper : {after : Nodes} → after ≡ with_parent nodes i n → HasCheaperParent (λ m. get_or costs m 0) nodes i n (kept - through) after
  HasCheaperParent-cheaper e = record {
    present = h.present;
    parent = h.parent;
    some = omega (arith, h.less);
    cost =
        omega (arith, h.less, h.kept_is, h.through_is, kept_sum nodes costs placed i h.sound h.present, kept_sum nodes costs placed n h.sound h.parent);
    exchanged = e;
  }

-- the tree stays sound when the node and its descendants cost less
pub IsSound-rewired :
    (nodes after : Nodes) (costs later : List ℕ) (placed : PlacedPoints) (n i fall : ℕ) → IsSound nodes costs placed
    → HasCheaperParent (λ m. get_or costs m 0) nodes i n fall after
    → IsBranchLowered (points_of after) (parent_of after) i fall (λ m. get_or costs m 0) (λ m. get_or later m 0) → length later ≡ length costs
    → IsSound after later placed
IsSound-rewired nodes after costs later placed n i fall h change lowered count =
    let before : ℕ → ℕ = λ m. get_or costs m 0 in
    let now : ℕ → ℕ = λ m. get_or later m 0 in
    let points : points_of after ≡ points_of nodes = points_of-cheaper_parent before nodes i n fall after change in
    record {
      falling = CostsFall-lowered before nodes i n fall after change now h.falling h.tight lowered h.distinct;
      tight = AreTight-cheaper_parent before nodes i n fall after change now h.falling h.tight lowered;
      distinct = subst AreDistinct (sym points) h.distinct;
      bounded = subst AreBounded (sym points) h.bounded;
      are_placed = subst (λ ps. ArePlaced ps placed) (sym points) h.are_placed;
      cost_count = count ∙ h.cost_count ∙ sym (ap length change.exchanged ∙ length-set nodes i _);
      cost_bound = λ m. omega (arith, lowered.none_rises m, h.cost_bound m, ap most_cost points);
    }
