-- Kept costs of a tree with one more node, or with one more absent number: they stay tight, and fall along parents.
use Rattle.plan_model.proofs.Words.{◌≡◌, ℕ, suc, ◌+◌, ◌*◌, ◌<◌, ◌≤◌, List, Option, arith, sym, ap, ◌∙◌, subst, inl, inr, ◌≢◌, is_some, unwrap_or, cases_lt}
use Rattle.plan_model.proofs.Words.{mul-le, Point, Twig, squared_distance, cost_of, point_at, IsPresent, point_of, node_at, points_of, parent_or_zero}
use Rattle.plan_model.proofs.Words.{parent_of, edge_of, CostsFall, AreTight}
use Rattle.plan_model.proofs.RootLaws.{root_ceiling-is}
use Rattle.plan_model.proofs.FreePoints.{same-from_distance}
use Rattle.plan_model.proofs.NewNodes.{Adds, point_at-same, IsPresent-kept, point_of-kept, parent_of-kept, IsPresent-stands, point_of-stands, StandsAt-present}
use Rattle.plan_model.proofs.NewNodes.{StandsAt-new, parent_of-new, new_or_kept}

-- an edge between two points costs at least a lattice step
pub cost_of-apart : (a b : Point) → a ≢ b → 256 ≤ cost_of a b
cost_of-apart a b apart =
    let reaches = (root_ceiling-is (65536 * squared_distance a b)).reaches in
    elim (cases_lt 0 (squared_distance a b)) [
      | inr none ↦ absurd (apart (same-from_distance a b none))
      | inl some ↦ elim (cases_lt (cost_of a b) 256) [
        | inl low ↦ absurd (omega (arith, reaches, mul-le (cost_of a b) (cost_of a b) 255 255 (omega arith) (omega arith)))
        | inr high ↦ high
      ]
    ]

-- ---- the same nodes

-- the kept costs of the present nodes are the same
abbrev pub KeepsCosts : List (Option Twig) → (ℕ → ℕ) → (ℕ → ℕ) → Type 0
KeepsCosts tree costs later = (n : ℕ) → IsPresent (points_of tree) n → later n ≡ costs n

module _ (costs later : ℕ → ℕ) (tree after : List (Option Twig)) (same : (n : ℕ) → node_at after n ≡ node_at tree n) (keeps : KeepsCosts tree costs later) where
  was_present : (n : ℕ) → IsPresent (points_of after) n → IsPresent (points_of tree) n
  was_present n h = ap is_some (sym (point_at-same after tree n (same n))) ∙ h

  parent_is : (n : ℕ) → parent_of after n ≡ parent_of tree n
  parent_is n = ap parent_or_zero (same n)

  point_is : (n : ℕ) → point_of (points_of after) n ≡ point_of (points_of tree) n
  point_is n = ap (λ o. unwrap_or o (record { x = 0; y = 0 })) (point_at-same after tree n (same n))

  edge_is : (n : ℕ) → edge_of after n ≡ edge_of tree n
  edge_is n =
      ap (λ a. cost_of a (point_of (points_of after) n)) (point_is (parent_of after n) ∙ ap (point_of (points_of tree)) (parent_is n))
      ∙ ap (cost_of (point_of (points_of tree) (parent_of tree n))) (point_is n)

  parent_cost : CostsFall costs tree → (n : ℕ) → IsPresent (points_of after) (suc n) → later (parent_of after (suc n)) ≡ costs (parent_of tree (suc n))
  parent_cost fall n h = ap later (parent_is (suc n)) ∙ keeps (parent_of tree (suc n)) (fall.parent n (was_present (suc n) h))

  -- an absent number changes nothing: costs fall as they did
  pub CostsFall-same : CostsFall costs tree → CostsFall later after
  CostsFall-same fall = record {
    start = ap is_some (point_at-same after tree 0 (same 0)) ∙ fall.start;
    parent = λ n h.
        ap is_some (point_at-same after tree (parent_of after (suc n)) (same (parent_of after (suc n))))
        ∙ ap (λ m. is_some (point_at (points_of tree) m)) (parent_is (suc n)) ∙ fall.parent n (was_present (suc n) h);
    falls = λ n h. omega (arith, parent_cost fall n h, keeps (suc n) (was_present (suc n) h), fall.falls n (was_present (suc n) h));
  }

  -- and are tight as they were
  pub AreTight-same : CostsFall costs tree → AreTight costs tree → AreTight later after
  AreTight-same fall tight = record {
    start = keeps 0 fall.start ∙ tight.start;
    edges = λ n h.
        omega (arith, parent_cost fall n h, keeps (suc n) (was_present (suc n) h), tight.edges n (was_present (suc n) h), edge_is (suc n));
  }

-- ---- one more node

-- The new node's parent is present and stands elsewhere, and the new node costs what its parent costs and the edge.
pub record IsPriced (tree : List (Option Twig)) (costs : ℕ → ℕ) (node : Twig) (price : ℕ) : Type 0 where
  pub parent : IsPresent (points_of tree) node.parent
  pub apart : point_of (points_of tree) node.parent ≢ node.point
  pub cost : price ≡ costs node.parent + cost_of (point_of (points_of tree) node.parent) node.point

-- After is the tree with one more node, and later the costs with one more for that.
pub record AddsPriced (costs later : ℕ → ℕ) (tree after : List (Option Twig)) (number : ℕ) (node : Twig) : Type 0 where
  pub adds : Adds tree number node after
  pub keeps : KeepsCosts tree costs later
  pub priced : IsPriced tree costs node (later number)

module _ (costs later : ℕ → ℕ) (tree after : List (Option Twig)) (number : ℕ) (node : Twig) (more : AddsPriced costs later tree after number node) where
  -- what the laws of kept costs say of one node
  record IsLinked (n : ℕ) : Type 0 where
    parent : IsPresent (points_of after) (parent_of after n)
    cost : later n ≡ later (parent_of after n) + edge_of after n
    falls : later (parent_of after n) < later n

  link_at : (n m : ℕ) (q : Point) → parent_of after n ≡ m → IsPresent (points_of tree) m → point_of (points_of after) n ≡ q
      → later n ≡ costs m + cost_of (point_of (points_of tree) m) q → costs m < later n → IsLinked n
  link_at n m q parent present here price less =
      let above : point_of (points_of after) (parent_of after n) ≡ point_of (points_of tree) m =
      ap (point_of (points_of after)) parent ∙ point_of-kept tree number node after more.adds m present in
      let edge : edge_of after n ≡ cost_of (point_of (points_of tree) m) q =
      ap (λ a. cost_of a (point_of (points_of after) n)) above ∙ ap (cost_of (point_of (points_of tree) m)) here in
      let cost : later (parent_of after n) ≡ costs m = ap later parent ∙ more.keeps m present in
      record {
        parent = ap (λ i. is_some (point_at (points_of after) i)) parent ∙ IsPresent-kept tree number node after more.adds m present;
        cost = omega (arith, price, cost, edge);
        falls = omega (arith, less, cost);
      }

  link_new : IsLinked number
  link_new =
      let here = point_of-stands (points_of after) number node.point (StandsAt-new tree number node after more.adds) in
      let long = cost_of-apart (point_of (points_of tree) node.parent) node.point more.priced.apart in
      link_at number node.parent node.point (parent_of-new tree number node after more.adds) more.priced.parent here more.priced.cost
      (omega (arith, more.priced.cost, long))

  link_kept : CostsFall costs tree → AreTight costs tree → (n : ℕ) → IsPresent (points_of tree) (suc n) → IsLinked (suc n)
  link_kept fall tight n h =
      link_at (suc n) (parent_of tree (suc n)) (point_of (points_of tree) (suc n)) (parent_of-kept tree number node after more.adds (suc n) h)
      (fall.parent n h) (point_of-kept tree number node after more.adds (suc n) h) (omega (arith, more.keeps (suc n) h, tight.edges n h))
      (omega (arith, more.keeps (suc n) h, fall.falls n h))

  link : CostsFall costs tree → AreTight costs tree → (n : ℕ) → IsPresent (points_of after) (suc n) → IsLinked (suc n)
  link fall tight n h =
      elim (new_or_kept tree number node after more.adds (suc n) (point_of (points_of after) (suc n)) (StandsAt-present (points_of after) (suc n) h)) [
        | inl new ↦ subst IsLinked (sym new.0) link_new
        | inr kept ↦ link_kept fall tight n (IsPresent-stands (points_of tree) (suc n) (point_of (points_of after) (suc n)) kept)
      ]

  -- costs fall along parents in the longer tree
  pub CostsFall-adds : CostsFall costs tree → AreTight costs tree → CostsFall later after
  CostsFall-adds fall tight = record {
    start = IsPresent-kept tree number node after more.adds 0 fall.start;
    parent = λ n h. (link fall tight n h).parent;
    falls = λ n h. (link fall tight n h).falls;
  }

  -- and are tight in it
  pub AreTight-adds : CostsFall costs tree → AreTight costs tree → AreTight later after
  AreTight-adds fall tight = record {
    start = more.keeps 0 fall.start ∙ tight.start;
    edges = λ n h. (link fall tight n h).cost;
  }
