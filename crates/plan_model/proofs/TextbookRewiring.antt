-- Rewiring in a textbook run: sums fall, the tree keeps the order law, and no near node stays dearer than by way of the new one.
use Rattle.plan_model.proofs.Words.{◌≡◌, ℕ, zero, suc, ◌+◌, ◌-◌, ◌*◌, ◌≤◌, List, [], ◌∷◌, Option, arith, refl, sym, ap, ◌∙◌, subst, inl, inr, ◌≢◌, All}
use Rattle.plan_model.proofs.Words.{cases_eq, cases_lt, All-head, All-tail, All-cons, All-nil, All-weaker, Point, Record, Clear, cost_of, squared_distance}
use Rattle.plan_model.proofs.Words.{point_at, StandsAt, IsPresent, point_of, points_of, parent_of, sum_of, edge_of, CostsFall, AreTight, first_cost_of}
use Rattle.plan_model.proofs.Words.{GrowsInto, state_of, IsAllowedEdge, Hangs, KeepsOrder, KeepsFirstCosts, Nodes, Setup, cost_through, IsCheaperThrough}
use Rattle.plan_model.proofs.Words.{with_parent, RewiresOne, Rewires}
use Rattle.plan_model.proofs.ChainLaws.{AreTight-sums}
use Rattle.plan_model.proofs.NewNodes.{StandsAt-present}
use Rattle.plan_model.proofs.ParentChanges.{HasCheaperParent, points_of-cheaper_parent, IsPresent-cheaper_parent, parent_new, parent_kept, edge_from}
use Rattle.plan_model.proofs.ParentChanges.{CostsFall-cheaper_parent}
use Rattle.plan_model.proofs.OrderLaws.{Hangs-later, HangsBelow-at}
use Rattle.plan_model.proofs.LoweredCosts.{FallsWithParent, HangsCheaper, LowersCosts, GrowsInto-lowered, KeepsOrder-lowered, KeepsFirstCosts-lowered}
use Rattle.plan_model.proofs.TreeStateLaws.{cost-grows, GrowsInto-refl, GrowsInto-trans}
use Rattle.plan_model.proofs.TextbookStates.{CostsFall-ordered, AreTight-ordered}

-- ---- the same records

same_first_costs : (tree after : Nodes) (records : List Record) (n : ℕ) → first_cost_of (state_of after records) n ≡ first_cost_of (state_of tree records) n
same_first_costs tree after records zero = refl
same_first_costs tree after records (suc k) = refl

-- ---- one cheaper parent

module _
    (setup : Setup) (tree after : Nodes) (records : List Record) (i n fall : ℕ) (order : KeepsOrder setup (state_of tree records))
    (change : HasCheaperParent (sum_of tree) tree i n fall after) where
  falls : CostsFall (sum_of tree) tree
  falls = CostsFall-ordered setup tree records order

  tight : AreTight (sum_of tree) tree
  tight = AreTight-ordered setup tree records order

  falls_after : CostsFall (sum_of tree) after
  falls_after = CostsFall-cheaper_parent (sum_of tree) tree i n fall after change falls

  tight_after : AreTight (sum_of after) after
  tight_after = AreTight-sums (sum_of tree) (points_of after) (parent_of after) falls_after

  same_points : points_of after ≡ points_of tree
  same_points = points_of-cheaper_parent (sum_of tree) tree i n fall after change

  still_present : (j : ℕ) → IsPresent (points_of tree) j → IsPresent (points_of after) j
  still_present = IsPresent-cheaper_parent (sum_of tree) tree i n fall after change

  has_new_parent : (j : ℕ) → j ≡ i → parent_of after j ≡ n
  has_new_parent = parent_new (sum_of tree) tree i n fall after change

  has_own_parent : (j : ℕ) → j ≢ i → parent_of after j ≡ parent_of tree j
  has_own_parent = parent_kept (sum_of tree) tree i n fall after change

  edge_is : (j m : ℕ) → parent_of after j ≡ m → edge_of after j ≡ cost_of (point_of (points_of tree) m) (point_of (points_of tree) j)
  edge_is = edge_from (sum_of tree) tree i n fall after change

  -- node i costs what its new parent costs and the edge
  sum_exchanged : (j : ℕ) → suc j ≡ i → IsPresent (points_of tree) (suc j)
      → sum_of after (suc j) ≡ sum_of after n + cost_of (point_of (points_of tree) n) (point_of (points_of tree) (suc j))
  sum_exchanged j e h =
      let parent = has_new_parent (suc j) e in
      omega (arith, tight_after.edges j (still_present (suc j) h), ap (sum_of after) parent, edge_is (suc j) n parent)

  -- every other node what its own parent costs and the edge
  sum_kept : (j : ℕ) → suc j ≢ i → IsPresent (points_of tree) (suc j)
      → sum_of after (suc j)
      ≡ sum_of after (parent_of tree (suc j)) + cost_of (point_of (points_of tree) (parent_of tree (suc j))) (point_of (points_of tree) (suc j))
  sum_kept j apart h =
      let parent = has_own_parent (suc j) apart in
      omega (arith, tight_after.edges j (still_present (suc j) h), ap (sum_of after) parent, edge_is (suc j) (parent_of tree (suc j)) parent)

  -- no sum rises
  no_sum_rises_below : (most j : ℕ) → IsPresent (points_of tree) j → sum_of tree j ≤ most → sum_of after j ≤ sum_of tree j
  no_sum_rises_below most zero h l = omega (arith, tight_after.start)
  no_sum_rises_below zero (suc j) h l = absurd (omega (arith, falls.falls j h, l))
  no_sum_rises_below (suc most) (suc j) h l =
      elim (cases_eq (suc j) i) [
        | inl e ↦ (
            let above = no_sum_rises_below most n change.parent (omega (arith, change.cost, change.some, ap (sum_of tree) e, l)) in
            let edge = ap (λ k. cost_of (point_of (points_of tree) n) (point_of (points_of tree) k)) e in
            omega (arith, above, edge, sum_exchanged j e h, change.cost, ap (sum_of tree) e))
        | inr apart ↦ (
            let above = no_sum_rises_below most (parent_of tree (suc j)) (falls.parent j h) (omega (arith, falls.falls j h, l)) in
            omega (arith, above, sum_kept j apart h, tight.edges j h))
      ]

  no_sum_rises : (j : ℕ) → IsPresent (points_of tree) j → sum_of after j ≤ sum_of tree j
  no_sum_rises j h = no_sum_rises_below (sum_of tree j) j h (omega arith)

  start_apart : 0 ≢ i
  start_apart e = omega (arith, ap (sum_of tree) e, tight.start, change.cost, change.some)

  new_edge_up : n ≢ i
  new_edge_up e = omega (arith, ap (sum_of tree) e, change.cost, change.some)

  -- The exchange lowers costs, if the new edge is allowed.
  pub LowersCosts-exchanged :
      IsAllowedEdge setup (point_of (points_of tree) n) (point_of (points_of tree) i) → LowersCosts setup (state_of tree records) (state_of after records)
  LowersCosts-exchanged edge = record {
    still = record {
      points = λ j. ap (λ points. point_at points j) same_points;
      first_costs = λ j h. same_first_costs tree after records j;
      records = λ k entry h. h;
    };
    start = has_own_parent 0 start_apart;
    none_rises = no_sum_rises;
    nodes = λ j h. elim (cases_eq (suc j) i) [ inl e ↦ inr (exchanged j e h) | inr apart ↦ inl (kept j apart h) ];
  }
    where
      stands : (j : ℕ) → IsPresent (points_of tree) j → StandsAt (points_of after) j (point_of (points_of tree) j)
      stands j h = ap (λ points. point_at points j) same_points ∙ StandsAt-present (points_of tree) j h

      exchanged : (j : ℕ) → suc j ≡ i → IsPresent (points_of tree) (suc j) → HangsCheaper setup (state_of tree records) (state_of after records) (suc j)
      exchanged j e h =
          let here = ap (λ k. cost_of (point_of (points_of tree) n) (point_of (points_of tree) k)) e in
          let p : Point = point_of (points_of tree) (suc j) in
          let by_sum : Hangs setup (state_of tree records) (suc j) p n (sum_of tree n + cost_of (point_of (points_of tree) n) p) =
          record {
            present = change.parent;
            other = λ f. new_edge_up (f ∙ e);
            edge = subst (λ k. IsAllowedEdge setup (point_of (points_of tree) n) (point_of (points_of tree) k)) (sym e) edge;
            above = omega arith;
          } in
          let enough : sum_of after n + cost_of (point_of (points_of tree) n) p ≤ sum_of after (suc j) = omega (arith, sum_exchanged j e h) in
          record {
            hangs =
                HangsBelow-at setup (state_of after records) (suc j) p n (stands (suc j) h) (has_new_parent (suc j) e)
                (Hangs-later setup (state_of tree records) (state_of after records) (suc j) p n
                (sum_of tree n + cost_of (point_of (points_of tree) n) p) (sum_of after (suc j)) (stands n change.parent) enough by_sum);
            cheaper = omega (arith, sum_exchanged j e h, no_sum_rises n change.parent, here, change.cost, change.some, ap (sum_of tree) e);
          }

      kept : (j : ℕ) → suc j ≢ i → IsPresent (points_of tree) (suc j) → FallsWithParent (state_of tree records) (state_of after records) (suc j)
      kept j apart h = record {
        parent = has_own_parent (suc j) apart;
        falls = omega (arith, sum_kept j apart h, tight.edges j h);
      }

  -- then node i costs what node n costs and the edge
  sum_of_exchanged : sum_of after i ≡ sum_of after n + cost_of (point_of (points_of tree) n) (point_of (points_of tree) i)
  sum_of_exchanged = of_number i refl
    where
      of_number : (m : ℕ) → m ≡ i → sum_of after i ≡ sum_of after n + cost_of (point_of (points_of tree) n) (point_of (points_of tree) i)
      of_number zero e = absurd (start_apart e)
      of_number (suc j) e =
          let present = subst (IsPresent (points_of tree)) (sym e) change.present in
          let edge = ap (λ k. cost_of (point_of (points_of tree) n) (point_of (points_of tree) k)) e in
          omega (arith, sum_exchanged j e present, ap (sum_of after) e, edge)

-- ---- one near node

-- Near node i and the new node n are present, no farther from each other than the step.
pub record MayRewire (setup : Setup) (points : List (Option Point)) (n i : ℕ) : Type 0 where
  pub present : IsPresent points i
  pub parent : IsPresent points n
  pub short : squared_distance (point_of points n) (point_of points i) ≤ setup.step * setup.step

-- If the edge is clear, node i costs at most what node n costs and the edge.
abbrev pub IsReached : Setup → List (Option Point) → (ℕ → ℕ) → ℕ → ℕ → ℕ → Type 0
IsReached setup points costs through n i =
    Clear setup.space (point_of points n) (point_of points i) → costs i ≤ through + cost_of (point_of points n) (point_of points i)

-- What looking at near nodes does: costs are lowered, no node moves.
pub record Relaxes (setup : Setup) (tree after : Nodes) (records : List Record) : Type 0 where
  pub points : points_of after ≡ points_of tree
  pub order : KeepsOrder setup (state_of after records)
  pub grows : GrowsInto (state_of tree records) (state_of after records)
  pub firsts : KeepsFirstCosts setup (state_of tree records) → KeepsFirstCosts setup (state_of after records)

Relaxes-none :
    (setup : Setup) (tree after : Nodes) (records : List Record) → after ≡ tree → KeepsOrder setup (state_of tree records)
    → Relaxes setup tree after records
Relaxes-none setup tree after records e order =
    subst (λ t. Relaxes setup tree t records) (sym e) (record {
      points = refl;
      order = order;
      grows = GrowsInto-refl (state_of tree records);
      firsts = λ h. h;
    })

Relaxes-trans :
    (setup : Setup) (tree mid after : Nodes) (records : List Record) → Relaxes setup tree mid records
    → Relaxes setup mid after records → Relaxes setup tree after records
Relaxes-trans setup tree mid after records f g = record {
  points = g.points ∙ f.points;
  order = g.order;
  grows = GrowsInto-trans (state_of tree records) (state_of mid records) (state_of after records) f.grows g.grows;
  firsts = λ h. g.firsts (f.firsts h);
}

module _
    (setup : Setup) (tree after : Nodes) (records : List Record) (n i : ℕ) (order : KeepsOrder setup (state_of tree records))
    (may : MayRewire setup (points_of tree) n i) where
  cheaper_parent : IsCheaperThrough setup.space tree n i → after ≡ with_parent tree i n
      → HasCheaperParent (sum_of tree) tree i n (sum_of tree i - cost_through tree (point_of (points_of tree) i) n) after
  cheaper_parent h e = record {
    present = may.present;
    parent = may.parent;
    some = omega (arith, h.cheaper);
    cost = omega (arith, h.cheaper);
    exchanged = e;
  }

  -- Looking at one near node lowers costs.
  pub Relaxes-one : RewiresOne setup.space tree n i after → Relaxes setup tree after records
  Relaxes-one (inl (h, e)) =
      let change = cheaper_parent h e in
      let fall : ℕ = sum_of tree i - cost_through tree (point_of (points_of tree) i) n in
      let lowers =
      LowersCosts-exchanged setup tree after records i n fall order change (record { clear = h.clear; short = may.short }) in
      record {
        points = points_of-cheaper_parent (sum_of tree) tree i n fall after change;
        order = KeepsOrder-lowered setup (state_of tree records) (state_of after records) lowers order;
        grows = GrowsInto-lowered setup (state_of tree records) (state_of after records) lowers;
        firsts = KeepsFirstCosts-lowered setup (state_of tree records) (state_of after records) lowers;
      }
  Relaxes-one (inr (h, e)) = Relaxes-none setup tree after records e order

  -- and it is then reached through the new node as cheaply as that is
  pub IsReached-one : RewiresOne setup.space tree n i after → IsReached setup (points_of tree) (sum_of after) (sum_of tree n) n i
  IsReached-one (inl (h, e)) clear =
      let change = cheaper_parent h e in
      let fall : ℕ = sum_of tree i - cost_through tree (point_of (points_of tree) i) n in
      let through = no_sum_rises setup tree after records i n fall order change n may.parent in
      omega (arith, sum_of_exchanged setup tree after records i n fall order change, through)
  IsReached-one (inr (h, e)) clear =
      let same = ap (λ t. sum_of t i) e in
      elim (cases_lt (cost_through tree (point_of (points_of tree) i) n) (sum_of tree i)) [
        | inl cheaper ↦ absurd (h (record { cheaper = cheaper; clear = clear }))
        | inr no_cheaper ↦ omega (arith, same, no_cheaper)
      ]

-- ---- all near nodes

-- what is said of points stays, since no node moves
MayRewire-all-same :
    (setup : Setup) (n : ℕ) (ns : List ℕ) (one other : List (Option Point)) → other ≡ one → All (MayRewire setup one n) ns → All (MayRewire setup other n) ns
MayRewire-all-same setup n ns one other e h = subst (λ points. All (MayRewire setup points n) ns) (sym e) h

-- Looking at all near nodes lowers costs.
pub Relaxes-all :
    (setup : Setup) (tree : Nodes) (records : List Record) (n : ℕ) (ns : List ℕ) (after : Nodes)
    → KeepsOrder setup (state_of tree records) → All (MayRewire setup (points_of tree) n) ns → Rewires setup.space tree n ns after
    → Relaxes setup tree after records
Relaxes-all setup tree records n [] after order may r = Relaxes-none setup tree after records r order
Relaxes-all setup tree records n (i ∷ ns) after order may (mid, one, rest) =
    let here = Relaxes-one setup tree mid records n i order (All-head (MayRewire setup (points_of tree) n) i ns may) one in
    let later = MayRewire-all-same setup n ns (points_of tree) (points_of mid) here.points (All-tail (MayRewire setup (points_of tree) n) i ns may) in
    Relaxes-trans setup tree mid after records here (Relaxes-all setup mid records n ns after here.order later rest)

-- and each of them is then reached through the new node as cheaply as that is
pub AreReached-all :
    (setup : Setup) (tree : Nodes) (records : List Record) (n : ℕ) (ns : List ℕ) (after : Nodes)
    → KeepsOrder setup (state_of tree records) → All (MayRewire setup (points_of tree) n) ns → Rewires setup.space tree n ns after
    → All (IsReached setup (points_of tree) (sum_of after) (sum_of tree n) n) ns
AreReached-all setup tree records n [] after order may r = All-nil (IsReached setup (points_of tree) (sum_of after) (sum_of tree n) n)
AreReached-all setup tree records n (i ∷ ns) after order may (mid, one, rest) =
    let own = All-head (MayRewire setup (points_of tree) n) i ns may in
    let here = Relaxes-one setup tree mid records n i order own one in
    let later = MayRewire-all-same setup n ns (points_of tree) (points_of mid) here.points (All-tail (MayRewire setup (points_of tree) n) i ns may) in
    let falls = Relaxes-all setup mid records n ns after here.order later rest in
    let reached = AreReached-all setup mid records n ns after here.order later rest in
    let through = cost-grows (state_of tree records) (state_of mid records) here.grows n own.parent in
    let still = subst (λ points. IsPresent points i) (sym here.points) own.present in
    let cost = cost-grows (state_of mid records) (state_of after records) falls.grows i still in
    let same = subst (λ points. All (IsReached setup points (sum_of after) (sum_of mid n) n) ns) here.points reached in
    let Now : ℕ → Type 0 = IsReached setup (points_of tree) (sum_of after) (sum_of tree n) n in
    let head : Now i = λ clear. omega (arith, cost, IsReached-one setup tree mid records n i order own one clear) in
    let tail : All Now ns =
    All-weaker (IsReached setup (points_of tree) (sum_of after) (sum_of mid n) n) Now (λ j h clear. omega (arith, h clear, through)) ns same in
    All-cons Now i ns head tail
