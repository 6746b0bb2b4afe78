-- A node but the start keeps its law if its point is new and it hangs exactly below its parent.
use Rattle.report_judge.proofs.Words.{◌≡◌, ℕ, zero, suc, ◌+◌, ◌*◌, ◌<◌, List, length, Option, Some, None, arith, sym, ap, ◌∙◌, slice_index_or}
use Rattle.report_judge.proofs.Words.{ConfigurationSpace, Record, Knot, Setup, StandsAt, point_of, TreeState, IsPresent-stands, kept_cost_of, state_of_lists}
use Rattle.report_judge.proofs.Words.{parent_of-lists, FitsEdges, KeepsEdges, IsFirstBreak, IsNewKey, KeepsNode, point_key, IsSoundNode}
use Rattle.report_judge.proofs.Laws.FirstBreakLaws.{IsFirstBreak-same}
use Rattle.report_judge.proofs.Laws.ListedNodes.{listed, point_of-listed, present-listed, same-listed, stands-listed}

module _ (knots : List (Option Knot)) (records : List Record) where
  abbrev run : TreeState
  run = state_of_lists knots records

  -- ---- the start

  -- node 0 keeps the law if it is the start, its own parent, and costs nothing,
  pub KeepsNode-start : (setup : Setup) (knot : Knot) → slice_index_or knots 0 None ≡ Some knot
      → knot ≡ record { point = setup.start; parent = 0; cost = 0 } → KeepsNode setup knots records 0
  KeepsNode-start setup knot e same = λ here. record {
    stands = stands-listed knots records 0 knot e ∙ ap (λ (k : Knot). Some k.point) same;
    parent = parent_of-lists knots 0 knot e ∙ ap (λ (k : Knot). k.parent) same;
    cost = ap kept_cost_of e ∙ ap (λ (k : Knot). k.cost) same;
  }

  -- ---- other nodes

  module _
      (setup : Setup) (space : ConfigurationSpace) (same_space : setup.space ≡ space) (squared_step : ℕ)
      (same_step : setup.step * setup.step ≡ squared_step) (keys : List ℕ)
      (told : (n : ℕ) → n < length knots → slice_index_or keys n 0 ≡ point_key n (slice_index_or knots n None))
      (fit : (n : ℕ) (knot : Knot) → slice_index_or knots n None ≡ Some knot → FitsEdges knot) where
    -- a node with an exact edge and a new point is sound
    sound : (n : ℕ) → suc n < length knots → IsNewKey keys (suc n) → KeepsEdges space squared_step knots (suc n) → (knot : Knot)
        → slice_index_or knots (suc n) None ≡ Some knot → IsSoundNode setup run (suc n)
    sound n low new edges knot e =
        let h = edges (omega arith) knot e in
        let parent : run.parent (suc n) ≡ knot.parent = parent_of-lists knots (suc n) knot e in
        let below : point_of run.points (suc n) ≡ knot.point = point_of-listed knots records (suc n) knot e in
        let above : point_of run.points (run.parent (suc n)) ≡ h.up.point =
        ap (point_of run.points) parent ∙ point_of-listed knots records knot.parent h.up h.there in
        let cost : run.cost (run.parent (suc n)) ≡ h.up.cost = ap (λ p. kept_cost_of (slice_index_or knots p None)) parent ∙ ap kept_cost_of h.there in
        record {
          alone = λ m before there. alone m before there;
          present = rw parent (present-listed knots records knot.parent h.up h.there);
          other = λ q. h.other (sym parent ∙ q);
          edge = record { clear = rw (same_space, above, below) h.edge.clear; short = rw (same_step, above, below) h.edge.short };
          exact = rw (cost, above, below) (ap kept_cost_of e ∙ h.edge.exact);
        }
      where
        alone : (m : ℕ) → m < suc n → StandsAt run.points m (point_of run.points (suc n)) → ⊥
        alone m before there =
            let other = listed knots records m (IsPresent-stands run.points m (point_of run.points (suc n)) there) in
            let point = same-listed knots records m other.knot (point_of run.points (suc n)) other.at there ∙ point_of-listed knots records (suc n) knot e in
            new m before
            (told m (omega (arith, before, low))
            ∙ ap (point_key m) other.at
            ∙ (λ i. (point i).x * 1048576 + (point i).y)
            ∙ sym (told (suc n) low ∙ ap (point_key (suc n)) e))

    KeepsNode-next : (n : ℕ) → suc n < length knots → IsNewKey keys (suc n) × KeepsEdges space squared_step knots (suc n)
        → KeepsNode setup knots records (suc n)
    KeepsNode-next n low both = λ here. let own = listed knots records (suc n) here in sound n low both.0 both.1 own.knot own.at

    -- a sound node has an exact edge
    edges-sound : (n : ℕ) (knot : Knot) → slice_index_or knots (suc n) None ≡ Some knot → IsSoundNode setup run (suc n)
        → KeepsEdges space squared_step knots (suc n)
    edges-sound n own_knot own_at sound_node = λ some knot e.
        let parent : run.parent (suc n) ≡ knot.parent = parent_of-lists knots (suc n) knot e in
        let up = listed knots records knot.parent (rw parent at sound_node.present) in
        let below : point_of run.points (suc n) ≡ knot.point = point_of-listed knots records (suc n) knot e in
        let above : point_of run.points (run.parent (suc n)) ≡ up.knot.point =
        ap (point_of run.points) parent ∙ point_of-listed knots records knot.parent up.knot up.at in
        let cost : run.cost (run.parent (suc n)) ≡ up.knot.cost = ap (λ p. kept_cost_of (slice_index_or knots p None)) parent ∙ ap kept_cost_of up.at in
        record {
          up = up.knot;
          there = up.at;
          other = λ q. sound_node.other (parent ∙ q);
          edge = record {
            clear = rw (same_space, above, below) at sound_node.edge.clear;
            short = rw (same_step, above, below) at sound_node.edge.short;
            exact = sym (ap kept_cost_of e) ∙ (rw (cost, above, below) at sound_node.exact);
          };
        }

    -- numbers of points that are the same are those of one point, or of one number
    apart_keys : (m n : ℕ) (o p : Option Knot) → slice_index_or knots m None ≡ o → slice_index_or knots n None ≡ p → m < n
        → ((knot other : Knot) → slice_index_or knots m None ≡ Some other → slice_index_or knots n None ≡ Some knot → other.point ≡ knot.point → ⊥)
        → point_key m o ≡ point_key n p → ⊥
    apart_keys m n None None e f before apart same = omega (arith, same, before)
    apart_keys m n None (Some knot) e f before apart same = omega (arith, same, (fit n knot f).point.right, (fit n knot f).point.top)
    apart_keys m n (Some other) None e f before apart same = omega (arith, same, (fit m other e).point.right, (fit m other e).point.top)
    apart_keys m n (Some other) (Some knot) e f before apart same =
        let one = (fit m other e).point in
        let two = (fit n knot f).point in
        let x : other.point.x ≡ knot.point.x = omega (arith, same, one.top, two.top) in
        let y : other.point.y ≡ knot.point.y = omega (arith, same, one.top, two.top) in
        apart knot other e f (λ i. record { x = x i; y = y i })

    next-KeepsNode : (n : ℕ) → suc n < length knots → KeepsNode setup knots records (suc n)
        → IsNewKey keys (suc n) × KeepsEdges space squared_step knots (suc n)
    next-KeepsNode n low kept = (
      λ m before e.
          apart_keys m (suc n) (slice_index_or knots m None) (slice_index_or knots (suc n) None) (λ i. slice_index_or knots m None)
          (λ i. slice_index_or knots (suc n) None) before
          (λ knot other at here point. (kept (present-listed knots records (suc n) knot here)).alone m before
          (stands-listed knots records m other at ∙ ap Some (point ∙ sym (point_of-listed knots records (suc n) knot here))))
          (sym (told m (omega (arith, before, low))) ∙ e ∙ told (suc n) low),
      λ some knot here. edges-sound n knot here (kept (present-listed knots records (suc n) knot here)) some knot here,
    )

    on : KeepsNode setup knots records 0 → (k : ℕ) → k < length knots → IsNewKey keys k × KeepsEdges space squared_step knots k
        → KeepsNode setup knots records k
    on start zero low both = start
    on start (suc n) low both = KeepsNode-next n low both

    back : (k : ℕ) → k < length knots → KeepsNode setup knots records k → IsNewKey keys k × KeepsEdges space squared_step knots k
    back zero low kept = (λ j before e. omega (arith, before), λ some knot here. absurd (omega (arith, some)))
    back (suc n) low kept = next-KeepsNode n low kept

    -- So if the start keeps the law, the first node that breaks it is the first that breaks one of the two.
    pub IsFirstBreak-nodes : KeepsNode setup knots records 0 → (first : Option ℕ)
        → IsFirstBreak (λ k. IsNewKey keys k × KeepsEdges space squared_step knots k) (length knots) first
        → IsFirstBreak (KeepsNode setup knots records) (length knots) first
    IsFirstBreak-nodes start first h =
        IsFirstBreak-same (λ k. IsNewKey keys k × KeepsEdges space squared_step knots k) (KeepsNode setup knots records) (length knots) (on start) back
        first h
