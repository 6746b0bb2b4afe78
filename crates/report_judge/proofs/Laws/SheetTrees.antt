-- Nodes that keep their law, each at its line, make a settled tree that keeps the order law.
use Rattle.report_judge.proofs.Words.{◌≡◌, ℕ, zero, suc, ◌+◌, ◌-◌, ◌*◌, ◌<◌, ◌≤◌, List, ◌∷◌, Option, Some, map, arith, refl, sym, ap, ◌∙◌, inl, inr}
use Rattle.report_judge.proofs.Words.{cases_order, Point, cost_of, HangsBelow, KeepsOrder, most_cost_of, Setup, ClearAt, chain_within, length_of_path}
use Rattle.report_judge.proofs.Words.{AreTightAlong, FallAlong, AreDistinct, IsPresent, StandsAt, node_count, point_of, TreeState, IsSettled, sums-tight}
use Rattle.report_judge.proofs.Words.{IsPresent-stands, point_of-stands, node_count-some, HangsBelow-falls, cost_of-short, IsStartNode, IsSoundNode}
use Rattle.report_judge.proofs.Words.{KeepsNodeLaw}

-- a path from p over a chain of some members is an edge longer than the chain's
path_of_chain :
    (points : List (Option Point)) (most : ℕ) (parents : ℕ → ℕ) (n : ℕ) (p : Point)
    → length_of_path (p ∷ map (point_of points) (chain_within (suc most) parents n))
    ≡ cost_of (point_of points n) p + length_of_path (map (point_of points) (chain_within (suc most) parents n))
path_of_chain points most parents zero p = refl
path_of_chain points most parents (suc n) p = refl

module _
    (setup : Setup) (state : TreeState) (clear : ClearAt setup.space setup.start) (start : IsPresent state.points 0)
    (kept : (n : ℕ) → IsPresent state.points n → KeepsNodeLaw setup state n) where
  begin : IsStartNode setup state
  begin = kept 0 start

  sound : (n : ℕ) → IsPresent state.points (suc n) → IsSoundNode setup state (suc n)
  sound n h = kept (suc n) h

  -- no two nodes stand at one point
  alone_below : (i j : ℕ) (p : Point) → i < j → StandsAt state.points i p → StandsAt state.points j p → ⊥
  alone_below i zero p l one other = omega (arith, l)
  alone_below i (suc j) p l one other =
      let own = sound j (IsPresent-stands state.points (suc j) p other) in
      own.alone i l (one ∙ ap Some (sym (point_of-stands state.points (suc j) p other)))

  distinct : AreDistinct state.points
  distinct = λ i j p one other. elim (cases_order i j) [
    | inl e ↦ e
    | inr (inl before) ↦ absurd (alone_below i j p before one other)
    | inr (inr past) ↦ absurd (alone_below j i p past other one)
  ]

  -- each node hangs below its parent, and costs what that does and the edge
  hangs : (n : ℕ) → IsPresent state.points (suc n) → HangsBelow setup state (suc n)
  hangs n h =
      let own = sound n h in
      record { present = own.present; other = own.other; edge = own.edge; above = omega (arith, own.exact) }

  fall : FallAlong state.cost state.points state.parent
  fall = record {
    start = start;
    parent = λ n h. (sound n h).present;
    falls = λ n h. HangsBelow-falls setup state (suc n) distinct h (hangs n h);
  }

  tight : AreTightAlong state.cost state.points state.parent
  tight = record { start = begin.cost; edges = λ n h. (sound n h).exact }

  -- Each node is kept at its sum.
  pub IsSettled-sound : IsSettled state
  IsSettled-sound = λ n h. sym (sums-tight state.cost state.points state.parent fall tight n h)

  -- a chain has an edge less than members, each at most a step long
  short_chain : (most n : ℕ) → IsPresent state.points n
      → length_of_path (map (point_of state.points) (chain_within (suc most) state.parent n)) ≤ 256 * setup.step * most
  short_chain most zero h = omega arith
  short_chain zero (suc n) h = omega arith
  short_chain (suc most) (suc n) h =
      let own = sound n h in
      let up = short_chain most (state.parent (suc n)) own.present in
      let edge = cost_of-short (point_of state.points (state.parent (suc n))) (point_of state.points (suc n)) setup.step own.edge.short in
      let first = path_of_chain state.points most state.parent (state.parent (suc n)) (point_of state.points (suc n)) in
      omega (arith, first, up, edge)

  -- so no sum is above the bound
  bounded : (n : ℕ) → IsPresent state.points n → state.cost n ≤ most_cost_of setup (node_count state.points)
  bounded n h =
      let count : node_count state.points ≡ suc (node_count state.points - 1) = omega (arith, node_count-some state.points 0 start) in
      let chain = ap (λ most. length_of_path (map (point_of state.points) (chain_within most state.parent n))) count in
      omega (arith, IsSettled-sound n h, chain, short_chain (node_count state.points - 1) n h)

  -- The tree keeps the order law.
  pub KeepsOrder-sound : KeepsOrder setup state
  KeepsOrder-sound = record {
    distinct = distinct;
    start_stands = begin.stands;
    start_clear = clear;
    start_parent = begin.parent;
    start_cost = begin.cost;
    hangs = hangs;
    bounded = bounded;
  }
