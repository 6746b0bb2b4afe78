-- Kept costs that are read: they are sums, and give the costs through nodes.
use Rattle.seq_planner.proofs.Words.{◌≡◌, ℕ, ◌+◌, ◌*◌, ◌^◌, ◌≤◌, List, get_or, arith, refl, sym, ap, ◌∙◌, get_or_default, Point, IsPresent, point_of}
use Rattle.seq_planner.proofs.Words.{node_count, IsBounded, cost_of, points_of, sum_of, Nodes, cost_through, present_below, PlacedPoints, IsSound, cost_of-low}
use Rattle.seq_planner.proofs.SoundTrees.{IsBounded-present, kept_sum, some_present}

-- the kept cost of a present node that was read is its sum
pub sum-read :
    (nodes : Nodes) (costs : List ℕ) (placed : PlacedPoints) (n kept : ℕ) → IsSound nodes costs placed → IsPresent (points_of nodes) n
    → kept ≡ get_or costs n kept → sum_of nodes n ≡ kept
sum-read nodes costs placed n kept h own e =
    kept_sum nodes costs placed n h own
    ∙ sym (e ∙ get_or_default costs n kept 0 (omega (arith, present_below nodes n own, h.cost_count)))

-- so the cost through it is that and the edge
pub through-read :
    (nodes : Nodes) (costs : List ℕ) (placed : PlacedPoints) (n kept : ℕ) (from p : Point) → IsSound nodes costs placed → IsPresent (points_of nodes) n
    → kept ≡ get_or costs n kept → from ≡ point_of (points_of nodes) n → cost_through nodes p n ≡ kept + cost_of from p
through-read nodes costs placed n kept from p h own e at =
    omega (arith, sum-read nodes costs placed n kept h own e, ap (λ a. cost_of a p) at)

-- so is the cost through the node
pub through-bound :
    (nodes : Nodes) (costs : List ℕ) (placed : PlacedPoints) (n : ℕ) (p : Point) → IsSound nodes costs placed → IsPresent (points_of nodes) n
    → IsBounded p → cost_through nodes p n ≤ node_count (points_of nodes) * 2 ^ 29
through-bound nodes costs placed n p h own within =
    let from = point_of (points_of nodes) n in
    omega (
      arith,
      kept_sum nodes costs placed n h own,
      h.cost_bound n,
      some_present nodes costs placed h,
      cost_of-low from p (IsBounded-present nodes costs placed n from h own refl) within,
    )
