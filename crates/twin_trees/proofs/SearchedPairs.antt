-- Pairs that were searched: what is within a step of a node, and what is too far.
use Rattle.twin_trees.proofs.Words.{◌≡◌, ℕ, ◌+◌, ◌*◌, ◌<◌, ◌≤◌, List, Option, Some, length, arith, ap, sym, subst, inl, inr, IsPermutation, cases_lt}
use Rattle.twin_trees.proofs.Words.{get_or_read, All-permutation, Contains-permutation, cost_of, squared_distance, IsAllowedEdge, KeepsOrder, Setup, Clear}
use Rattle.twin_trees.proofs.Words.{StandsAt, point_of, TreeState, sum_in, Point, squared_distance-swap, IsPresent-stands, point_of-stands, cost_of-triangle}
use Rattle.twin_trees.proofs.Words.{Grown, IsBounded, IsBounded-stands, sizes_of, state_of_grown, words_of_grown, IsWithin, HasNoneBetween}
use Rattle.twin_trees.proofs.Words.{nowhere, numbered_at, Numbered, AreNodes, Matches, IsCandidate, cost_over, Bridge}
use Rattle.twin_trees.proofs.StraightWays.{line-le_sum}
use Rattle.twin_trees.proofs.TripleOrder.{IsMatched-more}

-- the point of a node of a run is bounded
pub IsBounded-grown : (grown : Grown) (n : ℕ) (p : Point) → StandsAt (state_of_grown grown).points n p → IsBounded p
IsBounded-grown grown n p stands = IsBounded-stands (sizes_of grown.task) (words_of_grown grown) n p stands

-- nodes in another order
pub AreNodes-permutation : (state : TreeState) (nodes others : List Numbered) → IsPermutation nodes others → AreNodes state nodes → AreNodes state others
AreNodes-permutation state nodes others same are = record {
  stand = All-permutation (λ n. StandsAt state.points n.number n.point) nodes others same are.stand;
  each = λ n here. Contains-permutation nodes others _ same (are.each n here);
}

module _ (setup : Setup) (one other : TreeState) (nodes : List Numbered) (are : AreNodes other nodes) (a : ℕ) (p : Point)
    (stands : StandsAt one.points a p) (best : Option Bridge) where
  -- after a walk over all nodes within a step, each of which is matched
  pub Matches-walked : (at : ℕ)
      → ((j : ℕ) → j < at → IsWithin p (setup.step * setup.step) (numbered_at nodes j).point → Matches setup one other best a (numbered_at nodes j).number)
      → HasNoneBetween p (setup.step * setup.step) nodes at (length nodes)
      → (d : ℕ) → Matches setup one other best a d
  Matches-walked at looked none d candidate =
      let node : Numbered = record { point = point_of other.points d; number = d } in
      let there = are.each d candidate.other_present in
      let found : numbered_at nodes there.0 ≡ node = sym (get_or_read nodes there.0 node there.1 (sym there.2) nowhere) in
      let here = point_of-stands one.points a p stands in
      let short : squared_distance (point_of other.points d) p ≤ setup.step * setup.step =
      omega (
        arith,
        candidate.edge.short,
        squared_distance-swap (point_of other.points d) p,
        ap (λ q. squared_distance q (point_of other.points d)) here,
      ) in
      let within : IsWithin p (setup.step * setup.step) (numbered_at nodes there.0).point =
      subst (λ (n : Numbered). IsWithin p (setup.step * setup.step) n.point) (sym found) short in
      elim (cases_lt there.0 at) [
        | inl before ↦ (
            subst (λ (n : Numbered). Matches setup one other best a n.number) found (looked there.0 before within) candidate)
        | inr after ↦ absurd (none there.0 after there.1 within)
      ]

-- ---- two nodes within a step of each other

module _ (setup : Setup) (one other : TreeState) (a b : ℕ) (p q : Point) (first : StandsAt one.points a p) (second : StandsAt other.points b q) where
  at_first : point_of one.points a ≡ p
  at_first = point_of-stands one.points a p first

  at_second : point_of other.points b ≡ q
  at_second = point_of-stands other.points b q second

  -- what the way over them costs, by their points and their costs-to-come
  pub cost_over-stands : cost_over one other a b ≡ sum_in one a + sum_in other b + cost_of p q
  cost_over-stands = omega (arith, ap (λ r. cost_of r (point_of other.points b)) at_first, ap (cost_of p) at_second)

  -- they are a candidate if the segment between them is clear
  pub IsCandidate-clear : IsWithin p (setup.step * setup.step) q → Clear setup.space p q → IsCandidate setup one other a b
  IsCandidate-clear within clear =
      let short : squared_distance p q ≤ setup.step * setup.step = omega (arith, within, squared_distance-swap p q) in
      let edge : IsAllowedEdge setup p q = record { clear = clear; short = short } in
      record {
        one_present = IsPresent-stands one.points a p first;
        other_present = IsPresent-stands other.points b q second;
        edge = subst (λ r. IsAllowedEdge setup r (point_of other.points b)) (sym at_first) (subst (IsAllowedEdge setup p) (sym at_second) edge);
      }

  -- and none if it is not
  pub Clear-candidate : IsCandidate setup one other a b → Clear setup.space p q
  Clear-candidate candidate = subst (λ r. Clear setup.space r q) at_first (subst (Clear setup.space (point_of one.points a)) at_second candidate.edge.clear)

-- ---- nodes that are too far

-- if the cost-to-come of a node and the line to the root of the other tree are above a bridge, so is each way over the node
pub Matches-far :
    (setup own : Setup) (one other : TreeState) (order : KeepsOrder own other) (bridge : Bridge) (a : ℕ)
    → bridge.cost < sum_in one a + cost_of (point_of one.points a) own.start → (d : ℕ) → Matches setup one other (Some bridge) a d
Matches-far setup own one other order bridge a far d candidate =
    let line = line-le_sum own other order d candidate.other_present in
    let triangle = cost_of-triangle (point_of one.points a) (point_of other.points d) own.start in
    IsMatched-more bridge (cost_over one other a d) a d (omega (arith, far, line, triangle))

-- ---- discs by their center and square

module _ {center p : Point} {square limit : ℕ} (at : center ≡ p) (same : square ≡ limit) where
  pub IsWithin-same : (q r : Point) → q ≡ r → IsWithin center square r → IsWithin p limit q
  IsWithin-same q r is within =
      omega (arith, within, same, ap (squared_distance r) at, ap (λ s. squared_distance s p) is)

  pub HasNoneBetween-same : (nodes : List Numbered) (from past : ℕ) → HasNoneBetween center square nodes from past → HasNoneBetween p limit nodes from past
  HasNoneBetween-same nodes from past none j later below within =
      none j later below (omega (arith, within, same, ap (squared_distance (numbered_at nodes j).point) at))
