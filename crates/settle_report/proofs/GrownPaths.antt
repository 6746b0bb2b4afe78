-- Steps up a path of a closed run, from a node to its parent, until the start: kept costs fall, so the walk ends.
use Rattle.settle_report.proofs.Words.{◌≡◌, ◌≢◌, ℕ, zero, suc, ◌<◌, List, [], ◌∷◌, map, reverse, refl, sym, ap, ◌∙◌, subst, Point, point_of, IsPresent}
use Rattle.settle_report.proofs.Words.{StandsAt, path_to, setup_of, FallAlong, TreeState, chain_in, chain-start, chain-parent, KeepsOrder-falls, state_of_grown}
use Rattle.settle_report.proofs.Words.{words_of_grown, start_present-held, Grown}
use mathlib.Core.List.{reverse_aux}
use Rattle.settle_report.proofs.HeldOrders.{parent-held}

-- kept costs fall along the parents of a closed run
pub FallAlong-grown : (grown : Grown) → FallAlong (state_of_grown grown).cost (state_of_grown grown).points (state_of_grown grown).parent
FallAlong-grown grown =
    let words = words_of_grown grown in
    record {
      start = start_present-held grown.task grown.limit words grown.hold_run;
      parent = λ n here. parent-held grown.task grown.limit words grown.hold_run (suc n) here;
      falls = λ n here. KeepsOrder-falls (setup_of grown.task.scene) (state_of_grown grown) grown.hold_run.closed.order n here;
    }

-- the points of a node's chain: from the node up to the start
abbrev pub points_up : TreeState → ℕ → List Point
points_up state n = map (point_of state.points) (chain_in state n)

-- The parent m is present and costs less; the points up from the node are one point more than the parent's.
pub record StepsUp (state : TreeState) (n m : ℕ) (p : Point) : Type 0 where
  pub present : IsPresent state.points m
  pub falls : state.cost m < state.cost n
  pub points : points_up state n ≡ p ∷ points_up state m

module _ (state : TreeState) (fall : FallAlong state.cost state.points state.parent) where
  steps_to_parent : (n : ℕ) (p : Point) → n ≢ 0 → StandsAt state.points n p → StepsUp state n (state.parent n) p
  steps_to_parent zero p other stands = absurd (other refl)
  steps_to_parent (suc n) p other stands =
      let here : IsPresent state.points (suc n) = rw stands refl in
      let at : point_of state.points (suc n) ≡ p = rw stands refl in
      record {
        present = fall.parent n here;
        falls = fall.falls n here;
        points =
            ap (map (point_of state.points)) (chain-parent state.cost state.points state.parent fall n here)
            ∙ ap (λ (q : Point). q ∷ points_up state (state.parent (suc n))) at;
      }

  pub steps_up : (n m : ℕ) (p : Point) → n ≢ 0 → StandsAt state.points n p → m ≡ state.parent n → StepsUp state n m p
  steps_up n m p other stands parent = subst (λ k. StepsUp state n k p) (sym parent) (steps_to_parent n p other stands)

  -- the points up from node 0 are the start's
  pub points_up-start : (n : ℕ) (start : Point) → n ≡ 0 → StandsAt state.points 0 start → points_up state n ≡ start ∷ []
  points_up-start n start first at =
      let stands : point_of state.points 0 ≡ start = rw at refl in
      ap (points_up state) first
      ∙ ap (map (point_of state.points)) (chain-start state.cost state.points state.parent fall)
      ∙ ap (λ (p : Point). p ∷ []) stands

map-reverse_onto : (f : ℕ → Point) (ns ms : List ℕ) → map f (reverse_aux ns ms) ≡ reverse_aux (map f ns) (map f ms)
map-reverse_onto f [] ms = refl
map-reverse_onto f (n ∷ ns) ms = map-reverse_onto f ns (n ∷ ms)

-- the path to a node is the points up, in reverse
pub path_to-reverse : (state : TreeState) (n : ℕ) → path_to state n ≡ reverse (points_up state n)
path_to-reverse state n = map-reverse_onto (point_of state.points) (chain_in state n) []
