-- The paths of a closed run: each edge is clear, since each node hangs below its parent by an allowed edge.
use Rattle.plan_model.proofs.Words.{◌≡◌, ℕ, zero, suc, ◌+◌, ◌-◌, ◌<◌, ◌≤◌, Option, Some, None, List, [], ◌∷◌, ◌++◌, length, map, reverse, arith, refl, sym, ap}
use Rattle.plan_model.proofs.Words.{◌∙◌, subst, inl, inr, cases_lt, map-append, get_or_append_left, get_or-append_right, reverse-append, Point, Goal, best_node}
use Rattle.plan_model.proofs.Words.{Clear, path_point, IsClearPath, ConfigurationSpace, KeepsOrder, AreNumberedTo, IsPresent, point_at, point_of, best_path}
use Rattle.plan_model.proofs.Words.{path_to, Setup, TreeState, chain_in}
use Rattle.std.proofs.Common.{length-append}
use Rattle.plan_model.proofs.BestNodeLaws.{IsPresent-goal, best_node-some}
use Rattle.plan_model.proofs.ChainLaws.{chain-start, chain-parent}
use Rattle.plan_model.proofs.OrderedTrees.{FallAlong-ordered}
use Rattle.plan_model.proofs.OrderLaws.{KeepsOrder-falls}

-- a clear path that ends at this point
pub record LeadsTo (space : ConfigurationSpace) (path : List Point) (p : Point) : Type 0 where
  pub is_clear : IsClearPath space path
  pub some : 0 < length path
  pub last : path_point path (length path - 1) ≡ p

-- one edge more
LeadsTo-next :
    (space : ConfigurationSpace) (path : List Point) (p q : Point) → LeadsTo space path p → Clear space p q → LeadsTo space (path ++ q ∷ []) q
LeadsTo-next space path p q h edge = record {
  is_clear = record { clear = clear };
  some = omega (arith, long);
  last = let place : length (path ++ q ∷ []) - 1 ≡ length path = omega (arith, long) in ap (path_point (path ++ q ∷ [])) place ∙ at_end;
}
  where
    long : length (path ++ q ∷ []) ≡ length path + 1
    long = length-append path (q ∷ [])

    at_end : path_point (path ++ q ∷ []) (length path) ≡ q
    at_end =
        get_or-append_right path (q ∷ []) (length path) (length path) (record { x = 0; y = 0 }) refl (omega arith)
        ∙ (let none : length path - length path ≡ 0 = omega arith in ap (path_point (q ∷ [])) none)

    before : (i : ℕ) → i < length path → path_point (path ++ q ∷ []) i ≡ path_point path i
    before i low = get_or_append_left path (q ∷ []) (record { x = 0; y = 0 }) i low

    clear : (i : ℕ) → suc i < length (path ++ q ∷ []) → Clear space (path_point (path ++ q ∷ []) i) (path_point (path ++ q ∷ []) (suc i))
    clear i low =
        elim (cases_lt (suc i) (length path)) [
          | inl within ↦ (
              subst (λ b. Clear space (path_point (path ++ q ∷ []) i) b) (sym (before (suc i) within))
              (subst (λ a. Clear space a (path_point path (suc i))) (sym (before i (omega (arith, within)))) (h.is_clear.clear i within)))
          | inr past ↦ (
              let number : suc i ≡ length path = omega (arith, low, long, past) in
              let place : i ≡ length path - 1 = omega (arith, number) in
              let one = before i (omega (arith, number)) ∙ ap (path_point path) place ∙ h.last in
              let other = ap (path_point (path ++ q ∷ [])) number ∙ at_end in
              subst (λ b. Clear space (path_point (path ++ q ∷ []) i) b) (sym other) (subst (λ a. Clear space a q) (sym one) edge))
        ]

module _ (setup : Setup) (state : TreeState) (order : KeepsOrder setup state) where
  -- the path to a node is that to its parent, and the node
  path-parent : (n : ℕ) → IsPresent state.points (suc n) → path_to state (suc n) ≡ path_to state (state.parent (suc n)) ++ point_of state.points (suc n) ∷ []
  path-parent n h =
      let up : List ℕ = chain_in state (state.parent (suc n)) in
      let chain = chain-parent state.cost state.points state.parent (FallAlong-ordered setup state order) n h in
      ap (λ ns. map (point_of state.points) (reverse ns)) chain
      ∙ ap (map (point_of state.points)) (reverse-append (suc n ∷ []) up)
      ∙ map-append (point_of state.points) (reverse up) (suc n ∷ [])

  path-start : path_to state 0 ≡ point_of state.points 0 ∷ []
  path-start = ap (λ ns. map (point_of state.points) (reverse ns)) (chain-start state.cost state.points state.parent (FallAlong-ordered setup state order))

  LeadsTo-below : (most n : ℕ) → IsPresent state.points n → state.cost n ≤ most → LeadsTo setup.space (path_to state n) (point_of state.points n)
  LeadsTo-below most zero h l =
      subst (λ path. LeadsTo setup.space path (point_of state.points 0)) (sym path-start)
      (record { is_clear = record { clear = λ i low. absurd (omega (arith, low)) }; some = omega arith; last = refl })
  LeadsTo-below zero (suc n) h l = absurd (omega (arith, KeepsOrder-falls setup state order n h, l))
  LeadsTo-below (suc most) (suc n) h l =
      let below = order.hangs n h in
      let up = LeadsTo-below most (state.parent (suc n)) below.present (omega (arith, KeepsOrder-falls setup state order n h, l)) in
      subst (λ path. LeadsTo setup.space path (point_of state.points (suc n))) (sym (path-parent n h))
      (LeadsTo-next setup.space (path_to state (state.parent (suc n))) (point_of state.points (state.parent (suc n)))
      (point_of state.points (suc n)) up below.edge.clear)

  -- The path to each node is clear.
  pub IsClearPath-ordered : (n : ℕ) → IsPresent state.points n → IsClearPath setup.space (path_to state n)
  IsClearPath-ordered n h = (LeadsTo-below (state.cost n) n h (omega arith)).is_clear

  -- So is the best one.
  pub IsClearPath-best : (goals : List Goal) (limit : ℕ) → AreNumberedTo limit state.points
      → IsClearPath setup.space (best_path state (best_node goals limit state))
  IsClearPath-best goals limit numbered = by_best (best_node goals limit state) refl
    where
      by_best : (o : Option ℕ) → best_node goals limit state ≡ o → IsClearPath setup.space (best_path state o)
      by_best None e = record { clear = λ i low. absurd (omega (arith, low)) }
      by_best (Some n) e =
          IsClearPath-ordered n (IsPresent-goal goals (point_at state.points n) (best_node-some goals limit state n numbered e).member)
