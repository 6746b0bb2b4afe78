-- In a closed run no node of a chain in order was placed at more than the chain costs up to it, nor is the last one kept at more.
use Rattle.route_laws.proofs.Words.{◌≡◌, ℕ, suc, ◌+◌, ◌≤◌, List, [], ◌∷◌, Option, Some, None, arith, refl, sym, ap, ◌∙◌, subst, inl, inr, IsChain}
use Rattle.route_laws.proofs.Words.{IsChainInOrder, IsLinkInOrder, cost_of_chain}
use Rattle.route_laws.proofs.Common.{Goal, Point, first_hanging, cost_of, IsClosed, IsPlacedLawfully, Setup, IsGoalNode, best_node, AreNumberedTo}
use Rattle.route_laws.proofs.Common.{IsPresent, point_of, TreeState, first_cost_of, recorded_or, sum_in, best_node-none, best_node-some, KeepsFirstCosts-closed}
use Rattle.route_laws.proofs.Common.{IsPlacedLawfully-closed, cost_of-swap, numbers-closed, earlier-present, point_of-stands, start-present, sum_in-le_cost}
use Rattle.route_laws.proofs.Common.{present-of_record}

-- a run with a goal node whose sum is at most so much has a best one
pub best_within :
    (goals : List Goal) (limit : ℕ) (state : TreeState) → AreNumberedTo limit state.points → (n : ℕ) → IsGoalNode goals state.points n → (total : ℕ)
    → sum_in state n ≤ total → (best : ℕ) × (best_node goals limit state ≡ Some best) × (sum_in state best ≤ total)
best_within goals limit state numbered n goal total within = by_best (best_node goals limit state) refl
  where
    by_best : (o : Option ℕ) → best_node goals limit state ≡ o → (best : ℕ) × (best_node goals limit state ≡ Some best) × (sum_in state best ≤ total)
    by_best None e = absurd (best_node-none goals limit state numbered e n goal)
    by_best (Some best) e = (best, e, omega (arith, ((best_node-some goals limit state best numbered e).not_above n goal).least, within))

module _ (setup : Setup) (marks : List Point) (limit : ℕ) (state : TreeState) (closed : IsClosed setup marks limit state) where
  abbrev point : ℕ → Point
  point n = point_of state.points n

  -- ---- one link

  module _ (i n : ℕ) (link : IsLinkInOrder setup state i n) where
    -- the law of a mark that was placed, said of the point at which its node stands
    own_law : IsPlacedLawfully setup state link.mark link.entry link.entry.nearest (first_hanging link.entry) (point n)
    own_law =
        let own = IsPlacedLawfully-closed setup marks limit state closed link.mark link.entry link.recorded link.placed in
        let here = ap point link.number ∙ point_of-stands state.points (suc link.mark) _ own.by_tree.stands in
        subst (IsPlacedLawfully setup state link.mark link.entry link.entry.nearest (first_hanging link.entry)) (sym here) own

    own_first_cost : first_cost_of state n ≡ link.entry.first_cost
    own_first_cost = ap (first_cost_of state) link.number ∙ ap (recorded_or (state.written_cost (suc link.mark))) link.recorded

    -- the later node is present
    later-present : IsPresent state.points n
    later-present =
        subst (IsPresent state.points) (sym link.number) (present-of_record state closed.placed link.mark link.entry link.recorded link.placed)

    -- and so is the earlier one
    first-present : IsPresent state.points i
    first-present = earlier-present state link.entry (start-present setup state closed.order) closed.placed i link.neighbour.earlier

    -- the later node was placed at no more than by way of the earlier one
    first_cost-link : first_cost_of state n ≤ first_cost_of state i + cost_of (point i) (point n)
    first_cost-link = omega (arith, own_law.by_worker.chosen i link.neighbour, own_first_cost)

    -- and the earlier one is kept at no more than by way of the later one
    cost-link_back : state.cost i ≤ first_cost_of state n + cost_of (point i) (point n)
    cost-link_back = omega (arith, own_law.by_worker.rewired i link.neighbour, own_first_cost)

  -- ---- chains

  -- no node of a chain in order was placed at more than the chain costs up to it
  first_cost-chain : (n : ℕ) (earlier : List ℕ) → IsChainInOrder setup state (n ∷ earlier) → first_cost_of state n ≤ cost_of_chain state (n ∷ earlier)
  first_cost-chain n [] h = omega (arith, ap (first_cost_of state) h)
  first_cost-chain n (i ∷ earlier) (link, rest) = omega (arith, first_cost-link i n link, first_cost-chain i earlier rest)

  chain-present : (n : ℕ) (earlier : List ℕ) → IsChain setup state n earlier → IsPresent state.points n
  chain-present n [] h = subst (IsPresent state.points) (sym h) (start-present setup state closed.order)
  chain-present n (i ∷ earlier) (inl link, rest) = later-present i n link
  chain-present n (i ∷ earlier) (inr link, rest) = first-present n i link

  -- the last node of a chain is kept at no more than the chain costs
  pub cost-chain : (n : ℕ) (earlier : List ℕ) → IsChain setup state n earlier → state.cost n ≤ cost_of_chain state (n ∷ earlier)
  cost-chain n [] h = omega (arith, ap state.cost h, closed.order.start_cost)
  cost-chain n (i ∷ earlier) (inl link, rest) =
      omega (
        arith,
        (KeepsFirstCosts-closed setup marks limit state closed).kept n (later-present i n link),
        first_cost-link i n link,
        first_cost-chain i earlier rest,
      )
  cost-chain n (i ∷ earlier) (inr link, rest) =
      omega (arith, cost-link_back n i link, cost_of-swap (point n) (point i), first_cost-chain i earlier rest)

  -- so does its sum
  pub sum_in-chain : (n : ℕ) (earlier : List ℕ) → IsChain setup state n earlier → sum_in state n ≤ cost_of_chain state (n ∷ earlier)
  sum_in-chain n earlier chain =
      omega (arith, sum_in-le_cost setup state closed.order n (chain-present n earlier chain), cost-chain n earlier chain)

  -- and that of the best node, if this one lies in a goal
  pub best_node-chain : (n : ℕ) (earlier : List ℕ) → IsChain setup state n earlier → (goals : List Goal) → IsGoalNode goals state.points n
      → (best : ℕ) × (best_node goals limit state ≡ Some best) × (sum_in state best ≤ cost_of_chain state (n ∷ earlier))
  best_node-chain n earlier chain goals in_goal =
      best_within goals limit state (numbers-closed setup marks limit state closed) n in_goal _ (sum_in-chain n earlier chain)
