-- The nodes of a tree as numbered points, one more of them.
use Rattle.twin_trees.proofs.Words.{◌≡◌, ℕ, ◌+◌, ◌<◌, List, [], ◌∷◌, ◌++◌, All, Contains, arith, ap, sym, subst, ◌∙◌, inl, inr, cases_eq, All-push}
use Rattle.twin_trees.proofs.Words.{Contains-append_left, Contains-push, IsBounded, IsPresent, StandsAt, point_of, TreeState, Point, point_of-stands, Numbered}

-- the numbered points are the nodes below a number
pub record AreNodesBelow (state : TreeState) (nodes : List Numbered) (number : ℕ) : Type 0 where
  pub stand : All (λ n. StandsAt state.points n.number n.point) nodes
  pub bounded : All (λ n. IsBounded n.point) nodes
  pub each : (n : ℕ) → n < number → IsPresent state.points n → Contains nodes (record { point = point_of state.points n; number = n })

module _ (state : TreeState) (nodes : List Numbered) (number : ℕ) (below : AreNodesBelow state nodes number) where
  -- one more node
  pub AreNodesBelow-push : (p : Point) → StandsAt state.points number p → IsBounded p
      → AreNodesBelow state (nodes ++ (record { point = p; number = number }) ∷ []) (number + 1)
  AreNodesBelow-push p stands bounded =
      let node : Numbered = record { point = p; number = number } in
      record {
        stand = All-push (λ (n : Numbered). StandsAt state.points n.number n.point) nodes node below.stand stands;
        bounded = All-push (λ (n : Numbered). IsBounded n.point) nodes node below.bounded bounded;
        each = λ n l here.
            elim (cases_eq n number) [
              | inl same ↦ (
                  let at : point_of state.points n ≡ p = ap (point_of state.points) same ∙ point_of-stands state.points number p stands in
                  let is : ◌≡◌ {A = Numbered} (record { point = point_of state.points n; number = n }) node = λ i. record { point = at i; number = same i } in
                  subst (Contains (nodes ++ node ∷ [])) (sym is) (Contains-push nodes node))
              | inr other ↦ (
                  let old : Numbered = record { point = point_of state.points n; number = n } in
                  Contains-append_left nodes (node ∷ []) old (below.each n (omega (arith, l, other)) here))
            ];
      }

  -- a number without a node is passed over
  pub AreNodesBelow-skip : ¬ IsPresent state.points number → AreNodesBelow state nodes (number + 1)
  AreNodesBelow-skip absent = record {
    stand = below.stand;
    bounded = below.bounded;
    each = λ n l here.
        elim (cases_eq n number) [
          | inl same ↦ absurd (absent (subst (IsPresent state.points) same here))
          | inr other ↦ below.each n (omega (arith, l, other)) here
        ];
  }
