-- One worker of several follows a route of open links, if each mark of it but the last ends at a node of its own that stood before.
use Rattle.route_laws.proofs.Words.{◌≡◌, ◌⊎◌, inl, inr, ℕ, suc, List, [], ◌∷◌, map, Some, refl, sym, ◌∙◌, subst, All, All-cons, All-nil, AreLinks, HasGoalNode}
use Rattle.route_laws.proofs.Words.{IsOpenLink, AreHandledInTurn, EndsAtNode, HasNodeAt, IsHandledAfter}
use Rattle.route_laws.proofs.Common.{Point, Outcome, Placed, Same, IsClosed, mark_at, Setup, StandsAt, TreeState}
use Rattle.route_laws.proofs.FollowedLinks.{EndsThere-lawful}

-- a mark has one outcome, and so ended at one node
one_node : (outcome : Outcome) (k m n : ℕ) → ((m ≡ suc k) × (outcome ≡ Placed)) ⊎ (outcome ≡ Same m) → ((n ≡ suc k) × (outcome ≡ Placed)) ⊎ (outcome ≡ Same n)
    → m ≡ n
one_node outcome k m n (inl e) (inl f) = e.0 ∙ sym f.0
one_node outcome k m n (inl e) (inr f) = let both = sym e.1 ∙ f in cc
one_node outcome k m n (inr e) (inl f) = let both = sym e ∙ f.1 in cc
one_node outcome k m n (inr e) (inr f) = let both = sym e ∙ f in cc

module _ (setup : Setup) (marks : List Point) (limit : ℕ) (state : TreeState) (closed : IsClosed setup marks limit state) where
  abbrev IsFollowed : List ℕ → Type 0
  IsFollowed numbers = All (λ k. HasNodeAt state.points (mark_at marks k)) numbers ⊎ HasGoalNode setup.goals state.points

  IsFollowed-cons : (k n : ℕ) (numbers : List ℕ) → StandsAt state.points n (mark_at marks k) → IsFollowed numbers → IsFollowed (k ∷ numbers)
  IsFollowed-cons k n numbers stands (inl rest) = inl (All-cons (λ k. HasNodeAt state.points (mark_at marks k)) k numbers (n, stands) rest)
  IsFollowed-cons k n numbers stands (inr goal) = inr goal

  -- one link
  ends : (k n : ℕ) (a : Point) → StandsAt state.points n a → IsOpenLink setup a (mark_at marks k) → IsHandledAfter state n k
      → ((m : ℕ) × EndsAtNode state k m × StandsAt state.points m (mark_at marks k)) ⊎ HasGoalNode setup.goals state.points
  ends k n a stands link after =
      elim (EndsThere-lawful setup marks limit state closed k n a (mark_at marks k) after.entry stands after.earlier link after.entry.outcome refl
      (closed.lawful k after.entry after.recorded)) [
        | inl there ↦ inl (there.0, record { entry = after.entry; recorded = after.recorded; ended = there.1 }, there.2)
        | inr goal ↦ inr goal
      ]

  same_node : (k m n : ℕ) → EndsAtNode state k m → EndsAtNode state k n → m ≡ n
  same_node k m n one other =
      let both : Some one.entry ≡ Some other.entry = sym one.recorded ∙ other.recorded in
      let e : one.entry ≡ other.entry = cc in
      let ended = subst (λ r. ((m ≡ suc k) × (r.outcome ≡ Placed)) ⊎ (r.outcome ≡ Same m)) e one.ended in
      one_node other.entry.outcome k m n ended other.ended

  follows :
      (numbers : List ℕ) (n : ℕ) (a : Point) → StandsAt state.points n a → AreLinks (IsOpenLink setup) a (map (mark_at marks) numbers)
      → AreHandledInTurn state n numbers → IsFollowed numbers
  follows [] n a stands links turns = inl (All-nil (λ k. HasNodeAt state.points (mark_at marks k)))
  follows (k ∷ []) n a stands links turns =
      elim (ends k n a stands links.0 turns) [
        | inl there ↦ IsFollowed-cons k there.0 [] there.2 (inl (All-nil (λ k. HasNodeAt state.points (mark_at marks k))))
        | inr goal ↦ inr goal
      ]
  follows (k ∷ l ∷ numbers) n a stands links turns =
      elim (ends k n a stands links.0 turns.0) [
        | inl there ↦ (
            let here = subst (λ m. StandsAt state.points m (mark_at marks k)) (same_node k there.0 turns.1.0 there.1 turns.1.1) there.2 in
            IsFollowed-cons k there.0 (l ∷ numbers) there.2 (follows (l ∷ numbers) turns.1.0 (mark_at marks k) here links.1 turns.1.2))
        | inr goal ↦ inr goal
      ]

  pub HasNodeAt-open_route :
      (numbers : List ℕ) → AreLinks (IsOpenLink setup) setup.start (map (mark_at marks) numbers) → AreHandledInTurn state 0 numbers → IsFollowed numbers
  HasNodeAt-open_route numbers links turns = follows numbers 0 setup.start closed.order.start_stands links turns
