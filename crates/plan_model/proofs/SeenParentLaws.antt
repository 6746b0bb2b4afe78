-- Parents and costs that were seen of a tree which keeps the order law are lawful, and stay so while it grows.
use Rattle.plan_model.proofs.Words.{◌≡◌, ℕ, suc, Some, arith, sym, ap, ◌∙◌, subst, inl, inr, ◌⊎◌, Hangs, KeepsOrder, KeepsFirstCosts, point_of, AreSeenLawfully}
use Rattle.plan_model.proofs.Words.{Sight, TakesOver, SeenTree, SharedTree, seen_whole, Setup, TreeState, GrowsInto}
use Rattle.plan_model.proofs.OrderLaws.{Hangs-grows}
use Rattle.plan_model.proofs.TreeStateLaws.{IsPresent-grows, point_of-grows}
use Rattle.plan_model.proofs.SightsTogether.{cheaper_either}
use Rattle.plan_model.proofs.TrueSights.{whole_pair-present}

-- What was seen lawfully stays so while the tree grows.
pub AreSeenLawfully-grows : (setup : Setup) (seen : SeenTree) (before after : TreeState) → GrowsInto before after
    → AreSeenLawfully setup seen before → AreSeenLawfully setup seen after
AreSeenLawfully-grows setup seen before after grows lawful = record {
  present = λ n pair h. IsPresent-grows before after grows n (lawful.present n pair h);
  hangs = λ n pair h.
      subst (λ p. Hangs setup after (suc n) p pair.0 pair.1) (sym (point_of-grows before after grows (suc n) (lawful.present (suc n) pair h)))
      (Hangs-grows setup before after grows (suc n) (point_of before.points (suc n)) pair.0 pair.1 (lawful.hangs n pair h));
  first = λ n pair h. omega (arith, lawful.first n pair h, grows.first_costs n (lawful.present n pair h));
  start = lawful.start;
}

-- The whole of a tree that keeps the order law is seen lawfully,
pub AreSeenLawfully-whole : (setup : Setup) (tree : SharedTree) → KeepsOrder setup tree.state → KeepsFirstCosts setup tree.state
    → AreSeenLawfully setup (seen_whole tree) tree.state
AreSeenLawfully-whole setup tree order firsts = record {
  present = λ n pair h. (whole_pair-present tree n pair h).present;
  hangs = λ n pair h.
      let whole = whole_pair-present tree (suc n) pair h in
      subst (λ (t : ℕ × ℕ). Hangs setup tree.state (suc n) (point_of tree.state.points (suc n)) t.0 t.1) (sym whole.same)
      (order.hangs n whole.present);
  first = λ n pair h.
      let whole = whole_pair-present tree n pair h in
      omega (arith, firsts.kept n whole.present, ap (λ (t : ℕ × ℕ). t.1) whole.same);
  start = λ pair h.
      let whole = whole_pair-present tree 0 pair h in
      pair_is pair (tree.state.parent 0) (tree.state.cost 0) whole.same order.start_parent order.start_cost;
}
  where
    pair_is : (pair : ℕ × ℕ) (parent cost : ℕ) → pair ≡ (parent, cost) → parent ≡ 0 → cost ≡ 0 → pair ≡ (0, 0)
    pair_is pair parent cost e f g = cc

-- and so is what comes of two that are seen lawfully, as the whole is.
pub AreSeenLawfully-either : (setup : Setup) (one other both : SeenTree) (state : TreeState)
    → ((n : ℕ) (pair : ℕ × ℕ) → both.parent_and_cost n ≡ Some pair → (one.parent_and_cost n ≡ Some pair) ⊎ (other.parent_and_cost n ≡ Some pair))
    → AreSeenLawfully setup one state → AreSeenLawfully setup other state → AreSeenLawfully setup both state
AreSeenLawfully-either setup one other both state either old now = record {
  present = λ n pair h. elim (either n pair h) [ inl e ↦ old.present n pair e | inr e ↦ now.present n pair e ];
  hangs = λ n pair h. elim (either (suc n) pair h) [ inl e ↦ old.hangs n pair e | inr e ↦ now.hangs n pair e ];
  first = λ n pair h. elim (either n pair h) [ inl e ↦ old.first n pair e | inr e ↦ now.first n pair e ];
  start = λ pair h. elim (either 0 pair h) [ inl e ↦ old.start pair e | inr e ↦ now.start pair e ];
}

-- So it is with what a worker has taken over.
pub AreSeenLawfully-takes : (setup : Setup) (before after : Sight) (other : SeenTree) (state : TreeState) → TakesOver before other after
    → AreSeenLawfully setup before.seen state → AreSeenLawfully setup other state → AreSeenLawfully setup after.seen state
AreSeenLawfully-takes setup before after other state takes =
    AreSeenLawfully-either setup before.seen other after.seen state
    (λ n pair h. cheaper_either (before.seen.parent_and_cost n) (other.parent_and_cost n) pair (sym (takes.seen.pairs n) ∙ h))
