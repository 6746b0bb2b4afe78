use Rattle.plan_model_tests.proofs.Words.{◌≡◌, ℕ, zero, suc, Bool, true, false, arith, refl, inl, inr, ◌⊎◌, two_points, two_children, Point, StandsAt, at}
use Rattle.plan_model_tests.proofs.Words.{three_children, same_y}
use Rattle.plan_model.specs.Vectors.SeenTrees.{three_points}
use Rattle.plan_model_tests.proofs.vectors.links.Goals as goal

elsewhere : (a : ℕ) (b : Bool) → ¬ ((a ≡ 1) × (b ≡ false)) → three_children a b ≡ two_children a b
elsewhere zero false h = refl
elsewhere zero true h = refl
elsewhere (suc zero) false h = absurd (h (refl, refl))
elsewhere (suc zero) true h = refl
elsewhere (suc (suc a)) false h = refl
elsewhere (suc (suc a)) true h = refl

stands_later : (k : ℕ) (r : Point) → StandsAt three_points k r → StandsAt two_points k r ⊎ ((k ≡ 2) × (r ≡ at 9 2))
stands_later zero r h = inl h
stands_later (suc zero) r h = inl h
stands_later (suc (suc zero)) r h = inr (refl, cc)
stands_later (suc (suc (suc k))) r h = cc

stands_before : (k : ℕ) (r : Point) → StandsAt two_points k r ⊎ ((k ≡ 2) × (r ≡ at 9 2)) → StandsAt three_points k r
stands_before zero r (inl h) = h
stands_before (suc zero) r (inl h) = h
stands_before (suc (suc k)) r (inl h) = cc
stands_before k r (inr (e, f)) = rw (e, f) refl

right_is_not_left : ¬ (true ≡ false)
right_is_not_left e = cc

no_node_past_2 : (k : ℕ) → ¬ (StandsAt two_points (suc (suc (suc k))) (at 1 1) ⊎ ((suc (suc (suc k)) ≡ 2) × (at 1 1 ≡ at 9 2)))
no_node_past_2 k (inl h) = cc
no_node_past_2 k (inr h) = omega (arith, h.0)

pub returns : goal.returns
returns c = record {
  linked = record { was_empty = refl; linked = refl; elsewhere = elsewhere };
  linked_before = λ h. let e = h.was_empty in cc;
  not_linked = λ h. let e = h.linked in cc;
  other_number = λ h. let e = h.linked in cc;
  other_side = λ h. let e = h.linked in cc;
  two_links = λ h. let e = h.elsewhere 1 true (λ q. right_is_not_left q.1) in cc;
  added = record { absent = λ h. cc; stands = λ k r. (stands_later k r, stands_before k r) };
  present_before = λ h. h.absent refl;
  not_added = λ h. let e = (h.stands 2 (at 9 2)).1 (inr (refl, refl)) in cc;
  added_elsewhere = λ h. omega (arith, same_y (at 9 2) (at 9 3) ((h.stands 2 (at 9 3)).1 (inr (refl, refl))));
  other_node_gone = λ h. let e = (h.stands 1 (at 5 3)).1 (inl refl) in cc;
  other_node_too = λ h. no_node_past_2 0 ((h.stands 3 (at 1 1)).0 refl);
}
