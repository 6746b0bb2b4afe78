use Rattle.plan_model_tests.proofs.Words.{◌≡◌, ◌⊎◌, inl, inr, ℕ, suc, Some, refl, sym, ap, ◌∙◌, subst, Placed, Same, Record, IsEarlier, placed_by, EndsAtNode}
use Rattle.plan_model_tests.proofs.Words.{IsHandledAfter, two_workers}
use Rattle.plan_model_tests.proofs.routes.followed_routes.workers_turns.Goals as goal

-- a mark whose record says that it was placed ended at its own node
ends_at_own : (k m : ℕ) (own : Record) → two_workers.record_of k ≡ Some own → own.outcome ≡ Placed → EndsAtNode two_workers k m → m ≡ suc k
ends_at_own k m own recorded placed ends = by_end ends.ended
  where
    by_end : ((m ≡ suc k) × (ends.entry.outcome ≡ Placed)) ⊎ (ends.entry.outcome ≡ Same m) → m ≡ suc k
    by_end (inl e) = e.0
    by_end (inr e) =
        let both : Some own ≡ Some ends.entry = sym recorded ∙ ends.recorded in
        let one : own ≡ ends.entry = cc in
        let outcome = sym placed ∙ ap (λ r. r.outcome) one ∙ e in
        cc

-- so the next mark was handled after that node, by its own record
after_own : (l k m : ℕ) (own entry : Record) → two_workers.record_of k ≡ Some own → own.outcome ≡ Placed → two_workers.record_of l ≡ Some entry
    → EndsAtNode two_workers k m → IsHandledAfter two_workers m l → IsEarlier two_workers entry (suc k)
after_own l k m own entry recorded placed next ends after =
    let both : Some after.entry ≡ Some entry = sym after.recorded ∙ next in
    let one : after.entry ≡ entry = cc in
    subst (λ r. IsEarlier two_workers r (suc k)) one
    (subst (IsEarlier two_workers after.entry) (ends_at_own k m own recorded placed ends) after.earlier)

pub returns : goal.returns
returns c = record {
  by_one = (
    record { entry = placed_by 0 0 0 0 12800 1; recorded = refl; earlier = refl },
    (
      1,
      record { entry = placed_by 0 0 0 0 12800 1; recorded = refl; ended = inl (refl, refl) },
      record { entry = placed_by 0 1 1 1 25600 2; recorded = refl; earlier = refl },
    ),
  );
  by_two = λ h.
      let early = after_own 1 0 h.1.0 (placed_by 0 0 0 0 12800 1) (placed_by 1 0 0 0 12800 1) refl refl refl h.1.1 h.1.2 in
      cc;
  out_of_turn = λ h.
      let early = after_own 0 2 h.1.0 (placed_by 0 1 1 1 25600 2) (placed_by 0 0 0 0 12800 1) refl refl refl h.1.1 h.1.2 in
      cc;
}
