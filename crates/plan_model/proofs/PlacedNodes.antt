-- The present nodes beside the start are those of the marks whose records say that they were placed.
use Rattle.plan_model.proofs.Words.{◌≡◌, ℕ, suc, Bool, true, false, Option, Some, None, refl, sym, ap, ◌∙◌, ◌↔◌, is_some, false_from_ne_true, true≢false}
use Rattle.plan_model.proofs.Words.{Outcome, Placed, Same, Blocked, Skipped, Record, is_placed, IsPresent, point_at, TreeState, ArePlacedMarks, has_outcome}

-- an outcome that counts as placed is
pub is_placed-true : (outcome : Outcome) → is_placed outcome ≡ true → outcome ≡ Placed
is_placed-true Placed h = refl
is_placed-true (Same j) h = cc
is_placed-true Blocked h = cc
is_placed-true Skipped h = cc

-- a mark that counts as placed has a record of that
pub placed_record : (o : Option Record) → has_outcome is_placed o ≡ true → (entry : Record) × (o ≡ Some entry) × (entry.outcome ≡ Placed)
placed_record None h = cc
placed_record (Some entry) h = (entry, refl, is_placed-true entry.outcome h)

-- and one with such a record counts
pub counts_placed : (o : Option Record) (entry : Record) → o ≡ Some entry → entry.outcome ≡ Placed → has_outcome is_placed o ≡ true
counts_placed o entry is placed = ap (has_outcome is_placed) is ∙ ap is_placed placed

module _ (state : TreeState) (placed : ArePlacedMarks state) (k : ℕ) where
  -- the mark of a present node was placed
  pub record-of_present : IsPresent state.points (suc k) → (entry : Record) × (state.record_of k ≡ Some entry) × (entry.outcome ≡ Placed)
  record-of_present h = placed_record (state.record_of k) (sym (placed k) ∙ h)

  -- and the node of a mark that was placed is present
  pub present-of_record : (entry : Record) → state.record_of k ≡ Some entry → entry.outcome ≡ Placed → IsPresent state.points (suc k)
  present-of_record entry is h = placed k ∙ counts_placed (state.record_of k) entry is h

-- if both are so of each mark, they are the placed ones
pub ArePlacedMarks-from :
    (state : TreeState)
    → ((k : ℕ) → IsPresent state.points (suc k) ↔ ((entry : Record) × (state.record_of k ≡ Some entry) × (entry.outcome ≡ Placed)))
    → ArePlacedMarks state
ArePlacedMarks-from state both k = by_test (has_outcome is_placed (state.record_of k)) refl
  where
    by_test : (b : Bool) → has_outcome is_placed (state.record_of k) ≡ b → is_some (point_at state.points (suc k)) ≡ b
    by_test true e = (both k).1 (placed_record (state.record_of k) e)
    by_test false e =
        false_from_ne_true (is_some (point_at state.points (suc k)))
        (λ h. let own = (both k).0 h in true≢false (sym (counts_placed (state.record_of k) own.0 own.1 own.2) ∙ e))
