-- One record more: that of the next mark. The others stand, and their earlier nodes stay the same.
use Rattle.plan_model.proofs.Words.{◌≡◌, ℕ, suc, Option, Some, None, arith, sym, ap, ◌∙◌, inl, inr, ◌≢◌, ◌⊎◌, is_some, cases_eq, same_Some, Record}
use Rattle.plan_model.proofs.Words.{AreRecordedBelow}

-- Mark k had no record, and has this one. The other marks have the records that they had.
pub record RecordsMark (before after : ℕ → Option Record) (k : ℕ) (entry : Record) : Type 0 where
  pub absent : before k ≡ None
  pub recorded : after k ≡ Some entry
  pub others : (j : ℕ) → j ≢ k → after j ≡ before j

module _ (before after : ℕ → Option Record) (k : ℕ) (entry : Record) (change : RecordsMark before after k entry) where
  -- a record is the new one, or was there
  pub new_or_recorded : (j : ℕ) (own : Record) → after j ≡ Some own → ((j ≡ k) × (own ≡ entry)) ⊎ (before j ≡ Some own)
  new_or_recorded j own h =
      elim (cases_eq j k) [
        | inl e ↦ inl (e, same_Some own entry (sym h ∙ ap after e ∙ change.recorded))
        | inr apart ↦ inr (sym (change.others j apart) ∙ h)
      ]

  -- a mark with a record is another
  pub recorded_apart : (j : ℕ) (own : Record) → before j ≡ Some own → j ≢ k
  recorded_apart j own h e = let none = sym (ap before e ∙ change.absent) ∙ h in cc

  -- and its record stands
  pub still_recorded : (j : ℕ) (own : Record) → before j ≡ Some own → after j ≡ Some own
  still_recorded j own h = change.others j (recorded_apart j own h) ∙ h

  -- if exactly the marks below k had a record, exactly those below k + 1 have one
  pub AreRecordedBelow-next : AreRecordedBelow k before → AreRecordedBelow (suc k) after
  AreRecordedBelow-next records = record {
    recorded = λ j below.
        elim (cases_eq j k) [
          | inl e ↦ ap is_some (ap after e ∙ change.recorded)
          | inr apart ↦ ap is_some (change.others j apart) ∙ records.recorded j (omega arith)
        ];
    none_else = λ j past. change.others j (λ e. omega (arith, past, e)) ∙ records.none_else j (omega (arith, past));
  }
