-- Steps of a pass, one after another.
use Rattle.plan_words.proofs.Words.{◌≡◌, ◌⊎◌, ◌∙◌, inl, inr, subst, BelongsTo, GoesOn, PassState, SharedState, IsLater-refl, IsLater-trans, IsLawfulView, View}

pub GoesOn-refl : (view : View) → IsLawfulView view → GoesOn view view
GoesOn-refl view lawful = record { was_lawful = lawful; later = IsLater-refl view; lawful = lawful }

pub GoesOn-trans : (before mid after : View) → GoesOn before mid → GoesOn mid after → GoesOn before after
GoesOn-trans before mid after first then = record {
  was_lawful = first.was_lawful;
  later = IsLater-trans before mid after first.later then.later;
  lawful = then.lawful;
}

-- no step was made yet, or some were
abbrev pub HasGoneOn : View → View → Type 0
HasGoneOn before after = (after ≡ before) ⊎ GoesOn before after

pub GoesOn-more : (before mid after : View) → HasGoneOn before mid → GoesOn mid after → GoesOn before after
GoesOn-more before mid after (inl same) then = subst (λ v. GoesOn v after) same then
GoesOn-more before mid after (inr first) then = GoesOn-trans before mid after first then

-- the pass stays that of the same tree
pub BelongsTo-later : (shared : SharedState) (before after : PassState) → after.table ≡ before.table → GoesOn before.view after.view
    → BelongsTo before shared → BelongsTo after shared
BelongsTo-later shared before after same goes_on belongs =
    record { table = same ∙ belongs.table; run = goes_on.later.run ∙ belongs.run; lawful = goes_on.lawful }
