-- Calls that see no record anew, one after another.
use Rattle.plan_work.proofs.Words.{◌≡◌, ℕ, inl, ap, ◌∙◌, OnlyLooks, BelongsTo, GoesOn, PassState, SharedState, BelongsTo-later, GoesOn-trans}
use Rattle.plan_work.proofs.Words.{SeesBestSince-trans, KeepsRecords, loaded, sees, Word, WritesWord, Best, Count, Counter, RecordOf, SeesAnew}

pub KeepsRecords-trans : (shared : SharedState) (before mid after : PassState) → KeepsRecords shared before mid → KeepsRecords shared mid after
    → KeepsRecords shared before after
KeepsRecords-trans shared before mid after one other = record {
  belongs = other.belongs;
  goes_on = GoesOn-trans before.view mid.view after.view one.goes_on other.goes_on;
  records = λ k. other.records k ∙ one.records k;
  counters = λ g. other.counters g ∙ one.counters g;
  best = SeesBestSince-trans before.view mid.view after.view one.goes_on other.goes_on one.best other.best;
  crew = other.crew ∙ one.crew;
  most = other.most ∙ one.most;
}

-- the count is loaded
pub KeepsRecords-number : (shared : SharedState) (before after : PassState) (nodes value : ℕ) → BelongsTo before shared
    → after ≡ record before { view = loaded before.view Count nodes } → GoesOn before.view after.view
    → WritesWord Count value (sees before.view) (sees after.view) → KeepsRecords shared before after
KeepsRecords-number shared before after nodes value belongs is goes_on writes = record {
  belongs = BelongsTo-later shared before after (ap (λ (p : PassState). p.table) is) goes_on belongs;
  goes_on = goes_on;
  records = λ k. writes.others (RecordOf k) (λ e. cc);
  counters = λ g. writes.others (Counter g) (λ e. cc);
  best = inl (ap (λ (p : PassState). p.view.best) is);
  crew = ap (λ (p : PassState). p.view.crew) is;
  most = ap (λ (p : PassState). p.view.most) is;
}

-- nodes are looked at
pub KeepsRecords-looks : (shared : SharedState) (before after : PassState) → BelongsTo after shared → OnlyLooks before.view after.view
    → KeepsRecords shared before after
KeepsRecords-looks shared before after belongs looks = record {
  belongs = belongs;
  goes_on = looks.looks.goes_on;
  records = λ k. looks.looks.others (RecordOf k) (λ no. no);
  counters = λ g. looks.looks.others (Counter g) (λ no. no);
  best = looks.looked Best;
  crew = looks.kept.crew;
  most = looks.kept.most;
}

-- words are seen anew of which none is a record or a counter
pub KeepsRecords-anew : (which : Word → Type 0) (shared : SharedState) (before after : PassState) → ((k : ℕ) → ¬ which (RecordOf k))
    → ((g : ℕ) → ¬ which (Counter g))
    → BelongsTo after shared → SeesAnew which before.view after.view → KeepsRecords shared before after
KeepsRecords-anew which shared before after none uncounted belongs anew = record {
  belongs = belongs;
  goes_on = anew.goes_on;
  records = λ k. anew.others (RecordOf k) (none k);
  counters = λ g. anew.others (Counter g) (uncounted g);
  best = anew.looked Best;
  crew = anew.kept.crew;
  most = anew.kept.most;
}
