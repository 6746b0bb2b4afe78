use Rattle.report_judge.proofs.Words.{inl, inr, iff_false}
use Rattle.report_judge.proofs.own.searches.NeighbourSearchSearch.has.Goals as goal

pub returns : goal.returns
returns g c = (
  λ h. inr (record { cheaper = c.is_cheaper.ensures.0 c.if-not-is_cheaper.false; clear = c.clear.ensures.0 h }),
  λ unlawful. elim unlawful [
    | inl near ↦ absurd (iff_false c.has.ensures c.if-has.false near)
    | inr own ↦ c.clear.ensures.1 own.clear
  ],
)
