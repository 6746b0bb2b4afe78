-- What a search gathered are the near nodes, each once.
use Rattle.plan_work.proofs.Words.{ℕ, ◌∙◌, List, ap, arith, sym, AreGathered, is_within-near, near-within, Contains-near, Sight, is_within, near, point_at}
use Rattle.plan_work.proofs.Words.{Point, Contains-number, Found, AreOf}

pub AreOf-gathered : (before after : Sight) (p : Point) (r : ℕ) (found : List Found) → AreGathered before after p r found
    → AreOf found (near after.seen.points p r)
AreOf-gathered before after p r found h = record {
  once = h.once;
  all = λ n on. h.all n (near-within after.seen.points p r n on);
  only = λ n on.
      let f = Contains-number found n on in
      let here = h.only f.0 f.1 in
      Contains-near after.seen.points p r n
      (ap (λ m. is_within p r (point_at after.seen.points m)) (sym f.2) ∙ ap (is_within p r) here.1
      ∙ is_within-near p r here.0 (omega (arith, here.2, here.3)));
}
