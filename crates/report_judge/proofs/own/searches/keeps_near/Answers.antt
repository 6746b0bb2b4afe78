use Rattle.report_judge.proofs.Words.{◌≡◌, ◌*◌, ◌∙◌, arith, inl, inr, sym, ap, not, false_from_ne_true, not-true}
use Rattle.report_judge.proofs.Workers.OwnNodeLaws.{keeps_all_near, keeps_not_near, none_nearer, unlawful_within}
use Rattle.report_judge.proofs.own.searches.keeps_near.Goals as goal

pub has_one-requires-clause-within : goal.has_one-requires-clause-within
has_one-requires-clause-within g c κs within =
    let square : c.from.result * c.from-2.result ≡ c.args.radius * c.args.radius = λ i. c.from.ensures i * c.from-2.ensures i in
    unlawful_within c.of_radius.ensures.center (c.of_radius.ensures.square ∙ sym square) (omega arith)

pub returns : goal.returns
returns g c =
    let space = g.C.Clearing.space c.args.hall.now in
    let square : c.from.result * c.from-2.result ≡ c.args.radius * c.args.radius = λ i. c.from.ensures i * c.from-2.ensures i in (
      λ h.
          let none = c.has_one.ensures.none (not-true c.has_one.result h) in
          keeps_all_near c.args.entry c.requires.judged c.requires.turn space c.args.p c.args.radius 0 0 square (λ j from to over. none j from to (inr over)),
      λ kept.
          ap not
          (false_from_ne_true c.has_one.result
          (λ found.
          let one = c.has_one.ensures.some found in
          elim one.such [
            | inl near ↦ none_nearer near
            | inr over ↦ keeps_not_near c.args.entry c.requires.judged c.requires.turn space c.args.p c.args.radius 0 0 square one.position one.before over kept
          ])),
    )
