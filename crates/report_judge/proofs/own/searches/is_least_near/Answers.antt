use Rattle.report_judge.proofs.Words.{◌≡◌, ◌*◌, ◌∙◌, arith, inl, inr, sym, ap, not, false_from_ne_true, not-true}
use Rattle.report_judge.proofs.Workers.OwnNodeLaws.{is_nearest_of_all, is_not_nearest, keeps_all_near, keeps_not_near, unlawful_within}
use Rattle.report_judge.proofs.own.searches.is_least_near.Goals as goal

pub has_one-requires-clause-within : goal.has_one-requires-clause-within
has_one-requires-clause-within g c κs within =
    let square : c.from.result * c.from-2.result ≡ c.args.radius * c.args.radius = λ i. c.from.ensures i * c.from-2.ensures i in
    unlawful_within c.of_radius.ensures.center (c.of_radius.ensures.square ∙ sym square) (omega (arith, c.requires.within, square))

pub returns : goal.returns
returns g c =
    let entry = c.args.entry in
    let space = g.C.Clearing.space c.args.hall.now in
    let square : c.from.result * c.from-2.result ≡ c.args.radius * c.args.radius = λ i. c.from.ensures i * c.from-2.ensures i in (
      λ h.
          let none = c.has_one.ensures.none (not-true c.has_one.result h) in (
            is_nearest_of_all entry c.requires.judged c.requires.turn c.args.mark c.requires.distance (λ j from to near. none j from to (inl near)),
            keeps_all_near entry c.requires.judged c.requires.turn space c.args.mark c.args.radius c.args.distance entry.nearest square
                (λ j from to over. none j from to (inr over)),
          ),
      λ both.
          ap not
          (false_from_ne_true c.has_one.result
          (λ found.
          let one = c.has_one.ensures.some found in
          elim one.such [
            | inl near ↦
                is_not_nearest entry c.requires.judged c.requires.turn c.args.mark c.requires.distance one.position one.before near both.0
            | inr over ↦
                keeps_not_near entry c.requires.judged c.requires.turn space c.args.mark c.args.radius c.args.distance entry.nearest square
                one.position one.before over both.1
          ])),
    )
