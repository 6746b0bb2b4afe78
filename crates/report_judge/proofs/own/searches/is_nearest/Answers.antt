use Rattle.report_judge.proofs.Words.{ap, not, false_from_ne_true, not-true}
use Rattle.report_judge.proofs.Workers.OwnNodeLaws.{is_nearest_of_all, is_not_nearest, nearer_within}
use Rattle.report_judge.proofs.own.searches.is_nearest.Goals as goal

pub has_one-requires-clause-within : goal.has_one-requires-clause-within
has_one-requires-clause-within g c κs within = nearer_within c.of_square.ensures.center c.of_square.ensures.square

pub returns : goal.returns
returns g c = (
  λ h.
      is_nearest_of_all c.args.entry c.requires.judged c.requires.turn c.args.mark c.nearest_distance.ensures
      (c.has_one.ensures.none (not-true c.has_one.result h)),
  λ nearest.
      ap not
      (false_from_ne_true c.has_one.result
      (λ found.
      let one = c.has_one.ensures.some found in
      is_not_nearest c.args.entry c.requires.judged c.requires.turn c.args.mark c.nearest_distance.ensures one.position one.before one.such nearest)),
)
