use Rattle.report_judge.proofs.Words.{arith, without_costs, IsPresent-stands, present_below, run_of}
use Rattle.report_judge.proofs.Laws.LawfulSheets.{length-without_costs}
use Rattle.report_judge.proofs.Workers.OwnNodeLaws.{is_free, is_taken_by, nearer_within}
use Rattle.report_judge.proofs.own.searches.is_taken.Goals as goal

pub has_one-requires-clause-within : goal.has_one-requires-clause-within
has_one-requires-clause-within g c κs within = nearer_within c.of_square.ensures.center c.of_square.ensures.square

pub returns : goal.returns
returns g c =
    let judged = c.args.judged.now in
    let knots = judged.knots.now in
    record {
      taken = λ h. is_taken_by c.args.entry c.requires.judged c.requires.turn c.args.p 4294967295 (c.has_one.ensures.some h);
      free = λ h.
          is_free c.args.entry c.requires.judged c.requires.turn c.args.p 4294967295
          (λ n q stands.
          omega (
            arith,
            present_below (without_costs knots) n (IsPresent-stands (run_of judged).points n q stands),
            length-without_costs knots,
            c.requires.judged.numbers,
            c.requires.judged.few,
          )) (c.has_one.ensures.none h);
    }
