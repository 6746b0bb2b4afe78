use Rattle.report_judge.proofs.Words.{◌∷◌, ◌++◌, arith, sym, ap, ◌∙◌, decimal, append_cancel_left}
use Rattle.report_judge.proofs.Texts.FieldWords.{no_value, same_fields}
use Rattle.report_judge.proofs.reading.fields.read_field.Goals as goal

pub returns-in_err-rest-clause-none : goal.returns-in_err-rest-clause-none
returns-in_err-rest-clause-none c =
    no_value c.from_residual.result (λ n after low e. c.in_err-rest.ensures.none (decimal n ++ c.args.end ∷ after) e)

pub returns-in_err-number-clause-none : goal.returns-in_err-number-clause-none
returns-in_err-number-clause-none c =
    no_value c.from_residual-in_err-number.result (λ n after low e.
    c.in_err-number.ensures.none n after low
    (append_cancel_left c.args.word.now c.in_ok-rest.rest.now (decimal n ++ c.args.end ∷ after) (sym c.in_ok-rest.ensures.some ∙ e)))

pub returns-clause-some : goal.returns-clause-some
returns-clause-some c = (
  c.in_ok-number.ensures.some.0,
  c.in_ok-rest.ensures.some ∙ ap (λ bytes. c.args.word.now ++ bytes) c.in_ok-number.ensures.some.1,
)

pub returns-clause-only : goal.returns-clause-only
returns-clause-only c = λ n after low e.
    let read = c.in_ok-number.ensures.some in
    same_fields c.in_ok-number.number n c.args.end c.in_ok-number.rest.now after (omega (arith, read.0, c.ranges.most.fits))
    (omega (arith, low, c.ranges.most.fits)) c.requires.end
    (sym read.1
    ∙ append_cancel_left c.args.word.now c.in_ok-rest.rest.now (decimal n ++ c.args.end ∷ after) (sym c.in_ok-rest.ensures.some ∙ e))
