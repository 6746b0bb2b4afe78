use Rattle.report_judge.proofs.Words.{[], arith, ap, ◌∙◌, field}
use Rattle.report_judge.proofs.Texts.FieldWords.{no_value}
use Rattle.report_judge.proofs.reading.line_readers.read_point.Goals as goal

pub returns-in_err-x-clause-none : goal.returns-in_err-x-clause-none
returns-in_err-x-clause-none c =
    no_value c.from_residual.result (λ p rest fits e. c.in_err-x.ensures.none p.x (field [] p.y c.args.end rest) (omega (arith, fits.right)) e)

pub returns-in_err-y-clause-none : goal.returns-in_err-y-clause-none
returns-in_err-y-clause-none c =
    no_value c.from_residual-in_err-y.result (λ p rest fits e.
    let behind = c.in_ok-x.ensures.only p.x (field [] p.y c.args.end rest) (omega (arith, fits.right)) e in
    c.in_err-y.ensures.none p.y rest (omega (arith, fits.top)) behind.1)

pub returns-clause-some : goal.returns-clause-some
returns-clause-some c = (
  record { right = omega (arith, c.in_ok-x.ensures.some.0); top = omega (arith, c.in_ok-y.ensures.some.0) },
  c.in_ok-x.ensures.some.1 ∙ ap (field c.args.word.now c.in_ok-x.x 32) c.in_ok-y.ensures.some.1,
)

pub returns-clause-only : goal.returns-clause-only
returns-clause-only c = λ p rest fits e.
    let behind = c.in_ok-x.ensures.only p.x (field [] p.y c.args.end rest) (omega (arith, fits.right)) e in
    (c.in_ok-y.ensures.only p.y rest (omega (arith, fits.top)) behind.1).1
