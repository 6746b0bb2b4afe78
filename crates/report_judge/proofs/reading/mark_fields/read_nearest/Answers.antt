use Rattle.report_judge.proofs.Words.{arith}
use Rattle.report_judge.proofs.Texts.FieldWords.{no_value}
use Rattle.report_judge.proofs.reading.mark_fields.read_nearest.Goals as goal

pub returns-in_err-nearest-clause-none : goal.returns-in_err-nearest-clause-none
returns-in_err-nearest-clause-none c =
    no_value c.from_residual.result (λ nearest rest low e. c.in_err-nearest.ensures.none nearest rest (omega (arith, low, c.from.ensures)) e)
