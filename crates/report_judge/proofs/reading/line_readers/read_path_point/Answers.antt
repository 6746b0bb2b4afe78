use Rattle.report_judge.proofs.Words.{sym, ◌∙◌}
use Rattle.report_judge.proofs.Texts.FieldWords.{no_value}
use Rattle.report_judge.proofs.Texts.LineParts.{parts-point}
use Rattle.report_judge.proofs.reading.line_readers.read_path_point.Goals as goal

pub returns-in_err-point-clause-none : goal.returns-in_err-point-clause-none
returns-in_err-point-clause-none c =
    no_value c.from_residual.result (λ p rest fits e. c.in_err-point.ensures.none p rest fits (e ∙ parts-point p rest))

pub returns-clause-some : goal.returns-clause-some
returns-clause-some c = (c.in_ok-point.ensures.some.0, c.in_ok-point.ensures.some.1 ∙ sym (parts-point c.in_ok-point.point c.in_ok-point.rest.now))
