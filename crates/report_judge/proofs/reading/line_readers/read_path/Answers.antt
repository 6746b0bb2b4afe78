use Rattle.report_judge.proofs.Words.{arith, ◌∙◌, codes, field}
use Rattle.report_judge.proofs.Texts.FieldWords.{no_value}
use Rattle.report_judge.proofs.Texts.LineParts.{parts-path}
use Rattle.report_judge.proofs.reading.line_readers.read_path.Goals as goal

pub returns-in_err-points-clause-none : goal.returns-in_err-points-clause-none
returns-in_err-points-clause-none c =
    no_value c.from_residual.result (λ points cost rest few low e.
    c.in_err-points.ensures.none points (field (codes "cost ") cost 10 rest) (omega (arith, few)) (e ∙ parts-path points cost rest))

pub returns-in_err-cost-clause-none : goal.returns-in_err-cost-clause-none
returns-in_err-cost-clause-none c =
    no_value c.from_residual-in_err-cost.result (λ points cost rest few low e.
    let behind = c.in_ok-points.ensures.only points (field (codes "cost ") cost 10 rest) (omega (arith, few)) (e ∙ parts-path points cost rest) in
    c.in_err-cost.ensures.none cost rest (omega (arith, low)) behind.1)
