use Rattle.plan_model.proofs.Words.{◌≤◌, ◌^◌, arith, magnitude}
use Rattle.plan_model.proofs.DigitNumbers.{magnitude_after-next, IfNone-fact}
use Rattle.plan_model.proofs.number_words.decimal.Goals as goal

pub returns-in_err-number-clause-large : goal.returns-in_err-number-clause-large
returns-in_err-number-clause-large c =
    let digits = c.args.digits.now in
    let i = c.loop-digit.digit-index in
    let next = magnitude_after-next digits i c.loop-digit.number (omega arith) in
    let large : 2 ^ 64 ≤ magnitude digits = omega (arith, c.in_err-number.ensures.large) in
    IfNone-fact c.from_residual.result large
