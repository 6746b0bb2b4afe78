use Rattle.plan_model.proofs.Words.{◌≡◌, drop, magnitude}
use Rattle.plan_model.proofs.DigitNumbers.{magnitude_after}
use Rattle.plan_model.proofs.number_words.decimal.Given as goal

-- the number so far, and then the digits that are left
abbrev pub invariant-loop-digit : goal.invariant-loop-digit
invariant-loop-digit l = magnitude_after l.number (drop l.digit-index l.digits) ≡ magnitude l.digits
