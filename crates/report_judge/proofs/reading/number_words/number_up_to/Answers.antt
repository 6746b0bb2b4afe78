use Rattle.report_judge.proofs.Words.{◌≡◌, ℕ, ◌^◌, ◌<◌, ◌≤◌, List, decimal, arith, sym, ap, ◌∙◌, false, length, eqb-true, true≢false, decimal_injective}
use Rattle.report_judge.proofs.Words.{is_number}
use Rattle.report_judge.proofs.Texts.DecimalWords.{decimal-remainder, is_number-decimal, no_number-empty, no_number-zero}
use Rattle.report_judge.proofs.reading.number_words.number_up_to.Goals as goal

-- what is no number is none in decimal
no_decimal : (digits : List ℕ) (most : ℕ) → most < 2 ^ 64 → is_number digits ≡ false → (n : ℕ) → n ≤ most → ¬ (digits ≡ decimal n)
no_decimal digits most few other n low e = true≢false (sym (is_number-decimal n (omega (arith, low, few))) ∙ sym (ap is_number e) ∙ other)

pub returns-then-is_empty-clause-none : goal.returns-then-is_empty-clause-none
returns-then-is_empty-clause-none c =
    no_decimal c.args.digits.now c.args.most (omega (arith, c.ranges.most.fits))
    (no_number-empty c.args.digits.now (eqb-true (length c.args.digits.now) 0 (sym c.is_empty.ensures ∙ c.if-is_empty.true)))

pub returns-then-digits-gt1-clause-none : goal.returns-then-digits-gt1-clause-none
returns-then-digits-gt1-clause-none c =
    no_decimal c.args.digits.now c.args.most (omega (arith, c.ranges.most.fits))
    (no_number-zero c.args.digits.now c.if-digits-eq48.true c.if-digits-gt1.true)

pub returns-clause-some : goal.returns-clause-some
returns-clause-some c = (
  c.if-remainder-most.false,
  decimal-remainder c.args.digits.now c.args.remainder c.requires.digital (sym c.is_empty.ensures ∙ c.if-is_empty.false) c.else-digits-eq48.either
      c.if-digits-gt-FITTING_DIGITS.false c.requires.remainder,
)

pub returns-then-remainder-most-clause-none : goal.returns-then-remainder-most-clause-none
returns-then-remainder-most-clause-none c n low e =
    let is = decimal-remainder c.args.digits.now c.args.remainder c.requires.digital (sym c.is_empty.ensures ∙ c.if-is_empty.false)
    c.else-digits-eq48.either c.if-digits-gt-FITTING_DIGITS.false c.requires.remainder in
    let same = decimal_injective n c.args.remainder (omega (arith, low, c.ranges.most.fits)) (omega (arith, c.ranges.remainder.fits)) (sym e ∙ is) in
    omega (arith, same, low, c.if-remainder-most.true)
