use Rattle.report_judge.proofs.Words.{ℕ, ◌+◌, ◌-◌, List, ◌∷◌, ◌++◌, drop, length, length-drop, arith, sym, ap, ◌∙◌, decimal, take_all}
use Rattle.report_judge.proofs.Texts.FieldWords.{BeginsWith-number, no_value, text_at}
use Rattle.report_judge.proofs.reading.fields.read_number.Goals as goal

pub returns-then-digits-text-clause-none : goal.returns-then-digits-text-clause-none
returns-then-digits-text-clause-none c = λ n after low e.
    let begins =
    BeginsWith-number c.args.text.now n c.args.end c.read_digits-digits.result.0 after (omega (arith, low, c.ranges.most.fits)) c.requires.end
    c.read_digits-digits.ensures.count e in
    omega (arith, begins.within, c.if-digits-text.true)

pub returns-then-text-digits-clause-none : goal.returns-then-text-digits-clause-none
returns-then-text-digits-clause-none c = λ n after low e.
    let begins =
    BeginsWith-number c.args.text.now n c.args.end c.read_digits-digits.result.0 after (omega (arith, low, c.ranges.most.fits)) c.requires.end
    c.read_digits-digits.ensures.count e in
    c.if-text-digits.true (begins.byte 0)

pub returns-in_err-number-clause-none : goal.returns-in_err-number-clause-none
returns-in_err-number-clause-none c =
    no_value c.from_residual.result (λ n after low e.
    let begins =
    BeginsWith-number c.args.text.now n c.args.end c.read_digits-digits.result.0 after (omega (arith, low, c.ranges.most.fits)) c.requires.end
    c.read_digits-digits.ensures.count e in
    c.in_err-number.ensures.none n low begins.number)

pub returns-clause-some : goal.returns-clause-some
returns-clause-some c =
    let digits = c.read_digits-digits.result.0 in
    let read = c.in_ok-number.ensures.some in
    let text : List ℕ = c.args.text.now in
    let byte = c.if-text-digits.false in (
      read.0,
      text_at text digits (omega (arith, c.if-digits-text.false, c.read_digits-digits.ensures.within))
          ∙ (λ i. read.1 i ++ (byte i ∷ drop (digits + 1) text))
          ∙ ap (λ (rest : List ℕ). decimal c.in_ok-number.number ++ c.args.end ∷ rest)
          (sym (take_all (length text - (digits + 1)) (drop (digits + 1) text) (omega (arith, length-drop (digits + 1) text)))),
    )
