use Rattle.report_judge.proofs.Words.{List, ℕ, get_or, arith, ap, ◌∙◌, sym, true≢false, is_number}
use Rattle.report_judge.proofs.Texts.DecimalWords.{is_number-decimal, decimal-unsigned, found-decimal, no-decimal}
use Rattle.report_judge.proofs.reading.number_words.long_number_up_to.Goals as goal

pub returns-then-not-is_number-clause-none : goal.returns-then-not-is_number-clause-none
returns-then-not-is_number-clause-none c = λ n low e.
    let passes = c.is_number.ensures ∙ ap is_number e ∙ is_number-decimal n (omega (arith, low, c.ranges.most.fits)) in
    true≢false (sym passes ∙ c.if-not-is_number.true)

pub returns-then-word-eq45-clause-none : goal.returns-then-word-eq45-clause-none
returns-then-word-eq45-clause-none c = λ n low e.
    decimal-unsigned n (omega (arith, low, c.ranges.most.fits)) (sym (ap (λ (w : List ℕ). get_or w 0 0) e) ∙ c.if-word-eq45.true)

pub returns : goal.returns
returns c = record {
  some =
      found-decimal c.natural.result c.args.word.now c.args.most (omega (arith, c.ranges.most.fits))
      (sym c.is_number.ensures ∙ c.if-not-is_number.false) c.if-word-eq45.false c.natural.ensures.value c.natural.ensures.within;
  none = no-decimal c.natural.result c.args.word.now c.args.most (omega (arith, c.ranges.most.fits)) c.natural.ensures.outside;
}
