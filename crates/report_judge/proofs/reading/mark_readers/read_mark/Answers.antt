use Rattle.report_judge.proofs.Words.{◌++◌, arith, ◌∙◌, line, ending_of, ending_words}
use Rattle.report_judge.proofs.Texts.FieldWords.{no_value}
use Rattle.report_judge.proofs.Texts.MarkParts.{parts-mark}
use Rattle.report_judge.proofs.reading.mark_readers.read_mark.Goals as goal

pub returns-then-front-k-clause-none : goal.returns-then-front-k-clause-none
returns-then-front-k-clause-none c = λ entry rest fits e.
    let read =
    c.in_ok-front.ensures.only c.args.k entry.worker entry.turn (line (ending_words (ending_of entry)) ++ rest)
    (omega (arith, c.requires.low)) fits.words.word.worker fits.words.word.turn (e ∙ parts-mark c.args.k entry rest) in
    c.if-front-k.true read.0

pub returns-in_err-entry-clause-none : goal.returns-in_err-entry-clause-none
returns-in_err-entry-clause-none c =
    no_value c.from_residual-in_err-entry.result (λ entry rest fits e.
    let read =
    c.in_ok-front.ensures.only c.args.k entry.worker entry.turn (line (ending_words (ending_of entry)) ++ rest)
    (omega (arith, c.requires.low)) fits.words.word.worker fits.words.word.turn (e ∙ parts-mark c.args.k entry rest) in
    c.in_err-entry.ensures.none entry rest fits read.3)
