use Rattle.report_judge.proofs.Words.{sym, ◌∙◌, true≢false, Extent}
use Rattle.report_judge.proofs.Texts.FieldWords.{no_value}
use Rattle.report_judge.proofs.Texts.MarkParts.{no_outcome}
use Rattle.report_judge.proofs.reading.mark_readers.read_outcome.Goals as goal

pub returns-in-Some-clause-some : goal.returns-in-Some-clause-some
returns-in-Some-clause-some c = rw c.in-Some.ensures.some c.read_steered.ensures.some

pub returns-in-Some-clause-none : goal.returns-in-Some-clause-none
returns-in-Some-clause-none c = rw c.in-Some.ensures.some (c.read_steered.ensures.none c.args.informed)

pub returns-then-not-informed-clause-none : goal.returns-then-not-informed-clause-none
returns-then-not-informed-clause-none c =
    no_outcome (record { marks = c.args.marks; informed = c.args.informed }) c.args.text.now c.in_default.ensures.none
    (λ informed. absurd (true≢false (sym informed ∙ c.if-not-informed.true)))

pub returns-in_err-goal-clause-none : goal.returns-in_err-goal-clause-none
returns-in_err-goal-clause-none c =
    let extent : Extent = record { marks = c.args.marks; informed = c.args.informed } in
    no_value c.from_residual.result
    (no_outcome extent c.args.text.now c.in_default.ensures.none (λ informed. c.in_err-goal.ensures.none))
