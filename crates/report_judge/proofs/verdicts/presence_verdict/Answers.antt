use Rattle.report_judge.proofs.Words.{arith, sym, subst, IsVerdict, bytes_of, sheet_read}
use Rattle.report_judge.proofs.Laws.BrokenLines.{KeepsLaw-marks, lesser_four, presence_law}
use Rattle.report_judge.proofs.Laws.SheetFacts.{few_knots}
use Rattle.report_judge.proofs.Laws.SheetVerdicts.{broken_by, mark_low}
use Rattle.report_judge.proofs.verdicts.presence_verdict.Goals as goal

pub broken_mark-requires : goal.broken_mark-requires
broken_mark-requires c =
    let sheet = sheet_read c.args.sheet.now in
    let first = rw (c.deref.ensures.value, c.deref-2.ensures.value) at c.in-Some.ensures in
    record {
      few = few_knots c.args.task.now sheet c.requires.form;
      low = omega (arith, c.requires.short, mark_low c.args.task.now sheet c.requires.form c.in-Some.k first.0);
    }

pub returns-in-Some-clause-broken : goal.returns-in-Some-clause-broken
returns-in-Some-clause-broken c =
    let task = c.args.task.now in
    let sheet = sheet_read c.args.sheet.now in
    subst (IsVerdict task (bytes_of sheet)) (sym c.broken_mark.ensures)
    (broken_by task sheet c.requires.form (presence_law task sheet) (lesser_four task sheet c.requires.nodes c.requires.turns) c.in-Some.k
    (rw (c.deref.ensures.value, c.deref-2.ensures.value) at c.in-Some.ensures))

pub returns-in-None-clause-kept : goal.returns-in-None-clause-kept
returns-in-None-clause-kept c =
    let sheet = sheet_read c.args.sheet.now in
    KeepsLaw-marks c.args.task.now sheet (presence_law c.args.task.now sheet)
    (rw (c.deref.ensures.value, c.deref-2.ensures.value) at c.in-None.ensures)
