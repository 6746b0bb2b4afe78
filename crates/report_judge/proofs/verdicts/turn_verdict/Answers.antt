use Rattle.report_judge.proofs.Words.{Some, None, arith, sym, subst, IsVerdict, bytes_of, extent_of, sheet_read}
use Rattle.report_judge.proofs.Laws.BrokenLines.{KeepsLaw-marks, lesser_three, turns_law}
use Rattle.report_judge.proofs.Laws.SheetFacts.{few_knots, few_records, few_turns}
use Rattle.report_judge.proofs.Laws.SheetVerdicts.{broken_by, mark_low, turns_by}
use Rattle.report_judge.proofs.verdicts.turn_verdict.Goals as goal

pub first_wrong_turn-requires : goal.first_wrong_turn-requires
first_wrong_turn-requires c =
    let sheet = sheet_read c.args.sheet.now in
    record {
      few = rw c.deref.ensures.value (few_records c.args.task.now sheet c.requires.form);
      fit = rw c.deref.ensures.value (few_turns (extent_of c.args.task.now) sheet c.requires.form);
    }

pub broken_mark-requires : goal.broken_mark-requires
broken_mark-requires c =
    let sheet = sheet_read c.args.sheet.now in
    let first = rw (c.deref.ensures.value, c.in-Some.is) at c.in_ok-first.ensures in
    record {
      few = few_knots c.args.task.now sheet c.requires.form;
      low = omega (arith, c.requires.short, mark_low c.args.task.now sheet c.requires.form c.in-Some.k first.0);
    }

pub returns-in-Some-clause-broken : goal.returns-in-Some-clause-broken
returns-in-Some-clause-broken c =
    let task = c.args.task.now in
    let sheet = sheet_read c.args.sheet.now in
    subst (IsVerdict task (bytes_of sheet)) (sym c.broken_mark.ensures)
    (broken_by task sheet c.requires.form (turns_law task sheet) (lesser_three task sheet c.requires.nodes) c.in-Some.k
    (turns_by task sheet c.requires.form (Some c.in-Some.k) (rw (c.deref.ensures.value, c.in-Some.is) at c.in_ok-first.ensures)))

pub returns-in-None-clause-kept : goal.returns-in-None-clause-kept
returns-in-None-clause-kept c =
    let sheet = sheet_read c.args.sheet.now in
    KeepsLaw-marks c.args.task.now sheet (turns_law c.args.task.now sheet)
    (turns_by c.args.task.now sheet c.requires.form None (rw (c.deref.ensures.value, c.in-None.is) at c.in_ok-first.ensures))
