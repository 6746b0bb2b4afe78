use Rattle.report_judge.proofs.Words.{arith, sym, subst, IsVerdict, bytes_of, extent_of, sheet_read}
use Rattle.report_judge.proofs.Laws.BrokenLines.{KeepsLaw-marks, lesser_five, records_law}
use Rattle.report_judge.proofs.Laws.SheetFacts.{ArePresent-kept, HaveLowTurns-kept, HaveOwnTurns-kept, few_knots, few_records, few_turns}
use Rattle.report_judge.proofs.Laws.SheetFacts.{first_costs, knots_fit, presence_of_law, turns_of_law}
use Rattle.report_judge.proofs.Laws.SheetVerdicts.{broken_by, mark_low}
use Rattle.report_judge.proofs.verdicts.record_verdict.Goals as goal

pub first_unlawful-requires-clause-few : goal.first_unlawful-requires-clause-few
first_unlawful-requires-clause-few g c κs met =
    rw c.deref-2.ensures.value (few_records c.args.task.now (sheet_read c.args.sheet.now) c.requires.form)

pub first_unlawful-requires-clause-fit : goal.first_unlawful-requires-clause-fit
first_unlawful-requires-clause-fit g c κs met =
    rw c.deref.ensures.value (knots_fit (extent_of c.args.task.now) (sheet_read c.args.sheet.now) c.requires.form)

pub first_unlawful-requires-clause-first : goal.first_unlawful-requires-clause-first
first_unlawful-requires-clause-first g c κs met =
    rw c.deref-2.ensures.value (first_costs (extent_of c.args.task.now) (sheet_read c.args.sheet.now) c.requires.form)

pub first_unlawful-requires-clause-turns_fit : goal.first_unlawful-requires-clause-turns_fit
first_unlawful-requires-clause-turns_fit g c κs met =
    rw c.deref-2.ensures.value (few_turns (extent_of c.args.task.now) (sheet_read c.args.sheet.now) c.requires.form)

pub first_unlawful-requires-clause-present : goal.first_unlawful-requires-clause-present
first_unlawful-requires-clause-present g c κs met =
    let sheet = sheet_read c.args.sheet.now in
    rw (c.deref.ensures.value, c.deref-2.ensures.value)
    (ArePresent-kept sheet.knots sheet.records c.requires.form.start (presence_of_law c.args.task.now sheet c.requires.form c.requires.presence))

pub first_unlawful-requires-clause-own : goal.first_unlawful-requires-clause-own
first_unlawful-requires-clause-own g c κs met =
    let sheet = sheet_read c.args.sheet.now in
    rw c.deref-2.ensures.value (HaveOwnTurns-kept sheet.records (turns_of_law c.args.task.now sheet c.requires.form c.requires.turns))

pub first_unlawful-requires-clause-low : goal.first_unlawful-requires-clause-low
first_unlawful-requires-clause-low g c κs met =
    let sheet = sheet_read c.args.sheet.now in
    rw c.deref-2.ensures.value (HaveLowTurns-kept sheet.records (turns_of_law c.args.task.now sheet c.requires.form c.requires.turns))

pub broken_mark-requires : goal.broken_mark-requires
broken_mark-requires g c =
    let sheet = sheet_read c.args.sheet.now in
    let first = rw (c.deref.ensures.value, c.deref-2.ensures.value, c.in-Some.is) at c.in_ok-first.ensures in
    record {
      few = few_knots c.args.task.now sheet c.requires.form;
      low = omega (arith, c.requires.short, mark_low c.args.task.now sheet c.requires.form c.in-Some.k first.0);
    }

pub returns-in-Some-clause-broken : goal.returns-in-Some-clause-broken
returns-in-Some-clause-broken g c =
    let task = c.args.task.now in
    let sheet = sheet_read c.args.sheet.now in
    subst (IsVerdict task (bytes_of sheet)) (sym c.broken_mark.ensures)
    (broken_by task sheet c.requires.form (records_law task sheet) (lesser_five task sheet c.requires.nodes c.requires.turns c.requires.presence) c.in-Some.k
    (rw (c.deref.ensures.value, c.deref-2.ensures.value, c.in-Some.is) at c.in_ok-first.ensures))

pub returns-in-None-clause-kept : goal.returns-in-None-clause-kept
returns-in-None-clause-kept g c =
    let sheet = sheet_read c.args.sheet.now in
    KeepsLaw-marks c.args.task.now sheet (records_law c.args.task.now sheet)
    (rw (c.deref.ensures.value, c.deref-2.ensures.value, c.in-None.is) at c.in_ok-first.ensures)
