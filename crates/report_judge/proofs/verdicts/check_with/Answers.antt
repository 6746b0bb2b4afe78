use Rattle.report_judge.proofs.Words.{ℕ, arith, sym, subst, IfErr, length-marks, IsVerdict, BreaksFormFirst, Extent}
use Rattle.report_judge.proofs.Laws.SheetVerdicts.{broken_form, form_low}
use Rattle.report_judge.proofs.verdicts.check_with.Goals as goal

pub overflow_cast-marks : goal.overflow_cast-marks
overflow_cast-marks g c = omega (arith, c.len-marks.ensures, length-marks c.args.task.now)

pub read_sheet-requires-clause-few : goal.read_sheet-requires-clause-few
read_sheet-requires-clause-few g c = omega (arith, c.len-marks.ensures, length-marks c.args.task.now)

pub broken-requires : goal.broken-requires
broken-requires g c =
    let extent : Extent = record { marks = c.len-marks.result; informed = c.args.task.now.scene.informed } in
    let first =
    subst (λ form. IfErr form (λ line. BreaksFormFirst extent c.args.report.now line)) c.in-Err.is c.in_ok-sheet.ensures.broken in
    omega (arith, c.requires.short, form_low extent c.args.report.now c.in-Err.line first)

pub returns-in-Err : goal.returns-in-Err
returns-in-Err g c =
    let extent : ℕ → Extent = λ marks. record { marks = marks; informed = c.args.task.now.scene.informed } in
    let first =
    subst (λ form. IfErr form (λ line. BreaksFormFirst (extent c.len-marks.result) c.args.report.now line)) c.in-Err.is c.in_ok-sheet.ensures.broken in
    let own = subst (λ marks. BreaksFormFirst (extent marks) c.args.report.now c.in-Err.line) c.len-marks.ensures first in
    subst (IsVerdict c.args.task.now c.args.report.now) (sym c.broken.ensures) (broken_form c.args.task.now c.args.report.now c.in-Err.line own)
