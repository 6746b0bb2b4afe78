use Rattle.report_judge.proofs.Words.{◌≡◌, ◌≢◌, rules, report_line}
use Rattle.report_judge.proofs.Texts.ReportCuts.{IsCutAtReport-end, IsCutAtReport-line, IsWalked-more}
use Rattle.report_judge.proofs.report_cuts.cut_at_report.Goals as goal

pub returns-then-eq-clause-some : goal.returns-then-eq-clause-some
returns-then-eq-clause-some c =
    let same : c.in-Some.line.now ≡ report_line = search rules in
    IsCutAtReport-line c.args.text.now c.lines.rest.now c.lines.invariant c.in-Some.line.now c.in-Some.after.now c.in-Some.ensures.some.0 same

pub lines-preserved : goal.lines-preserved
lines-preserved c =
    let other : c.in-Some.line.now ≢ report_line = search rules in
    IsWalked-more c.args.text.now c.lines.rest.now c.in-Some.line.now c.in-Some.after.now c.lines.invariant c.in-Some.ensures.some.0
    (record { whole = c.in-Some.ensures.some.1; other = other })

pub returns-then-eq-2-clause-some : goal.returns-then-eq-2-clause-some
returns-then-eq-2-clause-some c =
    let same : c.lines.rest.now ≡ report_line = search rules in
    IsCutAtReport-end c.args.text.now c.lines.rest.now c.lines.invariant same
