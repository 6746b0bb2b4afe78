use Rattle.report_judge.proofs.Words.{◌≡◌, ◌+◌, length, List, arith, rules, subst, Point, BreaksFormFirst}
use Rattle.report_judge.proofs.Texts.FormBreaks.{breaks_first, breaks_points}
use Rattle.report_judge.proofs.reading.sheets.read_path_lines.Goals as goal

pub returns-in_default-read_path-clause-broken : goal.returns-in_default-read_path-clause-broken
returns-in_default-read_path-clause-broken c =
    λ extent. breaks_first extent c.args.report.now c.in_default.ensures.none c.in_default-read_path.ensures.none

pub returns-then-len-line-clause-broken : goal.returns-then-len-line-clause-broken
returns-then-len-line-clause-broken c = λ extent.
    let points : List Point = c.in_ok-points.points.items in
    let number : length points + 2 ≡ c.len-then-len-line.result + 2 = omega (arith, c.len-then-len-line.ensures, c.in_ok-points.points.ok) in
    subst (BreaksFormFirst extent c.args.report.now) number
    (breaks_points extent c.args.report.now c.in-Some-read_path.rest.now c.in-Some-read_path.line.points c.in-Some-read_path.line.cost
    c.in-Some-read_path.ensures.some c.in-Some-read_path.ensures.cost (search rules) points c.in_ok-points.rest.now c.in_ok-points.ensures
    (omega (arith, c.if-len-line.true, c.len.ensures, c.in_ok-points.points.ok)))
