use Rattle.settle_report.proofs.Words.{◌≡◌, ◌++◌, take, string_bytes, point_lines}
use Rattle.settle_report.proofs.reports.push_point_lines.Given as goal

abbrev pub invariant-loop-point : goal.invariant-loop-point
invariant-loop-point l =
    string_bytes l.text ≡ string_bytes l.initial.text ++ point_lines (take l.point-index l.points)
