use Rattle.any_time.proofs.Words.{◌≡◌, ◌++◌, drop, take, list_all, has_path, batch_report}
use Rattle.any_time.proofs.batch_reports.batch_report.Given as goal

abbrev pub invariant-loop-number : goal.invariant-loop-number
invariant-loop-number l =
    (l.text.items ++ batch_report l.number (drop l.number l.better) (drop l.number l.runs) ≡ batch_report 0 l.better l.runs)
    × (l.has_paths ≡ list_all has_path (take l.number l.runs))
