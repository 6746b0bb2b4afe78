use Rattle.report_judge.proofs.Words.{◌≡◌, take, count_by, is_some}
use Rattle.report_judge.proofs.marks.lawful_records.present_count.Given as goal

-- the nodes so far are counted
abbrev pub invariant-loop-knot : goal.invariant-loop-knot
invariant-loop-knot l = l.count ≡ count_by is_some (take l.knot-index l.knots)
