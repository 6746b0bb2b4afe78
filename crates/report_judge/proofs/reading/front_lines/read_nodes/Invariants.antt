use Rattle.report_judge.proofs.Texts.FrontLaws.{HasRead}
use Rattle.report_judge.proofs.reading.front_lines.read_nodes.Given as goal

-- the nodes so far are read
abbrev pub invariant-loop-count : goal.invariant-loop-count
invariant-loop-count l = HasRead l.marks l.text l.knots.items l.count l.next l.rest
