use Rattle.report_judge.proofs.verdicts.judge_sheet.Goals as goal

pub turn_verdict-requires-clause-nodes : goal.turn_verdict-requires-clause-nodes
turn_verdict-requires-clause-nodes g c = rw c.in_default.is at c.in_ok-verdict.ensures.kept

pub presence_verdict-requires-clause-nodes : goal.presence_verdict-requires-clause-nodes
presence_verdict-requires-clause-nodes g c = rw c.in_default.is at c.in_ok-verdict.ensures.kept

pub record_verdict-requires-clause-nodes : goal.record_verdict-requires-clause-nodes
record_verdict-requires-clause-nodes g c κs within = rw c.in_default.is at c.in_ok-verdict.ensures.kept

pub head_verdict-requires-clause-nodes : goal.head_verdict-requires-clause-nodes
head_verdict-requires-clause-nodes g c = rw c.in_default.is at c.in_ok-verdict.ensures.kept
