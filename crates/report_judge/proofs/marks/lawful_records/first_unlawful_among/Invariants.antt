use Rattle.report_judge.proofs.Words.{KeepsRecord, IsFirstSeen}
use Rattle.report_judge.proofs.marks.lawful_records.first_unlawful_among.Given as goal

-- the first so far that breaks the law
abbrev pub invariant-loop-position : goal.invariant-loop-position
invariant-loop-position g l = IsFirstSeen (KeepsRecord l.judged.task.now l.judged.knots.now l.judged.records.now) l.marks l.position l.first
