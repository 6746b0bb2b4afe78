use Rattle.report_judge.proofs.Words.{length, IsFirstBreak, KeepsRecordBelow}
use Rattle.report_judge.proofs.marks.lawful_records.first_unlawful.Given as goal

-- the first mark of the workers so far
abbrev pub invariant-loop-worker : goal.invariant-loop-worker
invariant-loop-worker g l = IsFirstBreak (KeepsRecordBelow l.worker l.task l.knots l.records) (length l.records) l.first
