use Rattle.report_judge.proofs.Words.{◌≤◌, ◌-◌, length, IsFirstBreak, KeepsRecordBetween}
use Rattle.report_judge.proofs.marks.lawful_records.first_unlawful_of.Given as goal

-- the first mark of the turns so far
abbrev pub invariant-loop-from : goal.invariant-loop-from
invariant-loop-from g l = record {
  within : l.from ≤ l.turns;
  first : IsFirstBreak (KeepsRecordBetween l.worker 0 l.from l.listed.task.now l.listed.knots.now l.listed.records.now) (length l.listed.records.now) l.first;
}

abbrev pub decreases-loop-from : goal.decreases-loop-from
decreases-loop-from g l = l.turns - l.from
