use Rattle.report_judge.proofs.Words.{arith, subst, length, IsFirstBreak, KeepsRecordBelow}
use Rattle.report_judge.proofs.Laws.RecordBreaks.{IsFirstBreak-no_worker, IsFirstBreak-worker, IsFirstBreak-workers}
use Rattle.report_judge.proofs.marks.lawful_records.first_unlawful.Goals as goal

pub loop-worker-init : goal.loop-worker-init
loop-worker-init g c = IsFirstBreak-no_worker c.args.task.now c.args.knots.now c.args.records.now

pub loop-worker-preserved : goal.loop-worker-preserved
loop-worker-preserved g c =
    rw c.earlier-first.ensures
    (IsFirstBreak-worker c.args.task.now c.args.knots.now c.args.records.now c.loop-worker.worker c.loop-worker.first c.in_ok-broken.broken
    c.loop-worker.invariant c.in_ok-broken.ensures)

pub returns : goal.returns
returns g c =
    IsFirstBreak-workers c.args.task.now c.args.knots.now c.args.records.now c.requires.turns_fit c.loop-worker.first
    (subst (λ w. IsFirstBreak (KeepsRecordBelow w c.args.task.now c.args.knots.now c.args.records.now) (length c.args.records.now) c.loop-worker.first)
    (omega (arith, c.loop-worker.auto.worker-end, c.loop-worker-test.false)) c.loop-worker.invariant)
