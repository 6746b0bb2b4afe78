use Rattle.report_judge.proofs.Words.{◌≡◌, length, arith, subst, IsFirstBreak, KeepsRecordBetween}
use Rattle.report_judge.proofs.Laws.RecordBreaks.{IsFirstBreak-stretch, IsFirstBreak-turns}
use Rattle.report_judge.proofs.Laws.TurnBreaks.{turns_at_most}
use Rattle.report_judge.proofs.marks.lawful_records.first_unlawful_of.Goals as goal

pub own_history-requires-clause-turns : goal.own_history-requires-clause-turns
own_history-requires-clause-turns g c =
    let records = c.args.listed.now.records.now in
    omega (arith, c.requires.turns, turns_at_most records (length records) c.args.worker, c.requires.listed.few)

pub end_of_stretch-to-requires-clause-few : goal.end_of_stretch-to-requires-clause-few
end_of_stretch-to-requires-clause-few g c =
    let records = c.args.listed.now.records.now in
    omega (arith, c.requires.turns, turns_at_most records (length records) c.args.worker, c.requires.listed.few)

pub loop-from-preserved : goal.loop-from-preserved
loop-from-preserved g c =
    let task = c.args.listed.now.task.now in
    let knots = c.args.listed.now.knots.now in
    let records = c.args.listed.now.records.now in
    let from = c.loop-from.from in
    let to = c.end_of_stretch-to.result in
    record {
      within = c.end_of_stretch-to.ensures.within;
      first =
          rw c.earlier-first.ensures
          (IsFirstBreak-stretch task knots records c.args.worker from to c.loop-from.first c.in_ok-found.found
          (omega (arith, c.end_of_stretch-to.ensures.onward)) c.loop-from.invariant.first
          (rw c.in_ok-own.ensures.worker_is at c.in_ok-found.ensures));
    }

pub returns : goal.returns
returns g c =
    let task = c.args.listed.now.task.now in
    let knots = c.args.listed.now.knots.now in
    let records = c.args.listed.now.records.now in
    let end : c.loop-from.from ≡ c.args.turns = omega (arith, c.loop-from-test.false, c.loop-from.invariant.within) in
    IsFirstBreak-turns task knots records c.requires.listed.low c.args.worker c.args.turns c.requires.turns c.loop-from.first
    (subst (λ t. IsFirstBreak (KeepsRecordBetween c.args.worker 0 t task knots records) (length records) c.loop-from.first) end
    c.loop-from.invariant.first)
