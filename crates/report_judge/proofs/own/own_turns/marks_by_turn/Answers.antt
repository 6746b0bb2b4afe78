use Rattle.std.proofs.Common.{◌+◌, Some, length, length-set, arith, refl, sym, ap, ◌∙◌, subst}
use Rattle.std.proofs.lemmas.Option.{slice_get_read}
use Rattle.report_judge.proofs.Workers.SeenTurns.{IsMarkBelow, IsMarkBelow-other, IsMarkBelow-set, IsMarkOfTurn-all}
use Rattle.report_judge.proofs.own.own_turns.marks_by_turn.Goals as goal
use Rattle.report_judge.proofs.own.own_turns.marks_by_turn.Goals.{then-entry-worker+then-turn-len, then-entry-worker+else-turn-len, else-entry-worker}

pub loop-k-preserved : goal.loop-k-preserved
loop-k-preserved c =
    let records = c.args.records.now in
    let entry = c.index-records-k.result in
    let mark = c.loop-k.k in
    let at = slice_get_read records (length records) mark entry refl c.loop-k-test.true c.index-records-k.is in
    let long = c.loop-k.invariant.long in
    elim c.if-entry-worker.branch [
      | then-entry-worker+then-turn-len w ↦ record {
        long = ap (λ o. length o.items) w.order-is ∙ length-set c.loop-k.order.items entry.turn (Some mark) ∙ long;
        marks = λ turn low.
            subst (IsMarkBelow records c.args.worker turn (mark + 1)) (sym (ap (λ o. o.items) w.order-is))
            (IsMarkBelow-set records c.args.worker mark entry at c.loop-k.order.items w.if-entry-worker.true
            (omega (arith, w.if-turn-len.true, w.len.ensures, c.loop-k.order.ok))
            (λ t below. c.loop-k.invariant.marks t (omega (arith, below, long))) turn (omega (arith, low, long)));
      }
      | then-entry-worker+else-turn-len w ↦ record {
        long = ap (λ o. length o.items) w.order-is ∙ long;
        marks = λ turn low.
            subst (IsMarkBelow records c.args.worker turn (mark + 1)) (sym (ap (λ o. o.items) w.order-is))
            (IsMarkBelow-other records c.args.worker mark entry at c.loop-k.order.items turn
            (λ of_turn. omega (arith, of_turn.turn, low, long, w.if-turn-len.false, w.len.ensures, c.loop-k.order.ok))
            (c.loop-k.invariant.marks turn low));
      }
      | else-entry-worker w ↦ record {
        long = ap (λ o. length o.items) w.order-is ∙ long;
        marks = λ turn low.
            subst (IsMarkBelow records c.args.worker turn (mark + 1)) (sym (ap (λ o. o.items) w.order-is))
            (IsMarkBelow-other records c.args.worker mark entry at c.loop-k.order.items turn (λ of_turn. w.if-entry-worker.false of_turn.worker)
            (c.loop-k.invariant.marks turn low));
      }
    ]

pub returns-clause-marks : goal.returns-clause-marks
returns-clause-marks c = λ turn low.
    IsMarkOfTurn-all c.args.records.now c.args.worker c.loop-k.k turn c.loop-k.order.items
    (omega (arith, c.loop-k-test.false, c.loop-k.auto.k-end)) (c.loop-k.invariant.marks turn (omega (arith, low, c.loop-k.invariant.long)))
