use Rattle.report_judge.proofs.Words.{◌-◌, length, refl, sym, ap, ◌∙◌, arith, slice_get_past, slice_get_read, Record, first_cost_of, recorded_or}
use Rattle.report_judge.proofs.Words.{state_of_lists}
use Rattle.report_judge.proofs.Laws.HangingNodes.{first_cost-recorded}
use Rattle.report_judge.proofs.trees.hanging.first_cost.Goals as goal

pub returns-then-node-eq0 : goal.returns-then-node-eq0
returns-then-node-eq0 c = λ knots. sym (ap (first_cost_of (state_of_lists knots c.args.records.now)) c.if-node-eq0.true)

pub returns-then-k-records : goal.returns-then-k-records
returns-then-k-records c = λ knots.
    sym (
    first_cost-recorded knots c.args.records.now c.args.node (omega (arith, c.if-node-eq0.false))
    ∙ ap (recorded_or 0) (slice_get_past c.args.records.now (c.args.node - 1) (omega (arith, c.if-k-records.true)))
    )

pub returns : goal.returns
returns c = λ knots.
    let found =
    slice_get_read c.args.records.now (length c.args.records.now) (c.args.node - 1) c.index-records-k.result refl
    (omega (arith, c.if-k-records.false)) c.index-records-k.is in
    ap (λ (r : Record). r.first_cost) (sym c.index-records-k.is)
    ∙ sym (first_cost-recorded knots c.args.records.now c.args.node (omega (arith, c.if-node-eq0.false)) ∙ ap (recorded_or 0) found)
