use Rattle.report_judge.proofs.Words.{ap, arith, sym, ◌∙◌, count_by, is_some, take_all, node_count-lists}
use Rattle.report_judge.proofs.marks.lawful_records.present_count.Goals as goal

pub returns : goal.returns
returns c records =
    c.loop-knot.invariant ∙ ap (count_by is_some) (take_all c.loop-knot.knot-index c.args.knots.now (omega (arith, c.loop-knot-test.false)))
    ∙ sym (node_count-lists c.args.knots.now)
