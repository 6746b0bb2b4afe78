use Rattle.report_judge.proofs.Words.{◌+◌, arith, sym, ap, le-leb, leb-true, cost_of}
use Rattle.report_judge.proofs.Workers.FirstCosts.{first_cost_low}
use Rattle.report_judge.proofs.Laws.ListedNodes.{none-present, point_of-listed, present-listed}
use Rattle.report_judge.proofs.marks.placed_marks.is_within_first.Goals as goal

pub overflow_add-result : goal.overflow_add-result
overflow_add-result c =
    let knots = c.args.judged.now.knots.now in
    omega (
      arith,
      c.first_cost.ensures knots,
      first_cost_low knots c.args.judged.now.records.now c.requires.judged.first c.args.node,
      c.cost.ensures.bound,
    )

pub returns-in-Some : goal.returns-in-Some
returns-in-Some c =
    let knots = c.args.judged.now.knots.now in
    let records = c.args.judged.now.records.now in
    let edge = ap (λ q. cost_of q c.args.p) (point_of-listed knots records c.args.node c.in-Some.knot (sym c.in-Some.ensures)) in
    let cost = c.first_cost.result + c.cost.result in (
      λ h. record {
        present = present-listed knots records c.args.node c.in-Some.knot (sym c.in-Some.ensures);
        within = omega (arith, leb-true c.args.entry.first_cost cost h, c.first_cost.ensures knots, c.cost.ensures.value, edge);
      },
      λ way. le-leb c.args.entry.first_cost cost (omega (arith, way.within, c.first_cost.ensures knots, c.cost.ensures.value, edge)),
    )

pub returns-in-None : goal.returns-in-None
returns-in-None c = (
  λ h. cc,
  λ way. absurd (none-present c.args.judged.now.knots.now c.args.judged.now.records.now c.args.node (sym c.in-None.ensures) way.present),
)
