use Rattle.settle_report.proofs.Words.{arith, ap, sym, ◌∙◌, subst, is_some, cost_of, IsPresent, point_of, point_of-stands, state_of_grown, words_of_grown}
use Rattle.settle_report.proofs.Words.{sizes_of, IsBounded-stands}
use Rattle.settle_report.proofs.HeldOrders.{edge-held, parent-held}
use Rattle.settle_report.proofs.settling.lower_to_parent.Goals as goal

pub unwrap-above-requires : goal.unwrap-above-requires
unwrap-above-requires c =
    let grown = c.args.grown.now in
    let state = state_of_grown grown in
    let present = parent-held grown.task grown.limit (words_of_grown grown) grown.hold_run c.args.node c.requires.present in
    ap is_some c.point.ensures ∙ subst (IsPresent state.points) (sym c.parent-parent.ensures) present

pub cost-requires-2-clause-from : goal.cost-requires-2-clause-from
cost-requires-2-clause-from c =
    let grown = c.args.grown.now in
    IsBounded-stands (sizes_of grown.task) (words_of_grown grown) c.parent-parent.result c.unwrap-above.result
    (sym c.point.ensures ∙ c.unwrap-above.ensures)

pub cost-requires-2-clause-to : goal.cost-requires-2-clause-to
cost-requires-2-clause-to c =
    let grown = c.args.grown.now in
    IsBounded-stands (sizes_of grown.task) (words_of_grown grown) c.args.node c.unwrap-here.result
    (sym c.point-2.ensures ∙ c.unwrap-here.ensures)

pub lower-requires-clause-not_above : goal.lower-requires-clause-not_above
lower-requires-clause-not_above c =
    let grown = c.args.grown.now in
    let state = state_of_grown grown in
    let above = point_of-stands state.points c.parent-parent.result c.unwrap-above.result (sym c.point.ensures ∙ c.unwrap-above.ensures) in
    let here = point_of-stands state.points c.args.node c.unwrap-here.result (sym c.point-2.ensures ∙ c.unwrap-here.ensures) in
    let edge = edge-held grown.task grown.limit (words_of_grown grown) grown.hold_run c.args.node c.requires.other c.requires.present in
    let price =
    c.cost-2.ensures.value ∙ ap (λ p. cost_of p c.unwrap-here.result) (sym above) ∙ ap (cost_of (point_of state.points c.parent-parent.result)) (sym here)
    ∙ ap (λ m. cost_of (point_of state.points m) (point_of state.points c.args.node)) c.parent-parent.ensures in
    omega (arith, edge, price, c.cost.ensures ∙ ap state.cost c.parent-parent.ensures)
