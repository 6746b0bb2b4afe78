use Rattle.settle_report.proofs.Words.{sym, ◌∙◌, words_of_grown, sizes_of, IsBounded-stands}
use Rattle.settle_report.proofs.settling.is_tight.Goals as goal

pub costs_less_through-requires-clause-from : goal.costs_less_through-requires-clause-from
costs_less_through-requires-clause-from c =
    let grown = c.args.grown.now in
    IsBounded-stands (sizes_of grown.task) (words_of_grown grown) c.parent-parent.result c.unwrap-above.result
    (sym c.point-2.ensures ∙ c.unwrap-above.ensures)

pub costs_less_through-requires-clause-to : goal.costs_less_through-requires-clause-to
costs_less_through-requires-clause-to c =
    let grown = c.args.grown.now in
    IsBounded-stands (sizes_of grown.task) (words_of_grown grown) c.args.node c.in-Some.here
    (sym c.point.ensures ∙ c.in-Some.is)
