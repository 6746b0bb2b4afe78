use Rattle.twin_trees.proofs.Words.{sym, ◌∙◌}
use Rattle.twin_trees.proofs.SearchedPairs.{IsBounded-grown}
use Rattle.twin_trees.proofs.reports.cost_over.Goals as goal

pub cost-requires-2-clause-from : goal.cost-requires-2-clause-from
cost-requires-2-clause-from c =
    IsBounded-grown c.args.first.now c.args.one c.unwrap-from.result (sym c.point.ensures ∙ c.unwrap-from.ensures)

pub cost-requires-2-clause-to : goal.cost-requires-2-clause-to
cost-requires-2-clause-to c =
    IsBounded-grown c.args.second.now c.args.other c.unwrap-to.result (sym c.point-2.ensures ∙ c.unwrap-to.ensures)
