use Rattle.std.proofs.Common.{Some, sym, ◌∙◌}
use Rattle.grown_runs.proofs.Common.{goals_of, state_of_grown}
use Rattle.settle_report.proofs.GoalNodes.{IsPresent-best}
use Rattle.path_tools.proofs.smoothed_reports.smoothed_report.Goals as goal

pub report_along_smoothed-requires-clause-present : goal.report_along_smoothed-requires-clause-present
report_along_smoothed-requires-clause-present g c κs within =
    let grown = c.args.grown.now in
    IsPresent-best (goals_of grown.task.scene) (state_of_grown grown) grown.limit (Some c.in-Some.node) (sym c.in-Some.is ∙ c.requires.best)
