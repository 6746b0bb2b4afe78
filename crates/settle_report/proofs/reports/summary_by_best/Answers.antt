use Rattle.grown_runs.proofs.Common.{goals_of, state_of_grown}
use Rattle.settle_report.proofs.GoalNodes.{IsPresent-best}
use Rattle.settle_report.proofs.reports.summary_by_best.Goals as goal

pub best_path-requires : goal.best_path-requires
best_path-requires c =
    let grown = c.args.grown.now in IsPresent-best (goals_of grown.task.scene) (state_of_grown grown) grown.limit c.args.best c.requires.best

pub push_head_line-requires-clause-present : goal.push_head_line-requires-clause-present
push_head_line-requires-clause-present c =
    let grown = c.args.grown.now in IsPresent-best (goals_of grown.task.scene) (state_of_grown grown) grown.limit c.args.best c.requires.best
