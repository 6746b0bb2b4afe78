use Rattle.report_judge.proofs.Words.{sym, ◌∙◌, true≢false}
use Rattle.report_judge.proofs.Workers.SeenStarts.{AreSeen-in_goal, AreSeen-no_goal}
use Rattle.report_judge.proofs.own.seen_nodes.Seen.at_start.Goals as goal

pub returns-then-is_goal_node : goal.returns-then-is_goal_node
returns-then-is_goal_node c = λ records worker.
    AreSeen-in_goal c.args.knots.now records worker c.requires c.args.goals.now (sym c.is_goal_node.ensures.value ∙ c.if-is_goal_node.true)

pub returns-else-is_goal_node : goal.returns-else-is_goal_node
returns-else-is_goal_node c = λ records worker.
    AreSeen-no_goal c.args.knots.now records worker c.requires c.args.goals.now
    (λ inside. true≢false (sym inside ∙ sym c.is_goal_node.ensures.value ∙ c.if-is_goal_node.false))
