use Rattle.std.proofs.Common.{[], sym, ◌∙◌}
use Rattle.report_judge.proofs.Laws.ListedNodes.{goal-listed, goal-none, present-listed}
use Rattle.report_judge.proofs.trees.best_paths.is_goal_node.Goals as goal

pub returns-in-Some : goal.returns-in-Some
returns-in-Some c = record {
  value = c.lies_in_goals.ensures ∙ goal-listed c.args.knots.now [] c.args.node c.args.goals.now c.in-Some.knot (sym c.in-Some.ensures);
  present = λ inside. present-listed c.args.knots.now [] c.args.node c.in-Some.knot (sym c.in-Some.ensures);
}

pub returns-in-None-clause-value : goal.returns-in-None-clause-value
returns-in-None-clause-value c = sym (goal-none c.args.knots.now [] c.args.node c.args.goals.now (sym c.in-None.ensures))
