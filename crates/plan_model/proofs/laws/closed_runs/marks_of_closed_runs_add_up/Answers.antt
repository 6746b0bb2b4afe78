use Rattle.plan_model.proofs.CountLaws.{outcomes-closed, none_skipped-closed, node_count-closed, numbers-closed}
use Rattle.plan_model.proofs.laws.closed_runs.marks_of_closed_runs_add_up.Goals as goal

pub returns-clause-outcomes : goal.returns-clause-outcomes
returns-clause-outcomes c = outcomes-closed

pub returns-clause-none_skipped : goal.returns-clause-none_skipped
returns-clause-none_skipped c = none_skipped-closed

pub returns-clause-nodes : goal.returns-clause-nodes
returns-clause-nodes c = node_count-closed

pub returns-clause-numbers : goal.returns-clause-numbers
returns-clause-numbers c = numbers-closed
