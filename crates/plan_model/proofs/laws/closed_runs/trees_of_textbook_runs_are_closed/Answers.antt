use Rattle.plan_model.proofs.SameTrees.{IsClosed-of_textbook, IsSettled-of_textbook}
use Rattle.plan_model.proofs.laws.closed_runs.trees_of_textbook_runs_are_closed.Goals as goal

pub returns-clause-closed : goal.returns-clause-closed
returns-clause-closed c = IsClosed-of_textbook

pub returns-clause-settled : goal.returns-clause-settled
returns-clause-settled c = IsSettled-of_textbook
