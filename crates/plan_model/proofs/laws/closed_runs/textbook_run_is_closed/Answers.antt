use Rattle.plan_model.proofs.TextbookRuns.{IsClosed-textbook}
use Rattle.plan_model.proofs.laws.closed_runs.textbook_run_is_closed.Goals as goal

pub returns : goal.returns
returns c = IsClosed-textbook
