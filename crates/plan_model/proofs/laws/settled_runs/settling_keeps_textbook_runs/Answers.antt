use Rattle.plan_model.proofs.SettledRuns.{IsOfTextbookRun-settled}
use Rattle.plan_model.proofs.laws.settled_runs.settling_keeps_textbook_runs.Goals as goal

pub returns : goal.returns
returns c = IsOfTextbookRun-settled
