use Rattle.plan_model.proofs.UniqueRuns.{IsTextbookRun-same_inputs}
use Rattle.plan_model.proofs.laws.runs.same_inputs_have_the_same_run.Goals as goal

pub returns : goal.returns
returns c = IsTextbookRun-same_inputs
