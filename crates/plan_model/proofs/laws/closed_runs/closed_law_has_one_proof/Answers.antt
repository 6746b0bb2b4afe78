use Rattle.plan_model.proofs.ClosedProps.{IsClosed-prop}
use Rattle.plan_model.proofs.laws.closed_runs.closed_law_has_one_proof.Goals as goal

pub returns : goal.returns
returns c = IsClosed-prop
