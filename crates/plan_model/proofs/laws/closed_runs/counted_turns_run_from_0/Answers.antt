use Rattle.plan_model.proofs.TurnsFromZero.{AreTurns-counted, RunFromZero-counts}
use Rattle.plan_model.proofs.laws.closed_runs.counted_turns_run_from_0.Goals as goal

pub returns-clause-run : goal.returns-clause-run
returns-clause-run c = RunFromZero-counts

pub returns-clause-counted : goal.returns-clause-counted
returns-clause-counted c = λ record_of limit within run. AreTurns-counted record_of run limit within
