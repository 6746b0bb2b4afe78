use Rattle.step_core.proofs.Whole.ClosedWorlds.{HoldRun-whole, StandsAsSeen-whole, own_workers-whole}
use Rattle.step_core.proofs.world_laws.whole_shares_close_runs.Goals as goal

pub returns-clause-run : goal.returns-clause-run
returns-clause-run c = HoldRun-whole

pub returns-clause-seen : goal.returns-clause-seen
returns-clause-seen c = StandsAsSeen-whole

pub returns-clause-workers : goal.returns-clause-workers
returns-clause-workers c = own_workers-whole
