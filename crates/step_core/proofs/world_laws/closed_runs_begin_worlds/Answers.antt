use Rattle.step_core.proofs.Steps.WorldStarts.{IsWorld-started}
use Rattle.step_core.proofs.world_laws.closed_runs_begin_worlds.Goals as goal

pub returns : goal.returns
returns c = IsWorld-started
