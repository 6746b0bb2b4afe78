use Rattle.std.proofs.Common.{refl}
use Rattle.step_core.specs.Steps.{Step}
use Rattle.step_core.proofs.Steps.SteppedWorlds.{IsWorld-stepped}
use Rattle.step_core.proofs.world_laws.best_loads_keep_the_law.Goals as goal

pub returns : goal.returns
returns c = λ now is informed. IsWorld-stepped now is Step.LoadBest now.words (record { may = informed; leaves = refl })
