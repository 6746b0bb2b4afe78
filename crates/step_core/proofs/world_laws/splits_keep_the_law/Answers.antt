use Rattle.std.proofs.Common.{refl}
use Rattle.step_core.proofs.Steps.SteppedWorlds.{IsWorld-stepped}
use Rattle.step_core.specs.Steps.{Step}
use Rattle.step_core.proofs.world_laws.splits_keep_the_law.Goals as goal

pub returns-clause-worker : goal.returns-clause-worker
returns-clause-worker c = λ now is. IsWorld-stepped now is Step.HandOn now.words (record { may = tt; leaves = refl })

pub returns-clause-looker : goal.returns-clause-looker
returns-clause-looker c = λ now is. IsWorld-stepped now is Step.Look now.words (record { may = tt; leaves = refl })
