use Rattle.step_core.proofs.Steps.SteppedWorlds.{IsWorld-stepped}
use Rattle.step_core.specs.Steps.{Step}
use Rattle.step_core.proofs.world_laws.records_keep_the_law.Goals as goal

pub returns : goal.returns
returns c = λ now is hand entry may after writes. IsWorld-stepped now is (Step.Finish hand entry) after (record { may = may; leaves = writes })
