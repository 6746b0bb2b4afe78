use Rattle.step_core.proofs.Steps.SteppedWorlds.{IsWorld-stepped}
use Rattle.step_core.specs.Steps.{Step}
use Rattle.step_core.proofs.world_laws.points_keep_the_law.Goals as goal

pub returns : goal.returns
returns c =
    λ now is hand holds m p steered unskipped after writes.
    IsWorld-stepped now is (Step.WritePoint hand m p) after (record { may = (holds, steered, unskipped); leaves = writes })
