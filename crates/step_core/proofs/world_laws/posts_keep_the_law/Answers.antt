use Rattle.step_core.specs.Steps.{Step}
use Rattle.step_core.proofs.Steps.SteppedWorlds.{IsWorld-stepped}
use Rattle.step_core.proofs.world_laws.posts_keep_the_law.Goals as goal

pub returns : goal.returns
returns c = λ now is n may after writes. IsWorld-stepped now is (Step.Post n) after (record { may = may; leaves = writes })
