use Rattle.step_core.proofs.Steps.WorldNodes.{lower-found}
use Rattle.step_core.proofs.Steps.SteppedWorlds.{IsWorld-stepped}
use Rattle.step_core.specs.Steps.{Step}
use Rattle.step_core.proofs.world_laws.lowers_keep_the_law.Goals as goal

pub returns-clause-law : goal.returns-clause-law
returns-clause-law c = λ now is n parent cost may after writes. IsWorld-stepped now is (Step.Lower n parent cost) after (record { may = may; leaves = writes })

pub returns-clause-failed : goal.returns-clause-failed
returns-clause-failed c = λ now is. lower-found now.run now.words now.views now.id now.view is.world is.at
