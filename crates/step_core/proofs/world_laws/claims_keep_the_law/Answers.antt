use Rattle.step_core.proofs.Steps.WorldSteps.{higher-found}
use Rattle.step_core.proofs.Steps.SteppedWorlds.{IsWorld-stepped}
use Rattle.step_core.specs.Steps.{Step}
use Rattle.step_core.proofs.world_laws.claims_keep_the_law.Goals as goal

pub returns-clause-law : goal.returns-clause-law
returns-clause-law c = λ now is strip limit may after writes. IsWorld-stepped now is (Step.Claim strip limit) after (record { may = may; leaves = writes })

pub returns-clause-failed : goal.returns-clause-failed
returns-clause-failed c = λ now is strip other. higher-found now.run now.words now.views now.id now.view is.world is.at strip other
