use Rattle.step_core.proofs.Parts.LawfulRecords.{own_count-most}
use Rattle.step_core.proofs.Parts.WorldLinks.{count-most}
use Rattle.step_core.proofs.Steps.SteppedWorlds.{IsWorld-stepped}
use Rattle.step_core.specs.Steps.{Step}
use Rattle.step_core.proofs.world_laws.counts_keep_the_law.Goals as goal

pub returns-clause-law : goal.returns-clause-law
returns-clause-law c = λ now is hand holds after writes. IsWorld-stepped now is (Step.Add hand) after (record { may = holds; leaves = writes })

pub returns-clause-most : goal.returns-clause-most
returns-clause-most c = λ run words views world. count-most run words views world.numbers world.links

pub returns-clause-own : goal.returns-clause-own
returns-clause-own c = λ now is. own_count-most now.run now.words now.views now.id now.view is.world is.at is.own
