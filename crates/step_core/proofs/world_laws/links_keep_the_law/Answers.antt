use Rattle.step_core.specs.Views.{run_sizes}
use Rattle.step_core.proofs.Parts.LinkedStates.{IsLinked-linked, IsOnWayOf-found, is_linked-reached}
use Rattle.step_core.proofs.Steps.SteppedWorlds.{IsWorld-stepped}
use Rattle.step_core.specs.Steps.{Step}
use Rattle.step_core.proofs.world_laws.links_keep_the_law.Goals as goal

pub returns-clause-law : goal.returns-clause-law
returns-clause-law c = λ now is hand n side may after writes. IsWorld-stepped now is (Step.Link hand n side) after (record { may = may; leaves = writes })

pub returns-clause-failed : goal.returns-clause-failed
returns-clause-failed c = IsOnWayOf-found

pub returns-clause-linked : goal.returns-clause-linked
returns-clause-linked c =
    λ run words views world n. (IsLinked-linked (run_sizes run) words world.links.ways n, is_linked-reached (run_sizes run) words world.links.ways n)
