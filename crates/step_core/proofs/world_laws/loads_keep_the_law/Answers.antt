use Rattle.std.proofs.Common.{refl}
use Rattle.step_core.proofs.Parts.LinkedStates.{IsSome-seen_point}
use Rattle.step_core.proofs.Steps.WorldNodes.{IsSome-seen_tree}
use Rattle.step_core.proofs.Steps.WorldSteps.{AreBehind-loaded, follow, tree}
use Rattle.step_core.proofs.Steps.SteppedWorlds.{IsWorld-stepped}
use Rattle.step_core.specs.Steps.{Step}
use Rattle.step_core.proofs.world_laws.loads_keep_the_law.Goals as goal

pub returns-clause-law : goal.returns-clause-law
returns-clause-law c = λ now is name may. IsWorld-stepped now is (Step.Load name) now.words (record { may = may; leaves = refl })

pub returns-clause-seen : goal.returns-clause-seen
returns-clause-seen c = λ now is name may. AreBehind-loaded now.run now.words now.views now.id now.view is.world is.at is.own name may

pub returns-clause-written : goal.returns-clause-written
returns-clause-written c =
    λ now is.
    IsSome-seen_point now.view now.words (is.world.seen.behind now.id now.view is.at) (tree now.run now.words now.views now.id now.view is.world is.at is.own)
    (follow now.run now.words now.views now.id now.view is.world is.at is.own)

pub returns-clause-written_trees : goal.returns-clause-written_trees
returns-clause-written_trees c = λ now is. IsSome-seen_tree now.run now.words now.views now.id now.view is.world is.at is.own
