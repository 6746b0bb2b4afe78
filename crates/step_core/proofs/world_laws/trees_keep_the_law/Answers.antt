use Rattle.step_core.proofs.Steps.SteppedWorlds.{IsWorld-stepped}
use Rattle.step_core.specs.Steps.{Step}
use Rattle.step_core.proofs.world_laws.trees_keep_the_law.Goals as goal

pub returns-clause-first : goal.returns-clause-first
returns-clause-first c =
    λ now is hand holds parent cost hangs after writes.
    IsWorld-stepped now is (Step.WriteFirst hand parent cost) after (record { may = (holds, hangs); leaves = writes })

pub returns-clause-tree : goal.returns-clause-tree
returns-clause-tree c = λ now is hand holds after writes. IsWorld-stepped now is (Step.WriteTree hand) after (record { may = holds; leaves = writes })
