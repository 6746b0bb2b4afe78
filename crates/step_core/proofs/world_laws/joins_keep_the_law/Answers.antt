use Rattle.std.proofs.Common.{refl}
use Rattle.step_core.proofs.Steps.WorldJoins.{AreBehind-joined, AreBehind-other}
use Rattle.step_core.proofs.Steps.SteppedWorlds.{IsWorld-stepped}
use Rattle.step_core.specs.Steps.{Step}
use Rattle.step_core.proofs.world_laws.joins_keep_the_law.Goals as goal

pub returns-clause-law : goal.returns-clause-law
returns-clause-law c = λ now is j other may. IsWorld-stepped now is (Step.Join j other) now.words (record { may = may; leaves = refl })

pub returns-clause-seen : goal.returns-clause-seen
returns-clause-seen c = AreBehind-joined

pub returns-clause-others_seen : goal.returns-clause-others_seen
returns-clause-others_seen c = λ now is j other. AreBehind-other now.run now.words now.views now.id now.view j other is.world is.at is.own
