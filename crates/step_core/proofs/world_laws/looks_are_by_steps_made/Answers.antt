use Rattle.std.proofs.Common.{arith}
use Rattle.step_core.proofs.Steps.WorldSteps.{live}
use Rattle.step_core.proofs.world_laws.looks_are_by_steps_made.Goals as goal

pub returns-clause-looked : goal.returns-clause-looked
returns-clause-looked c = λ now is name moment since.
    omega (arith, since, (live now.run now.words now.views now.id now.view is.world is.at is.own).looks name)

pub returns-clause-found_zero : goal.returns-clause-found_zero
returns-clause-found_zero c = λ now is name moment since.
    omega (arith, since, (live now.run now.words now.views now.id now.view is.world is.at is.own).zero_looks name)
