use Rattle.step_core.proofs.Steps.SteppedWorlds.{AreBehind-stepped, IsLater-step, IsWorld-stepped, best-stepped}
use Rattle.step_core.proofs.world_laws.steps_keep_the_law.Goals as goal

pub returns-clause-law : goal.returns-clause-law
returns-clause-law c = IsWorld-stepped

pub returns-clause-words : goal.returns-clause-words
returns-clause-words c = AreBehind-stepped

pub returns-clause-view : goal.returns-clause-view
returns-clause-view c = IsLater-step

pub returns-clause-best : goal.returns-clause-best
returns-clause-best c = best-stepped
