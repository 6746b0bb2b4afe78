use Rattle.step_core.proofs.Whole.Histories.{MayBecome-told, best-falls, cost-falls}
use Rattle.step_core.proofs.world_laws.no_cost_rises.Goals as goal

pub returns-clause-told : goal.returns-clause-told
returns-clause-told c = λ now is after then. MayBecome-told now.run now.words after now.views now.id now.view then is.world is.at

pub returns-clause-costs : goal.returns-clause-costs
returns-clause-costs c = λ now is after then. cost-falls now.run now.words after now.views now.id now.view then is.world is.at

pub returns-clause-best : goal.returns-clause-best
returns-clause-best c = λ now is after then. best-falls now.run now.words after now.views now.id now.view then is.world is.at
