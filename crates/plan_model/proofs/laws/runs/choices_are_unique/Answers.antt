use Rattle.plan_model.proofs.UniqueRuns.{IsNearest-unique, IsBestParent-unique, RewiresOne-unique, Rewires-unique}
use Rattle.plan_model.proofs.laws.runs.choices_are_unique.Goals as goal

pub returns-clause-nearest : goal.returns-clause-nearest
returns-clause-nearest c = IsNearest-unique

pub returns-clause-parent : goal.returns-clause-parent
returns-clause-parent c = IsBestParent-unique

pub returns-clause-rewired_one : goal.returns-clause-rewired_one
returns-clause-rewired_one c = RewiresOne-unique

pub returns-clause-rewired : goal.returns-clause-rewired
returns-clause-rewired c = Rewires-unique
