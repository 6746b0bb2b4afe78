use Rattle.plan_model.proofs.ChainLaws.{chain-start, chain-parent}
use Rattle.plan_model.proofs.laws.trees.chains_follow_parents.Goals as goal

pub returns-clause-start : goal.returns-clause-start
returns-clause-start c = chain-start

pub returns-clause-parent : goal.returns-clause-parent
returns-clause-parent c = chain-parent
