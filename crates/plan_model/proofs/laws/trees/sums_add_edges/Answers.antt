use Rattle.plan_model.proofs.ChainLaws.{sum-start, sum-parent, sums-tight}
use Rattle.plan_model.proofs.laws.trees.sums_add_edges.Goals as goal

pub returns-clause-start : goal.returns-clause-start
returns-clause-start c = sum-start

pub returns-clause-parent : goal.returns-clause-parent
returns-clause-parent c = sum-parent

pub returns-clause-tight : goal.returns-clause-tight
returns-clause-tight c = sums-tight
