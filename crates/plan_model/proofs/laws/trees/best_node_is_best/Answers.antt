use Rattle.plan_model.proofs.BestNodeLaws.{best_node-some, best_node-from_best, best_node-none, best_node-from_none}
use Rattle.plan_model.proofs.laws.trees.best_node_is_best.Goals as goal

pub returns-clause-some : goal.returns-clause-some
returns-clause-some c = best_node-some

pub returns-clause-from_best : goal.returns-clause-from_best
returns-clause-from_best c = best_node-from_best

pub returns-clause-none : goal.returns-clause-none
returns-clause-none c = best_node-none

pub returns-clause-from_none : goal.returns-clause-from_none
returns-clause-from_none c = best_node-from_none
