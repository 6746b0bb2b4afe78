use Rattle.plan_model.proofs.LeastPairLaws.{first_least-some, first_least-from_least, first_least-none, first_least-from_none}
use Rattle.plan_model.proofs.laws.trees.first_least_is_least.Goals as goal

pub returns-clause-some : goal.returns-clause-some
returns-clause-some c = first_least-some

pub returns-clause-from_least : goal.returns-clause-from_least
returns-clause-from_least c = first_least-from_least

pub returns-clause-none : goal.returns-clause-none
returns-clause-none c = first_least-none

pub returns-clause-from_none : goal.returns-clause-from_none
returns-clause-from_none c = first_least-from_none
