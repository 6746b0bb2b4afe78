use Rattle.plan_model.proofs.LeastPairLaws.{IsNotAbove-refl, IsNotAbove-trans, IsNotAbove-total, IsNotAbove-antisym}
use Rattle.plan_model.proofs.laws.trees.pairs_are_ordered.Goals as goal

pub returns-clause-itself : goal.returns-clause-itself
returns-clause-itself c = IsNotAbove-refl

pub returns-clause-chained : goal.returns-clause-chained
returns-clause-chained c = IsNotAbove-trans

pub returns-clause-either : goal.returns-clause-either
returns-clause-either c = IsNotAbove-total

pub returns-clause-apart : goal.returns-clause-apart
returns-clause-apart c = IsNotAbove-antisym
