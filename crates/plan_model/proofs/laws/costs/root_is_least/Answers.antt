use Rattle.plan_model.proofs.RootLaws.{root_ceiling-is}
use Rattle.plan_model.proofs.laws.costs.root_is_least.Goals as goal

pub returns : goal.returns
returns c = root_ceiling-is
