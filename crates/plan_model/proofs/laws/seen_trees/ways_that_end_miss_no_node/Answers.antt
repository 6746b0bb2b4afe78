use Rattle.plan_model.proofs.SightLaws.{IsFree-ends}
use Rattle.plan_model.proofs.laws.seen_trees.ways_that_end_miss_no_node.Goals as goal

pub returns : goal.returns
returns c = IsFree-ends
