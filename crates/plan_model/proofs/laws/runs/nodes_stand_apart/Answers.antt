use Rattle.plan_model.proofs.DistinctPoints.{AreDistinct-textbook}
use Rattle.plan_model.proofs.laws.runs.nodes_stand_apart.Goals as goal

pub returns : goal.returns
returns c = λ setup marks tree records run. AreDistinct-textbook setup marks tree records run
