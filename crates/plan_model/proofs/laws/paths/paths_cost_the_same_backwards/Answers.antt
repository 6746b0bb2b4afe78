use Rattle.plan_model.proofs.PathLengths.{length_of_path-reverse}
use Rattle.plan_model.proofs.laws.paths.paths_cost_the_same_backwards.Goals as goal

pub returns : goal.returns
returns c = length_of_path-reverse
