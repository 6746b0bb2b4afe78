use Rattle.path_tools.proofs.SmoothedLaws.{IsClearPath-smoothed}
use Rattle.path_tools.proofs.smoothing_laws.smoothed_paths_are_clear.Goals as goal

pub returns : goal.returns
returns c = IsClearPath-smoothed
