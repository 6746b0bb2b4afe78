use Rattle.path_tools.proofs.SmoothedLaws.{IsSmoothed-same}
use Rattle.path_tools.proofs.smoothing_laws.smoothed_paths_are_unique.Goals as goal

pub returns : goal.returns
returns c = IsSmoothed-same
