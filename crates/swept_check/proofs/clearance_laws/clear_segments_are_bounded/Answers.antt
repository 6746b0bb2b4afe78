use Rattle.swept_check.proofs.BoundedSegments.{IsBounded-clear, IsBounded-clear_in_scene}
use Rattle.swept_check.proofs.clearance_laws.clear_segments_are_bounded.Goals as goal

pub returns-clause-space : goal.returns-clause-space
returns-clause-space c = IsBounded-clear

pub returns-clause-scene : goal.returns-clause-scene
returns-clause-scene c = IsBounded-clear_in_scene
