use Rattle.std.proofs.Common.{◌-◌}
use Rattle.path_tools.specs.SmoothPaths.{rest_at}
use Rattle.path_tools.proofs.Walks.{HasWalked}
use Rattle.path_tools.proofs.smoothing.cheapest_path.Given as goal

abbrev pub invariant-loop-at : goal.invariant-loop-at
invariant-loop-at g l = HasWalked (g.C.Clearing.space l.hall) l.path l.points.items l.at (rest_at l.rests.items 0).cost

abbrev pub decreases-loop-at : goal.decreases-loop-at
decreases-loop-at g l = l.last - l.at
