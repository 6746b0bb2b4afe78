use Rattle.std.proofs.Common.{◌+◌, ◌-◌, length}
use Rattle.convex_sets.proofs.MergedPaths.{IsMergedTo}
use Rattle.convex_sets.proofs.merging.merged.Given as goal

abbrev pub invariant-loop-reached : goal.invariant-loop-reached
invariant-loop-reached l = IsMergedTo l.a l.b l.corners.items l.reached.first l.reached.second

abbrev pub decreases-loop-reached : goal.decreases-loop-reached
decreases-loop-reached l = (length l.a - l.reached.first) + (length l.b - l.reached.second)
