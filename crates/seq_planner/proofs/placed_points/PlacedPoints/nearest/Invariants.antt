use Rattle.std.proofs.Common.{length}
use Rattle.seq_planner.proofs.LeastIndices.{IsLeastIndex}
use Rattle.seq_planner.proofs.ScannedLists.{distance_at}
use Rattle.seq_planner.proofs.placed_points.PlacedPoints.nearest.Given as goal

-- the best so far is the index of the nearest of the earlier points
abbrev pub invariant-loop-index : goal.invariant-loop-index
invariant-loop-index l = IsLeastIndex (distance_at l.self.points.items l.mark) (length l.self.points.items) l.index l.best l.least
