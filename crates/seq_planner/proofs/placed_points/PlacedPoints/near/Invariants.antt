use Rattle.seq_planner.proofs.Words.{◌≡◌, List, Option, take, filter, Point, is_within, point_at, ArePlaced}
use Rattle.seq_planner.proofs.placed_points.PlacedPoints.near.Given as goal

-- the list has those of the earlier nodes that are near
abbrev pub invariant-loop-index : goal.invariant-loop-index
invariant-loop-index l =
    (points : List (Option Point)) → ArePlaced points l.self
    → l.found.items ≡ filter (λ i. is_within l.point l.radius (point_at points i)) (take l.index l.self.numbers.items)
