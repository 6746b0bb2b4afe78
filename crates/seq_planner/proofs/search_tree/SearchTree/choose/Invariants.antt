use Rattle.seq_planner.proofs.Words.{◌∷◌, take, IsLeastParent, IsOpenTo, cost_through, points_of}
use Rattle.seq_planner.proofs.search_tree.SearchTree.choose.Given as goal

-- the best so far is that of the nearest node and the earlier near ones
abbrev pub invariant-loop-number : goal.invariant-loop-number
invariant-loop-number g l =
    IsLeastParent (cost_through l.self.nodes l.point)
    (IsOpenTo (g.C.Clearing.space l.hall) (points_of l.self.nodes) l.point (l.nearest ∷ take l.number-index l.near)) l.best
