use Rattle.seq_planner.proofs.Words.{length, get_or, distance_to, points_of}
use Rattle.seq_planner.proofs.LeastIndices.{IsLeastIndex}
use Rattle.seq_planner.proofs.search_tree.SearchTree.nearest_listed.Given as goal

-- the best so far is the index of the nearest of the earlier nodes
abbrev pub invariant-loop-index : goal.invariant-loop-index
invariant-loop-index l = IsLeastIndex (λ i. distance_to l.mark (points_of l.self.nodes) (get_or l.list i 0)) (length l.list) l.index l.best l.least
