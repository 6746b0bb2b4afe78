use Rattle.seq_planner.proofs.RewiredLists.{IsRewiredSoFar}
use Rattle.seq_planner.proofs.search_tree.SearchTree.rewire.Given as goal

-- the earlier near nodes are looked at
abbrev pub invariant-loop-near_node : goal.invariant-loop-near_node
invariant-loop-near_node g l = IsRewiredSoFar (g.C.Clearing.space l.hall) l.initial.self l.self l.new_node l.near l.near_node-index
