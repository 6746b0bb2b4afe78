use Rattle.tree_rewire.proofs.Words.{◌+◌, All, drop, take, Contains, Nodes, HasPostedGoals, HasWholeShare, Mirrors, nodes_on, HasSpreadFalls, PassLowers}
use Rattle.tree_rewire.proofs.Words.{cost_seen}
use Rattle.tree_rewire.proofs.RewiredNodes.{IsRewired}
use Rattle.tree_rewire.proofs.RewiredTrees.{IsRewiring}
use Rattle.tree_rewire.proofs.rewiring.rewire_each.Given as goal

-- The earlier near nodes are rewired, and what fell by that is spread. A pass with the whole share rewires the rest of the tree that it sees.
abbrev pub invariant-nodes : goal.invariant-nodes
invariant-nodes g l = record {
  steps : PassLowers l.shared l.fn.pass l.pass;
  earlier : All (IsRewired (g.C.Clearing.space l.hall) l.fn.pass.view l.pass.view l.from (cost_seen l.fn.pass.view (l.k + 1)))
      (take l.index (nodes_on l.among l.fn.pass.lists));
  spread : HasSpreadFalls (g.C.Clearing.space l.hall) (Contains (nodes_on l.among l.fn.pass.lists)) (l.k + 1) l.fn.pass.view l.pass.view;
  goals : HasWholeShare l.fn.pass.view → HasPostedGoals l.fn.pass.view → HasPostedGoals l.pass.view;
  whole : HasWholeShare l.fn.pass.view → (tree : Nodes) → Mirrors l.fn.pass.view tree
      → IsRewiring (g.C.Clearing.space l.hall) tree (l.k + 1) (nodes_on l.among l.fn.pass.lists) (drop l.index (nodes_on l.among l.fn.pass.lists)) l.pass.view;
}
