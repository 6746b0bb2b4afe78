use Rattle.tree_rewire.proofs.Words.{◌≡◌, ◌++◌, drop, take, weighed, with_found}
use Rattle.tree_rewire.proofs.near_nodes.set_edges.Given as goal

-- the earlier ones have the costs of their edges
abbrev pub invariant-edges : goal.invariant-edges
invariant-edges l =
    l.pass ≡ with_found l.fn.pass l.fn.pass.view (weighed (take l.index l.fn.pass.lists.search.found) ++ drop l.index l.fn.pass.lists.search.found)
