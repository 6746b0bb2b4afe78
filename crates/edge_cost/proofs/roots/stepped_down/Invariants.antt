use Rattle.edge_cost.proofs.Words.{◌*◌, ◌≤◌, MOST_ROOT}
use Rattle.edge_cost.proofs.roots.stepped_down.Given as goal

abbrev pub invariant-loop-root : goal.invariant-loop-root
invariant-loop-root l = (l.root ≤ MOST_ROOT) × (l.n ≤ l.root * l.root)

abbrev pub decreases-loop-root : goal.decreases-loop-root
decreases-loop-root l = l.root
