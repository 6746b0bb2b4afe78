use Rattle.twin_trees.proofs.Words.{ℕ, ◌<◌, setup_of, state_of_grown, Matches, MayBeBest}
use Rattle.twin_trees.proofs.bridging.least_bridge.Given as goal

-- each pair of a node of the first run below this number is matched
abbrev pub invariant-loop-node : goal.invariant-loop-node
invariant-loop-node g l =
    record {
      best : MayBeBest (setup_of l.first.task.scene) (state_of_grown l.first) (state_of_grown l.second) l.best;
      looked : (c d : ℕ) → c < l.node → Matches (setup_of l.first.task.scene) (state_of_grown l.first) (state_of_grown l.second) l.best c d;
    }
