use Rattle.twin_trees.proofs.Words.{ℕ, ◌-◌, ◌*◌, ◌<◌, length, IsWithin, numbered_at, IsNoWorse, MatchesIn, MayBeBestIn}
use Rattle.twin_trees.proofs.bridging.best_from.Given as goal

-- each node of a position that was passed, within a step, is matched
abbrev pub invariant-walk : goal.invariant-walk
invariant-walk g l =
    record {
      best : MayBeBestIn l.runs l.best;
      no_worse : IsNoWorse l.initial.best l.best;
      looked : (j : ℕ) → j < l.at → IsWithin l.end.point (l.runs.first.now.task.scene.step * l.runs.first.now.task.scene.step) (numbered_at l.bands j).point
          → MatchesIn l.runs l.best l.end.number (numbered_at l.bands j).number;
    }

abbrev pub decreases-walk : goal.decreases-walk
decreases-walk g l = length l.bands - l.at
