use Rattle.twin_trees.proofs.Words.{ℕ, ◌*◌, ◌<◌, ◌≤◌, IsWithin, numbered_at, IsNoWorse, MatchesIn, MayBeBestIn}
use Rattle.twin_trees.proofs.bridging.best_in_stretch.Given as goal

-- each node of the stretch so far, within a step, is matched
abbrev pub invariant-loop-position : goal.invariant-loop-position
invariant-loop-position g l =
    record {
      best : MayBeBestIn l.runs l.best;
      no_worse : IsNoWorse l.initial.best l.best;
      looked : (j : ℕ) → l.fn.stretch.start ≤ j → j < l.position
          → IsWithin l.end.point (l.runs.first.now.task.scene.step * l.runs.first.now.task.scene.step) (numbered_at l.bands j).point
          → MatchesIn l.runs l.best l.end.number (numbered_at l.bands j).number;
    }
