-- The best node of a run is present and lies in a goal; without one, no node does.
use Rattle.any_time.proofs.Words.{◌≡◌, ℕ, Option, Some, None, refl, option_map, IsPresent-goal, best_node-none, best_node-some, numbers-closed, setup_of}
use Rattle.any_time.proofs.Words.{IsGoalNode, goals_of, AreNumberedTo, IsPresent, point_at, sum_in, state_of_grown, Grown, best_of, best_sum}

-- no node of a run has a number past its limit
pub AreNumberedTo-grown : (run : Grown) → AreNumberedTo run.limit (state_of_grown run).points
AreNumberedTo-grown run = numbers-closed (setup_of run.task.scene) run.task.marks run.limit (state_of_grown run) run.hold_run.closed

pub IsGoalNode-best : (run : Grown) (node : ℕ) → best_of run ≡ Some node → IsGoalNode (goals_of run.task.scene) (state_of_grown run).points node
IsGoalNode-best run node best =
    (best_node-some (goals_of run.task.scene) run.limit (state_of_grown run) node (AreNumberedTo-grown run) best).member

pub IsPresent-best : (run : Grown) (node : ℕ) → best_of run ≡ Some node → IsPresent (state_of_grown run).points node
IsPresent-best run node best =
    IsPresent-goal (goals_of run.task.scene) (point_at (state_of_grown run).points node) (IsGoalNode-best run node best)

none_mapped : (f : ℕ → ℕ) (o : Option ℕ) → option_map f o ≡ None → o ≡ None
none_mapped f None e = refl
none_mapped f (Some n) e = cc

-- without a best sum no node lies in a goal
pub none-best : (run : Grown) → best_sum run ≡ None → (n : ℕ) → ¬ IsGoalNode (goals_of run.task.scene) (state_of_grown run).points n
none-best run none =
    best_node-none (goals_of run.task.scene) run.limit (state_of_grown run) (AreNumberedTo-grown run)
    (none_mapped (sum_in (state_of_grown run)) (best_of run) none)
