-- The best sum of a settled run that grows into another stays or falls.
use Rattle.any_time.proofs.Words.{◌≡◌, ◌≤◌, ℕ, Option, Some, None, IfSome, IsSomeAnd, refl, sym, ap, subst, option_map, best_node-some, IsGoalNode-grows}
use Rattle.any_time.proofs.Words.{best_sum-grows, IsBestNode, goals_of, GrowsInto, IsSettled, sum_in, Scene, Task, state_of_grown, Grown, best_of, best_sum}
use Rattle.any_time.proofs.BestNodes.{AreNumberedTo-grown, none-best}

-- there still is a sum, and it is no greater
abbrev pub Sinks : Option ℕ → Option ℕ → Type 0
Sinks before after = IfSome before (λ x. IsSomeAnd after (λ y. y ≤ x))

best-grown : (run : Grown) (node : ℕ) → best_of run ≡ Some node → IsBestNode (goals_of run.task.scene) (state_of_grown run) node
best-grown run node best = best_node-some (goals_of run.task.scene) run.limit (state_of_grown run) node (AreNumberedTo-grown run) best

module _ (before after : Grown) (task : after.task ≡ before.task) (grows : GrowsInto (state_of_grown before) (state_of_grown after))
    (settled : IsSettled (state_of_grown before)) (settled_after : IsSettled (state_of_grown after)) where
  best-before : (node : ℕ) → best_of before ≡ Some node → IsBestNode (goals_of after.task.scene) (state_of_grown before) node
  best-before node best =
      subst (λ (s : Scene). IsBestNode (goals_of s) (state_of_grown before) node) (sym (ap (λ (t : Task). t.scene) task)) (best-grown before node best)

  sinks_by : (one other : Option ℕ) → best_of before ≡ one → best_of after ≡ other
      → Sinks (option_map (sum_in (state_of_grown before)) one) (option_map (sum_in (state_of_grown after)) other)
  sinks_by None other e f = tt
  sinks_by (Some m) None e f =
      absurd (none-best after (ap (option_map (sum_in (state_of_grown after))) f) m
      (IsGoalNode-grows (goals_of after.task.scene) (state_of_grown before) (state_of_grown after) grows m (best-before m e).member))
  sinks_by (Some m) (Some n) e f =
      best_sum-grows (goals_of after.task.scene) (state_of_grown before) (state_of_grown after) m n grows settled settled_after
      (best-before m e) (best-grown after n f)

  pub Sinks-grows : Sinks (best_sum before) (best_sum after)
  Sinks-grows = sinks_by (best_of before) (best_of after) refl refl
