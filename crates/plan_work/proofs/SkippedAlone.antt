-- A pass that works alone loads the best word: it is the best goal node of the textbook tree that it sees, and by it marks are skipped or not.
use Rattle.plan_work.proofs.Words.{◌≢◌, ℕ, ◌<◌, ◌≤◌, ◌^◌, arith, sym, ap, subst, IsTrue, mark_at, IsBestGoalNode, MayBeCheaper, Nodes, mark_bound, IsGoalNode}
use Rattle.plan_work.proofs.Words.{is_goal_point, points_of, sum_of, IsPresent, point_at, IsPresent-goal, PointOf, TreeOf, best_cost_in}
use Rattle.plan_work.proofs.Words.{best_node_in, best_word, cost_in, no_best, SeesGoal-kept, FindsGoalNode, HasPostedGoals, IsNotSkippedIn, SeesButCount}
use Rattle.plan_work.proofs.Words.{IsLater, IsLawfulView, SeesGoal, setup_in, tree_seen, SharedRun, View, Mirrors, cost_seen}

-- while no point, parent or cost is seen anew, a mark is not skipped still
pub IsNotSkippedIn-kept : (before after : View) (k : ℕ) → IsLater before after → SeesButCount before after → IsNotSkippedIn before k → IsNotSkippedIn after k
IsNotSkippedIn-kept before after k later same cheaper n goal =
    omega (
      arith,
      cheaper n (SeesGoal-kept before after n later (same (PointOf n) (λ e. cc)) goal),
      ap cost_in (same (TreeOf n) (λ e. cc)),
      ap (λ (r : SharedRun). mark_bound (setup_in r) (mark_at r.marks k)) later.run,
    )

module _ (view : View) (tree : Nodes) (mirrors : Mirrors view tree) where
  -- what is seen of a goal node is so in the tree
  seen_goal : (n : ℕ) → IsGoalNode view.run.goals (points_of tree) n → SeesGoal view n
  seen_goal n goal = subst (λ o. IsTrue (is_goal_point view.run.goals o)) (sym (mirrors.points n)) goal

  tree_goal : (n : ℕ) → SeesGoal view n → IsGoalNode view.run.goals (points_of tree) n
  tree_goal n goal = subst (λ o. IsTrue (is_goal_point view.run.goals o)) (mirrors.points n) goal

  here : (n : ℕ) → IsGoalNode view.run.goals (points_of tree) n → IsPresent (points_of tree) n
  here n goal = IsPresent-goal view.run.goals (point_at (points_of tree) n) goal

  pub MayBeCheaper-mirrored : (k : ℕ) → IsNotSkippedIn view k → MayBeCheaper (setup_in view.run) (sum_of tree) (points_of tree) (mark_at view.run.marks k)
  MayBeCheaper-mirrored k cheaper n goal = omega (arith, cheaper n (seen_goal n goal), mirrors.costs n (here n goal))

  module _ (lawful : IsLawfulView view) (posted : HasPostedGoals view) where
    -- a goal node has a pair that is no less than the best word, and that fits one
    low_pair : (n : ℕ) → IsGoalNode view.run.goals (points_of tree) n
        → (view.best ≤ best_word (cost_seen view n) n) × (cost_seen view n < 2 ^ 42) × (n < 2 ^ 18)
    low_pair n goal =
        let written = mirrors.written n (here n goal) in
        let present = IsPresent-goal view.run.goals (point_at (tree_seen view).points n) (seen_goal n goal) in
        let within = lawful.within n (lawful.tree.rooted.points n present) in (
          posted n (seen_goal n goal) written,
          (lawful.pairs n written).low,
          omega (arith, within, lawful.run.marks),
        )

    -- the best word is none, or its cost is above the bound: then no goal node costs as little
    pub IsNotSkippedIn-best : (k : ℕ)
        → (view.best ≢ no_best → mark_bound (setup_in view.run) (mark_at view.run.marks k) < best_cost_in view.best) → IsNotSkippedIn view k
    IsNotSkippedIn-best k above n goal =
        let low = low_pair n (tree_goal n goal) in
        let some : view.best ≢ no_best = λ none. omega (arith, low.0, low.1, low.2, none) in
        omega (arith, above some, low.0, low.2)

    -- a goal node that was found there is the best of the tree
    module _ (found : FindsGoalNode view (best_node_in view.best, best_cost_in view.best)) where
      pub IsBestGoalNode-found : IsBestGoalNode (setup_in view.run) tree (best_node_in view.best)
      IsBestGoalNode-found = record {
        member = tree_goal (best_node_in view.best) found.goal;
        not_above = λ n goal.
            let low = low_pair n goal in
            let cost = mirrors.costs n (here n goal) in
            let own = mirrors.costs (best_node_in view.best) (here (best_node_in view.best) (tree_goal (best_node_in view.best) found.goal)) in
            record {
              least = omega (arith, low.0, low.2, cost, own, found.paid);
              first = λ same. omega (arith, low.0, low.2, cost, own, found.paid, same);
            };
      }

      pub within-found : (bound : ℕ) → best_cost_in view.best ≤ bound → sum_of tree (best_node_in view.best) ≤ bound
      within-found bound low =
          omega (arith, low, found.paid, mirrors.costs (best_node_in view.best) (here (best_node_in view.best) (tree_goal (best_node_in view.best) found.goal)))
