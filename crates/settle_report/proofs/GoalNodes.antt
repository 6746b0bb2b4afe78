-- The best of the nodes from some number on, one number after another; and that the best node is present.
use Rattle.settle_report.proofs.Words.{◌≡◌, ℕ, suc, ◌+◌, true, false, List, filter, Option, Some, None, IfSome, refl, sym, range_with_len, Goal, best_node}
use Rattle.settle_report.proofs.Words.{is_goal_point, first_least, lesser, IsPresent, point_at, TreeState, sum_in, IsPresent-goal, first_least-some}

module _ (goals : List Goal) (state : TreeState) where
  -- the best of so many nodes from number k on
  abbrev pub best_of : ℕ → ℕ → Option ℕ
  best_of k count = first_least (sum_in state) (filter (λ n. is_goal_point goals (point_at state.points n)) (range_with_len k count))

  -- a goal node is compared with the best after it
  pub best_of-goal_node : (k next count rest : ℕ) → next ≡ k + 1 → count ≡ suc rest → is_goal_point goals (point_at state.points k) ≡ true
      → best_of k count ≡ Some (lesser (sum_in state) k (best_of next rest))
  best_of-goal_node k next count rest after one_more h = rw (after, one_more, h) refl

  -- any other number is passed over
  pub best_of-other : (k next count rest : ℕ) → next ≡ k + 1 → count ≡ suc rest → is_goal_point goals (point_at state.points k) ≡ false
      → best_of k count ≡ best_of next rest
  best_of-other k next count rest after one_more h = rw (after, one_more, h) refl

  -- the best of all numbers is the best node
  pub best_of-all : (limit k count : ℕ) → k ≡ 0 → count ≡ suc limit → best_of k count ≡ best_node goals limit state
  best_of-all limit k count first all = rw (first, all) refl

  -- the best node is present
  pub IsPresent-best : (limit : ℕ) (best : Option ℕ) → best ≡ best_node goals limit state → IfSome best (IsPresent state.points)
  IsPresent-best limit None is = tt
  IsPresent-best limit (Some n) is =
      IsPresent-goal goals (point_at state.points n)
      (first_least-some (sum_in state) (λ i. is_goal_point goals (point_at state.points i)) (suc limit) n (sym is)).member.1
