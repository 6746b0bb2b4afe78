-- What a view knows of the best word: the least pair of a cost and a goal node that the run began with or a pass has posted.
use Rattle.std.specs.Prelude.{◌≡◌, ◌≢◌, ℕ, zero, suc, ◌^◌, ◌<◌, ◌≤◌, true, Some, []}
use Rattle.step_core.specs.Terms.{Claimed, FirstOf, Hand, IsGoalNode, SharedRun, TreeOf, View, best_cost_in, best_node_in, best_word, cost_in, has_node}
use Rattle.step_core.specs.Terms.{mark_at, mark_bound, no_best}
use Rattle.step_core.specs.Views.{sees, setup_in, share, tree_seen}

-- marks may be skipped: there are goals by which they are
abbrev pub IsInformed : SharedRun → Type 0
IsInformed run = run.goals ≢ []

-- node n is seen, and lies in such a goal
abbrev pub SeesGoal : View → ℕ → Type 0
SeesGoal view n = IsGoalNode view.run.goals (tree_seen view).points n

-- what a node was placed at, by the first word that was seen
abbrev pub seen_first_cost : View → ℕ → ℕ
seen_first_cost view zero = 0
seen_first_cost view (suc k) = cost_in (sees view (FirstOf (suc k)))

-- The word is at most the pair of first cost and number of each goal node that is the start, or that the view has seen recorded as placed.
abbrev pub IsAtMostPlaced : View → ℕ → Type 0
IsAtMostPlaced view word = (n : ℕ) → has_node (sees view) n ≡ true → SeesGoal view n → word ≤ best_word (seen_first_cost view n) n

-- Marks are not skipped, or the best was loaded for the mark in hand, and the bound of the mark is below its cost: a path over the mark may be
-- cheaper.
abbrev pub IsUnskipped : View → Hand → Type 0
IsUnskipped view hand = IsInformed view.run → (word : ℕ) × (hand.best ≡ Some word)
    × (word ≢ no_best → mark_bound (setup_in view.run) (mark_at view.run.marks hand.mark) < best_cost_in word)

-- Nothing is written for the mark in hand, and the best that was loaded for it is this goal node, at a cost of at most the bound of the mark.
pub record MayBeSkipped (view : View) (hand : Hand) (g : ℕ) : Type 0 where
  pub claimed : hand.stage ≡ Claimed
  pub word : ℕ
  pub taken : hand.best ≡ Some word
  pub some_node : word ≢ no_best
  pub node : g ≡ best_node_in word
  pub within : best_cost_in word ≤ mark_bound (setup_in view.run) (mark_at view.run.marks hand.mark)

-- A view may post a goal node whose cost it has seen, if it has a share.
pub record MayPost (view : View) (n : ℕ) : Type 0 where
  pub part : 0 < share view
  pub goal : SeesGoal view n
  pub written : 2 ^ 63 ≤ sees view (TreeOf n)
