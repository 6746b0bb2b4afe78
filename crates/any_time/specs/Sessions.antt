-- What a poll of a session does.
use Rattle.std.specs.Prelude.{◌≡◌, ◌<◌, ◌≤◌, ◌-◌, ℕ, suc, IsTrue, List, length, Bool, Option, Some, option_map, is_some, ◌+◌, min, None, Result, Ok, Err}
use Rattle.std.specs.Prelude.{IsSomeAnd, MatchOption}
use Rattle.any_time.specs.Terms.{Better, Grown, GrowsInto, IsAllowedEdge, IsOfTextbook, IsSettled, Last, Memory, Pending, Point, Poll, Ready, Record}
use Rattle.any_time.specs.Terms.{StandsAt, Task, best_node, goals_of, length_of_path, lies_in_goals, path_point, path_to, setup_of, state_of_grown, sum_in}

-- ---- Paths over the nodes of a run.
-- The path goes from the first point to the last by edges of a kind, over points of a kind.
pub record Leads (Edge : Point → Point → Type 0) (Node : Point → Type 0) (first last : Point) (path : List Point) : Type 0 where
  pub some : 0 < length path
  pub first_is : path_point path 0 ≡ first
  pub last_is : path_point path (length path - 1) ≡ last
  pub edges : (i : ℕ) → suc i < length path → Edge (path_point path i) (path_point path (suc i))
  pub nodes : (i : ℕ) → i < length path → Node (path_point path i)

-- some node of the run with a number up to this one stands at the point
abbrev pub IsOfFirstNodes : Grown → ℕ → Point → Type 0
IsOfFirstNodes run most p = (n : ℕ) × (n ≤ most) × StandsAt (state_of_grown run).points n p

-- The item's path goes from the start into a goal by allowed edges (clear, and no longer than the step), over nodes of the run that the
-- marks handled then have given; its cost is theirs.
pub record LeadsIntoGoal (run : Grown) (item : Better) : Type 0 where
  pub last : Point
  pub goal : IsTrue (lies_in_goals (goals_of run.task.scene) last)
  pub leads : Leads (IsAllowedEdge (setup_of run.task.scene)) (IsOfFirstNodes run item.marks) run.task.scene.start last item.path
  pub cost : item.cost ≡ length_of_path item.path

-- ---- The best path of a run.
-- the best node of a run, if a node lies in a goal
abbrev pub best_of : Grown → Option ℕ
best_of run = best_node (goals_of run.task.scene) run.limit (state_of_grown run)

-- whether there is one
abbrev pub has_path : Grown → Bool
has_path run = is_some (best_of run)

-- its sum
abbrev pub best_sum : Grown → Option ℕ
best_sum run = option_map (sum_in (state_of_grown run)) (best_of run)

-- the item is the path to the best node, with its sum, after the marks that the run has handled
pub record Shows (run : Grown) (item : Better) : Type 0 where
  pub node : ℕ
  pub best : best_of run ≡ Some node
  pub path : item.path ≡ path_to (state_of_grown run) node
  pub cost : item.cost ≡ sum_in (state_of_grown run) node
  pub marks : item.marks ≡ run.limit

-- ---- sessions
-- A session by its run, which is gone after an item `Memory`, the workers that grow it, the marks that a poll handles, and what it keeps of its last item.
pub record SessionState : Type 0 where
  pub run : Option Grown
  pub workers : ℕ
  pub slice : ℕ
  pub last : Option Last

-- the best sum is below that of the last item, or there is a path and no item yet
abbrev pub IsBetter : Option ℕ → Option Last → Type 0
IsBetter None last = ⊥
IsBetter (Some cost) None = Unit {0}
IsBetter (Some cost) (Some last) = cost < last.cost

-- a run that has handled marks was looked at then, and has no better path any more
abbrev pub HasShown : Grown → Option Last → Type 0
HasShown run last = 0 < run.limit → ¬ IsBetter (best_sum run) last

-- The next marks were handled, so many or the rest, and at least one, by workers numbered from 0; the run is settled. By one worker they
-- were handled as the textbook does.
pub record Handles (workers slice : ℕ) (before after : Grown) : Type 0 where
  pub task : after.task ≡ before.task
  pub some : before.limit < after.limit
  pub limit : after.limit ≡ min (before.limit + slice) (length before.task.marks)
  pub grows : GrowsInto (state_of_grown before) (state_of_grown after)
  pub settled : IsSettled (state_of_grown after)
  pub by_workers : (k : ℕ) (entry : Record) → (state_of_grown after).record_of k ≡ Some entry → before.limit ≤ k → entry.worker < workers
  pub textbook : workers ≡ 1 → IsOfTextbook before → IsOfTextbook after

-- all marks are handled and no better path is left, or an item `Memory` was given
abbrev pub IsOver : SessionState → Type 0
IsOver s = MatchOption s.run (Unit {0}) (λ run. (run.limit ≡ length run.task.marks) × ¬ IsBetter (best_sum run) s.last)

-- the run is as it was, if that is better than the last item, and else what came of the next marks
pub record Moves (s : SessionState) (before after : Grown) : Type 0 where
  pub now : IsBetter (best_sum before) s.last → after ≡ before
  pub later : ¬ IsBetter (best_sum before) s.last → Handles s.workers s.slice before after

-- A look at the run gave this answer, and left the run and what is kept of the last item.
abbrev pub Looks : Grown → Option Last → Poll (Option (Result Better Memory)) → Option Grown → Option Last → Type 0
Looks run last Pending left kept = ¬ IsBetter (best_sum run) last × (left ≡ Some run) × (kept ≡ last)
Looks run last (Ready None) left kept = ⊥
Looks run last (Ready (Some (Ok item))) left kept = IsBetter (best_sum run) last × Shows run item
    × (left ≡ Some run) × (kept ≡ Some (record { cost = item.cost; marks = item.marks }))
Looks run last (Ready (Some (Err e))) left kept = IsBetter (best_sum run) last × (left ≡ None) × (kept ≡ last)

-- the workers and the slice are as they were
pub record KeepsOrders (s t : SessionState) : Type 0 where
  pub workers : t.workers ≡ s.workers
  pub slice : t.slice ≡ s.slice

-- a run of the task that has handled nothing: the start alone, settled
abbrev pub IsNew : Task → Grown → Type 0
IsNew task run = (run.task ≡ task) × (run.limit ≡ 0) × IsSettled (state_of_grown run) × IsOfTextbook run

-- a session of a task that has handled nothing and given nothing
pub record IsFresh (task : Task) (workers slice : ℕ) (s : SessionState) : Type 0 where
  pub workers_are : s.workers ≡ workers
  pub slice_is : s.slice ≡ slice
  pub nothing : s.last ≡ None
  pub run : IsSomeAnd s.run (IsNew task)

-- a poll of s gave this answer and left t
abbrev pub Polls : SessionState → Poll (Option (Result Better Memory)) → SessionState → Type 0
Polls s Pending t = KeepsOrders s t × (t.last ≡ s.last) × IsSomeAnd s.run (λ before. IsSomeAnd t.run (λ after.
    ¬ IsBetter (best_sum before) s.last × Handles s.workers s.slice before after × ¬ IsBetter (best_sum after) s.last))
Polls s (Ready None) t = IsOver s × (t ≡ s)
Polls s (Ready (Some (Ok item))) t = KeepsOrders s t × (t.last ≡ Some (record { cost = item.cost; marks = item.marks }))
    × IsSomeAnd s.run (λ before. IsSomeAnd t.run (λ after. Moves s before after × IsBetter (best_sum after) s.last × Shows after item))
Polls s (Ready (Some (Err e))) t = KeepsOrders s t × (t.last ≡ s.last) × (t.run ≡ None) × ¬ IsOver s
