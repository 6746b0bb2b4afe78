-- What contracts see of a shared tree and of a pass, and what a table of words keeps.
use Rattle.std.specs.Prelude.{◌≡◌, ℕ, ◌+◌, ◌<◌, ◌≤◌, Option, Some, None, List, [], ◌∷◌, length, slice_index}
use Rattle.plan_words.specs.Terms.{Best, Grown, Hand, IsLater, IsLawfulView, IsLeastBest, IsSharedRun, IsWorld, Member, SharedRun, TableId, Task, TreeOf}
use Rattle.plan_words.specs.Terms.{View, WordPlaces, Words, member_of, newcomer, run_of, run_sizes, sees, share, sizes_in, skipping_goals, state_of_grown}
use Rattle.plan_words.specs.Terms.{word_count, words_of_grown, words_of_run}
use Rattle.plan_words.specs.declared.openings.Opening.{Opening}
use Rattle.plan_words.specs.SearchLists.{SearchLists, no_search}

-- ---- a shared tree and its passes
-- A shared tree: its table, the task that is planned, how many workers there are, and the limit of the run that they go on from.
pub record SharedState : Type 0 where
  pub table : TableId
  pub task : Task
  pub workers : ℕ
  pub opening : ℕ

abbrev pub run_in : SharedState → SharedRun
run_in shared = run_of shared.task shared.workers shared.opening

-- The scratch lists of a pass: the near list, the second list, the nodes that wait to be looked at, and those of its search.
pub record Lists : Type 0 where
  pub near : List ℕ
  pub around : List ℕ
  pub waiting : List ℕ
  pub search : SearchLists

abbrev pub no_lists : Lists
no_lists = record { near = []; around = []; waiting = []; search = no_search }

-- A pass: its table and its view, and its scratch lists, which no step of the pass changes.
pub record PassState : Type 0 where
  pub table : TableId
  pub view : View
  pub lists : Lists

-- one whose lists are empty
abbrev pub new_pass : TableId → View → PassState
new_pass table view = record { table = table; view = view; lists = no_lists }

-- The pass was made or split from this very tree. What the law says of a view holds of that of each such pass.
pub record BelongsTo (pass : PassState) (shared : SharedState) : Type 0 where
  pub table : pass.table ≡ shared.table
  pub run : pass.view.run ≡ run_in shared
  pub lawful : IsLawfulView pass.view

-- a pass of the tree that may claim a mark: it has a share, and nothing in hand
pub record MayClaim (shared : SharedState) (pass : PassState) : Type 0 where
  pub belongs : BelongsTo pass shared
  pub part : 0 < share pass.view
  pub idle : pass.view.hand ≡ None

-- a pass with the share of all workers: it has seen every word that tells of the run as it is
abbrev pub HasWholeShare : View → Type 0
HasWholeShare view = share view ≡ view.run.workers

-- the pass, whose view is another now
abbrev pub with_view : PassState → View → PassState
with_view pass view = record pass { view = view }

-- the pass, whose lists are others now
abbrev pub with_lists : PassState → Lists → PassState
with_lists pass lists = record pass { lists = lists }

-- the tree word of each node, as it was seen last
abbrev pub tree_words : View → ℕ → ℕ
tree_words view n = sees view (TreeOf n)

-- Steps of a pass lead from the one view to the other: what the law says of a view holds of both, and the second is a later one.
pub record GoesOn (before after : View) : Type 0 where
  pub was_lawful : IsLawfulView before
  pub later : IsLater before after
  pub lawful : IsLawfulView after

-- ---- what a table keeps
abbrev pub run_of_opening : Opening → SharedRun
run_of_opening opening = run_of opening.grown.task opening.workers opening.grown.limit

abbrev pub first_view : Opening → View
first_view opening = newcomer (run_of_opening opening) opening.grown.words.list.items

-- the law of worlds holds of the words in the table
pub record HoldsWorld (run : SharedRun) (items : List ℕ) (views : List View) : Type 0 where
  pub sized : length items ≡ word_count (run_sizes run)
  pub world : IsWorld run (words_of_run run items) views

-- the table is of this run
pub record IsTableOf (table : TableId) (key : Opening) (run : SharedRun) (places : WordPlaces) : Type 0 where
  pub key_is : run_of_opening key ≡ run
  pub words : table.words ≡ word_count (run_sizes run)
  pub slots : table.slots ≡ 0
  pub places_are : sizes_in places ≡ run_sizes run
  pub run_is : IsSharedRun run

-- ---- what a pass keeps
-- the worker that a pass works as, if it has a share
abbrev pub first_member : List Member → Option Member
first_member [] = None
first_member (member ∷ crew) = Some member

-- the number of that worker, and its next turn
abbrev pub worker_of : List Member → ℕ
worker_of [] = 0
worker_of (member ∷ crew) = member.worker

abbrev pub turn_of : List Member → ℕ
turn_of [] = 0
turn_of (member ∷ crew) = member.turn

-- the worker after its turn
abbrev pub turned : Option Member → Option Member
turned None = None
turned (Some member) = Some (record member { turn = member.turn + 1 })

-- what the pass keeps is what its view says, and the view is lawful
pub record IsTied (view : View) (member : Option Member) (hand : Option Hand) : Type 0 where
  pub member_is : member ≡ first_member view.crew
  pub hand_is : hand ≡ view.hand
  pub lawful : IsLawfulView view

-- the list has the tree word of each node, as the view has seen it
pub record HasPairs (view : View) (pairs : List ℕ) : Type 0 where
  pub for_each : length pairs ≡ length view.run.marks + 1
  pub seen : (n : ℕ) → n ≤ length view.run.marks → slice_index pairs n ≡ sees view (TreeOf n)

-- the same of a list of the words of the first nodes: no other is seen with a parent
pub record HasFirstPairs (view : View) (pairs : List ℕ) : Type 0 where
  pub within : length pairs ≤ length view.run.marks + 1
  pub seen : (n : ℕ) → n ≤ length view.run.marks → slice_index pairs n ≡ sees view (TreeOf n)

-- each list of found nodes may hold as many as the run may have nodes, that of spots one more, and each node may wait
pub record HasRoom (run : SharedRun) (for_spots for_near for_around for_waiting : ℕ) : Type 0 where
  pub spots : length run.marks + 1 < for_spots
  pub near : length run.marks + 1 ≤ for_near
  pub around : length run.marks + 1 ≤ for_around
  pub waiting : length run.marks + 1 ≡ for_waiting

-- ---- the start
-- words of which the best is left out: it is no part of a run at rest
abbrev pub without_best : Words → Words
without_best words Best = 0
without_best words name = words name

-- The pass of worker w begins with its worker's turns, has seen all words, of the best the least pair of the run's goal nodes, and its lists are empty.
pub record StartsAs (shared : SharedState) (grown : Grown) (w : ℕ) (pass : PassState) : Type 0 where
  pub belongs : BelongsTo pass shared
  pub crew : pass.view.crew ≡ member_of (run_in shared) (words_of_grown grown) w ∷ []
  pub most : pass.view.most ≡ grown.limit
  pub hand : pass.view.hand ≡ None
  pub seen : without_best (sees pass.view) ≡ without_best (words_of_grown grown)
  pub best : IsLeastBest (skipping_goals grown.task.scene) (state_of_grown grown) pass.view.best
  pub lists : pass ≡ new_pass pass.table pass.view
