-- How the world goes on while a call of a pass is under way, and what was so at some moment of that time.
use Rattle.std.specs.Prelude.{◌≡◌, ◌≢◌, ℕ, suc, ◌+◌, ◌^◌, ◌<◌, ◌≤◌, ◌⊎◌, true, false, Some, None, length, Bool, List, slice_set}
use Rattle.step_core.specs.Terms.{Apart, AreBehind, AreDistinct, ChildOf, Count, Counter, FollowSeenWays, Hand, IsFree, IsPresent, KeepsOrder, Member, Point}
use Rattle.step_core.specs.Terms.{Record, SharedRun, StandsAt, TreeOf, TreeState, View, Word, Words, best_node_in, cost_in, get_elem?, kind_of, no_best}
use Rattle.step_core.specs.Terms.{parent_in, quota_of, record_at, some, turns_of}
use Rattle.step_core.specs.Notes.{last_seen, FillsNoPlace, IsLoaded, KnowsAsBefore, NotesAsSeen}
use Rattle.step_core.specs.SeenBests.{IsAtMostPlaced}
use Rattle.step_core.specs.Stages.{state_of_links, has_first, has_link, linked_points}
use Rattle.step_core.specs.ViewTrees.{IsSeenPair, SeesNode, SeesPoint, SeesTree}
use Rattle.step_core.specs.Views.{IsSharedRun, IsViewOf, last_look, last_zero, run_sizes, sees, setup_in, share, took_over, tree_seen}
use Rattle.step_core.specs.Worlds.{IsWorld}

-- ---- What steps of a pass leave of what it knew, and what the law of worlds says of one view.
-- A view after some more of its own steps. What was seen of a word may become what is seen, and the best word seen is no greater. The last
-- look at a word is as before, or a later step. The last step that found it 0 is as before, or a later one, and then nothing had been seen of it before.
pub record IsLater (before after : View) : Type 0 where
  pub run : after.run ≡ before.run
  pub seen : AreBehind (sees before) (sees after)
  pub best : after.best ≤ before.best
  pub steps : before.steps ≤ after.steps
  pub looked : (name : Word) → (last_look after name ≡ last_look before name) ⊎ (before.steps < last_look after name)
  pub zero_found : (name : Word) → kind_of name ≢ Apart
      → (last_zero after name ≡ last_zero before name) ⊎ ((before.steps < last_zero after name) × (sees before name ≡ 0))

-- What it sees otherwise than before, the best word too, it has looked at since.
abbrev pub HasLooked : View → View → Type 0
HasLooked before after = (name : Word) → (last_seen after name ≡ last_seen before name) ⊎ (before.steps < last_look after name)

-- What the law says of one view alone.
pub record IsLawfulView (view : View) : Type 0 where
  -- the numbers of its run are within their limits
  pub run : IsSharedRun view.run
  -- its tables have a place for each word, and its looks are by steps that it has made
  pub of_run : IsViewOf view.run view
  -- its greatest limit is at most the number of marks
  pub most : view.most ≤ length view.run.marks
  -- its share is at most that of all workers
  pub crew : share view ≤ view.run.workers
  -- without a share nothing is in hand
  pub idle : share view ≡ 0 → view.hand ≡ None
  -- the mark in hand is one of the marks
  pub mark : (hand : Hand) → view.hand ≡ Some hand → hand.mark < length view.run.marks
  -- its workers are those of the run
  pub worker : (i : ℕ) (member : Member) → get_elem? view.crew i ≡ some member → member.worker < view.run.workers
  -- while a mark is in hand, the next turn of a worker is below the number of marks
  pub turn : (hand : Hand) (i : ℕ) (member : Member) → view.hand ≡ Some hand → get_elem? view.crew i ≡ some member → member.turn < length view.run.marks
  -- the next turn of a worker is the number of its records that were seen
  pub own_turn : (i : ℕ) (member : Member) → get_elem? view.crew i ≡ some member
      → member.turn ≡ turns_of (record_at (sees view)) (length view.run.marks) member.worker
  -- it has seen at least what the pass had that it last took over
  pub took : AreBehind (took_over view) (sees view)
  -- it sees its tree from node 0 on,
  pub tree : SeesTree view
  -- each node where its way leads,
  pub ways : FollowSeenWays (tree_seen view)
  -- no two at one point,
  pub distinct : AreDistinct (tree_seen view).points
  -- none past the number of marks,
  pub within : (n : ℕ) → SeesNode view n → n ≤ length view.run.marks
  -- and not the node in hand before that is linked
  pub unseen : (hand : Hand) → view.hand ≡ Some hand → has_link hand.stage ≡ false → ¬ SeesNode view (suc hand.mark)
  -- the start is seen where it is
  pub start : SeesPoint view 0 view.run.start
  -- the parent and the cost in hand fit a word
  pub pair_fits : (hand : Hand) → view.hand ≡ Some hand → has_first hand.stage ≡ true → (hand.parent < 2 ^ 18) × (hand.cost < 2 ^ 44)
  -- the parents and the costs that were seen are those of a tree within the limits
  pub pairs : (n : ℕ) → 2 ^ 63 ≤ sees view (TreeOf n) → IsSeenPair view n
  -- the count seen is within its limit, and so is each counter
  pub count : sees view Count ≤ length view.run.marks + 1
  pub counter : (g : ℕ) → g < view.run.strips → sees view (Counter g) ≤ length view.run.marks
  -- the best word seen is at most the pair of each goal node that was seen recorded,
  pub best : IsAtMostPlaced view view.best
  -- its node is none past the number of marks,
  pub best_node : view.best ≢ no_best → best_node_in view.best ≤ length view.run.marks
  -- and so is the one that the hand has taken, which is no less
  pub taken : (hand : Hand) (word : ℕ) → view.hand ≡ Some hand → hand.best ≡ Some word → (view.best ≤ word) × IsAtMostPlaced view word
  -- with the share of all workers, the tree in the words seen keeps the order law
  pub order : share view ≡ view.run.workers → KeepsOrder (setup_in view.run) (state_of_links (run_sizes view.run) (sees view))

-- ---- What a view has seen, in the run that the words have come to.
-- node n has the parent and the cost in this word, or costs less
abbrev pub HasOrFell : TreeState → ℕ → ℕ → Type 0
HasOrFell state n word = ((state.cost n ≡ cost_in word) × (state.parent n ≡ parent_in word)) ⊎ (state.cost n < cost_in word)

-- The nodes that the view has seen stand where it saw them, with the parent and the cost that it saw, or they cost less. The records stand.
-- No counter that it has seen is above its strip's quota below its greatest limit.
pub record StandsAsSeen (view : View) (state : TreeState) : Type 0 where
  pub nodes : (n : ℕ) → SeesNode view n → IsPresent state.points n
  pub points : (n : ℕ) (p : Point) → SeesPoint view n p → StandsAt state.points n p
  pub trees : (n : ℕ) → 2 ^ 63 ≤ sees view (TreeOf n) → HasOrFell state n (sees view (TreeOf n))
  pub records : (k : ℕ) (entry : Record) → record_at (sees view) k ≡ Some entry → state.record_of k ≡ Some entry
  pub counters : (g : ℕ) → g < view.run.strips → sees view (Counter g) ≤ quota_of view.run.strips g view.most

-- ---- histories
-- The world has come so far, by steps of the view at index id and of others. The law holds between any two.
--
-- A step of the view itself leaves a later view, and notes no place of a child; of what it says to have found empty nothing is asked. Of a word
-- it says that it has looked at it, where it knows anything anew, and notes nothing else of it; whether it was so is not asked. By any other step,
-- one of another view, a split, or a link by its exchange, the view finds no place empty anew that is filled, and what it knows anew is so.
pub data HasCome (run : SharedRun) (id : ℕ) (words : Words) (views : List View) : Words → List View → Type 0 where
  begins : HasCome run id words views words views
  steps : (now after : Words) (here next : List View) (view then : View) → HasCome run id words views now here → get_elem? here id ≡ some view
      → view.run ≡ run → next ≡ slice_set here id then → IsWorld run after next → AreBehind now after → IsLater view then → FillsNoPlace view then
      → ((name : Word) → IsLoaded run name → KnowsAsBefore view then name ⊎ ((view.steps < last_look then name) × NotesAsSeen view then name))
      → HasCome run id words views after next
  goes_on : (now after : Words) (here next : List View) (view then : View) → HasCome run id words views now here → get_elem? here id ≡ some view
      → get_elem? next id ≡ some then → IsWorld run after next → AreBehind now after
      → ((n : ℕ) (side : Bool) → now (ChildOf n side) ≢ 0 → last_zero then (ChildOf n side) ≡ last_zero view (ChildOf n side))
      → ((name : Word) → IsLoaded run name → KnowsAsBefore view then name ⊎ (last_seen then name ≡ after name))
      → HasCome run id words views after next

-- at some moment from the first words to the last a word was this
pub record WasSo (run : SharedRun) (first last : Words) (name : Word) (word : ℕ) : Type 0 where
  pub words : Words
  pub views : List View
  pub world : IsWorld run words views
  pub since : AreBehind first words
  pub until : AreBehind words last
  pub so : words name ≡ word

-- and no node stood at a point
pub record WasFree (run : SharedRun) (first last : Words) (q : Point) : Type 0 where
  pub words : Words
  pub views : List View
  pub world : IsWorld run words views
  pub since : AreBehind first words
  pub until : AreBehind words last
  pub free : IsFree (linked_points (run_sizes run) words) q
