-- One worker that works alone: what it sees is the textbook run over the marks that it has handled.
use Rattle.std.specs.Prelude.{◌≡◌, ◌≢◌, ℕ, suc, ◌∷◌, Some, List, ◌≤◌, nat_lt, [], slice_get, take}
use Rattle.plan_work.specs.Terms.{AreOf, ConfigurationSpace, Count, FirstOf, Found, Grown, Hand, Hanging, HasPostedGoals, HasWholeShare, IsBestParentSeen}
use Rattle.plan_work.specs.Terms.{IsOfTextbookRun, IsTextbookRun, Linked, MayBeCheaper, Mirrors, Nodes, Placed, Placing, Point, PointOf, Record, Same}
use Rattle.plan_work.specs.Terms.{SteersTo, TreeOf, View, Word, class_of, cost_seen, counters, is_claimed, mark_at, near_new, node_count, record_at, sees}
use Rattle.plan_work.specs.Terms.{setup_in, setup_of, state_of_grown, tree_seen}

-- ---- What the steps of one mark leave of a pass with the share of all workers: it is shown nothing new but the count of nodes.
-- no node in hand is linked and not counted yet
abbrev pub HasCounted : View → Type 0
HasCounted view = (hand : Hand) → view.hand ≡ Some hand → hand.stage ≢ Linked

-- every word but the count is seen as before
abbrev pub SeesButCount : View → View → Type 0
SeesButCount before after = (name : Word) → name ≢ Count → sees after name ≡ sees before name

-- The class is that of the number of nodes seen, and the nodes found are those near a new one at p in the textbook, in the tree seen.
pub record IsFilledWhole (view : View) (p : Point) (class : ℕ) (found : List Found) : Type 0 where
  pub class_is : class ≡ class_of (node_count (tree_seen view).points)
  pub found_is : AreOf found (near_new (setup_in view.run) (tree_seen view).points p)

-- node m is the nearest one seen to mark k, and steers towards it to p
abbrev pub IsSteeredWhole : View → ℕ → ℕ → Point → Type 0
IsSteeredWhole view k m p = SteersTo (setup_in view.run) (tree_seen view).points (mark_at view.run.marks k) m p

-- the point, the tree word and the first word of node n are seen as before
pub record KeepsNode (before after : View) (n : ℕ) : Type 0 where
  pub point : sees after (PointOf n) ≡ sees before (PointOf n)
  pub tree : sees after (TreeOf n) ≡ sees before (TreeOf n)
  pub first : sees after (FirstOf n) ≡ sees before (FirstOf n)

-- where the node of mark k is placed, all other nodes are kept, and else all
abbrev pub KeepsOthers : View → View → ℕ → Placing → Type 0
KeepsOthers before after k Placed = (n : ℕ) → n ≢ suc k → KeepsNode before after n
KeepsOthers before after k (Same j) = (n : ℕ) → KeepsNode before after n

-- A node was hung by its best parent, and came to this place.
pub record IsTriedWhole (space : ConfigurationSpace) (before after : View) (k : ℕ) (p : Point) (nearest : ℕ) (near : List ℕ) (placing : Placing)
    (hanging : Hanging) : Type 0 where
  pub best : IsBestParentSeen space before p (nearest ∷ near) hanging.parent
  pub others : KeepsOthers before after k placing

-- ---- one worker
-- The pass has the share of all workers, as worker 0, whose next turn is k.
pub record WorksAlone (view : View) (k : ℕ) : Type 0 where
  pub whole : HasWholeShare view
  pub crew : view.crew ≡ record { worker = 0; turn = k } ∷ []

-- Mark k is not skipped by the goal nodes that are seen: a path over it may be cheaper than each, by what it was seen to cost.
abbrev pub IsNotSkippedIn : View → ℕ → Type 0
IsNotSkippedIn view k = MayBeCheaper (setup_in view.run) (cost_seen view) (tree_seen view).points (mark_at view.run.marks k)

-- It sees the tree and the records of the textbook run over the first k marks, and no goal node has a lesser pair of sum and number than the best
-- word seen. Since that is no less than the pair of some goal node, it is the pair of the best, if there is one.
pub record SeesTextbook (view : View) (k : ℕ) : Type 0 where
  pub tree : Nodes
  pub records : List Record
  pub run : IsTextbookRun (setup_in view.run) (take k view.run.marks) tree records
  pub nodes : Mirrors view tree
  pub recorded : (j : ℕ) → record_at (sees view) j ≡ slice_get records j
  pub best : HasPostedGoals view

-- By the counters seen, the first k marks are claimed, and no others.
abbrev pub HasClaimed : View → ℕ → Type 0
HasClaimed view k = (j : ℕ) → is_claimed view.run.strips (counters (sees view)) j ≡ nat_lt j k

-- The one worker has claimed the first k marks alone, and handled them as the textbook does.
pub record HasHandled (view : View) (k : ℕ) : Type 0 where
  pub alone : WorksAlone view k
  pub textbook : SeesTextbook view k
  pub claimed : HasClaimed view k

-- If it had done so with some of the marks below a limit, it has done so with all of them.
abbrev pub HandlesRest : View → View → ℕ → Type 0
HandlesRest before after limit = (k : ℕ) → k ≤ limit → HasHandled before k → HasHandled after limit

-- The run is that of the textbook over the marks below its limit.
abbrev pub IsOfTextbook : Grown → Type 0
IsOfTextbook grown = IsOfTextbookRun (setup_of grown.task.scene) (take grown.limit grown.task.marks) (state_of_grown grown)
