-- What the handling of one mark leaves, by what the pass has seen.
use Rattle.std.specs.Prelude.{◌≡◌, ◌≢◌, ℕ, suc, ◌+◌, ◌*◌, ◌<◌, ◌≤◌, true, Some, IsSome, IfSome}
use Rattle.plan_work.specs.Terms.{BelongsTo, Claimed, Clear, Count, Counter, Ending, FirstHanging, GoesOn, HasSpreadFalls, IsFree, IsInformed, IsLoadedSince}
use Rattle.plan_work.specs.Terms.{IsNotAbove, IsPresent, IsSwept, MayClaim, NewNode, NoWay, PassState, Point, Reached, Record, RecordOf, SameNode}
use Rattle.plan_work.specs.Terms.{SeesBestSince, SeesPair, SeesPoint, SharedState, SkippedBy, Steered, SweepsWithin, TreeOf, View, best_cost_in, best_loaded}
use Rattle.plan_work.specs.Terms.{best_node_in, best_word, class_of, cost_of, cost_seen, distance_to, ending_of, finished, last_look, lies_in_goals, mark_at}
use Rattle.plan_work.specs.Terms.{mark_bound, no_best, one_turn_more, point_of, radius_of_class, record_at, record_word, sees, setup_in, sight_in}
use Rattle.plan_work.specs.Terms.{squared_distance, steered, tree_seen, tree_word, turn_of, worker_of}
use Rattle.plan_work.specs.OneWorker.{SeesTextbook, WorksAlone}

-- Mark k is in hand, and nothing is written of it.
pub record MayExtend (shared : SharedState) (pass : PassState) (k : ℕ) : Type 0 where
  pub belongs : BelongsTo pass shared
  pub hand : IsSome pass.view.hand
  pub mark : IfSome pass.view.hand (λ hand. hand.mark ≡ k)
  pub claimed : IfSome pass.view.hand (λ hand. hand.stage ≡ Claimed)

-- The record of mark k stands there, by the worker in its turn; no other and no counter is seen anew, the best word only by a look, and nothing is
-- in hand. The worker has had one turn more, and the limit stays.
pub record HandlesMark (shared : SharedState) (before after : PassState) (k : ℕ) (entry : Record) : Type 0 where
  pub may_claim : MayClaim shared after
  pub goes_on : GoesOn before.view after.view
  pub stored : record_at (sees after.view) k ≡ Some entry
  pub worker : entry.worker ≡ worker_of before.view.crew
  pub turn : entry.turn ≡ turn_of before.view.crew
  pub others : (j : ℕ) → j ≢ k → sees after.view (RecordOf j) ≡ sees before.view (RecordOf j)
  pub counters : (g : ℕ) → sees after.view (Counter g) ≡ sees before.view (Counter g)
  pub best : SeesBestSince before.view after.view
  pub crew : after.view.crew ≡ one_turn_more before.view.crew
  pub most : after.view.most ≡ before.view.most

-- ---- a placed node
-- the radius at a class
abbrev pub radius_in : View → ℕ → ℕ
radius_in view class = radius_of_class view.run.step view.run.gamma class

-- Node i was seen with its point, within the radius of this class of p, with a clear edge.
pub record WasNeighbour (before after : View) (class : ℕ) (p : Point) (i : ℕ) : Type 0 where
  pub at : Point
  pub stands : SeesPoint before i at
  pub near : squared_distance at p ≤ radius_in after class * radius_in after class
  pub clear : Clear (setup_in after.run).space at p

-- At this moment the parent was chosen. The cost of each neighbour was loaded since the call began, and through none of them would the new node
-- cost less.
pub record WasChosen (before chosen_at after : View) (first : FirstHanging) (p : Point) : Type 0 where
  pub since : GoesOn before chosen_at
  pub loaded : (i : ℕ) → WasNeighbour before after first.class p i → IsLoadedSince before.steps chosen_at i
  pub least : (i : ℕ) (was : WasNeighbour before after first.class p i) → first.cost ≤ cost_seen chosen_at i + cost_of was.at p

-- node i is seen within the radius of this class of p
abbrev pub IsWithinRadius : View → ℕ → Point → ℕ → Type 0
IsWithinRadius view class p i = distance_to p (tree_seen view).points i ≤ radius_in view class * radius_in view class

-- By this moment the node of mark k was linked, with its first parent and its first cost, and posted if it lies in a goal by which marks are skipped;
-- no other was rewired by then. At the end no neighbour is seen dearer than through it. Each node whose seen cost fell since, or whose parent's did,
-- is within its parent, but for a node within the radius to which the new one is a shortcut and which hangs elsewhere.
pub record WasRewired (before linked_at after : View) (k : ℕ) (first : FirstHanging) (p : Point) : Type 0 where
  pub until : GoesOn linked_at after
  pub stood : SeesPoint linked_at (suc k) p
  pub written : sees linked_at (TreeOf (suc k)) ≡ tree_word first.parent first.cost
  pub posted : lies_in_goals after.run.goals p ≡ true → linked_at.best ≤ best_word first.cost (suc k)
  pub pairs : (i : ℕ) → WasNeighbour before after first.class p i → SeesPair after i
  pub most : (i : ℕ) (was : WasNeighbour before after first.class p i) → cost_seen after i ≤ first.cost + cost_of was.at p
  pub spread : HasSpreadFalls (setup_in after.run).space (IsWithinRadius linked_at first.class p) (suc k) linked_at after

-- The node of the mark is seen at p. Its class is that of the count seen, which was loaded since, and all points within the radius are swept. Its
-- parent was chosen by costs that were loaded since, then it was linked, and then the nodes near it were rewired.
pub record IsPlacedAt (before after : View) (k : ℕ) (first : FirstHanging) (p : Point) : Type 0 where
  pub stands : SeesPoint after (suc k) p
  pub class_is : first.class ≡ class_of (sees after Count)
  pub looked : before.steps < last_look after Count
  pub swept : SweepsWithin (sight_in before) (sight_in after) p (radius_in after first.class * radius_in after first.class)
  pub chosen_at : View
  pub linked_at : View
  pub in_turn : GoesOn chosen_at linked_at
  pub chosen : WasChosen before chosen_at after first p
  pub rewired : WasRewired before linked_at after k first p

-- ---- outcomes
-- Node m, at a point, steered to p. No node that was seen before is nearer to mark k, and all points at most as far are swept.
pub record HasSteered (before after : View) (k m : ℕ) (from p : Point) : Type 0 where
  pub stands : SeesPoint after m from
  pub point_is : p ≡ steered from (mark_at after.run.marks k) after.run.step
  pub not_above : (n : ℕ) → IsPresent (tree_seen before).points n → IsNotAbove (distance_to (mark_at after.run.marks k) (tree_seen after).points) m n
  pub swept : SweepsWithin (sight_in before) (sight_in after) (mark_at after.run.marks k)
      (distance_to (mark_at after.run.marks k) (tree_seen after).points m)

-- The segment to p from node m is not clear. No node is seen there, and p is swept.
pub record IsBlockedAt (before after : View) (m : ℕ) (p : Point) : Type 0 where
  pub blocked : ¬ Clear (setup_in after.run).space (point_of (tree_seen after).points m) p
  pub free : IsFree (tree_seen after).points p
  pub swept : IsSwept (sight_in after) before.steps p

-- what came of the point p to which node m steered: no way leads there if no node is seen at it, and only then
abbrev pub ReachesAsSeen : View → View → ℕ → ℕ → Reached → Point → Type 0
ReachesAsSeen before after k m (NewNode first) p = IsPlacedAt before after k first p
ReachesAsSeen before after k m (SameNode j) p = SeesPoint after j p
ReachesAsSeen before after k m NoWay p = IsBlockedAt before after m p

-- where node m steers towards mark k, as it is seen
abbrev pub steered_point : View → ℕ → ℕ → Point
steered_point view k m = steered (point_of (tree_seen view).points m) (mark_at view.run.marks k) view.run.step

-- Node m, the nearest, steered to a point, and this was reached there.
pub record WasSteered (before after : View) (k m : ℕ) (reached : Reached) : Type 0 where
  pub from : Point
  pub steered : HasSteered before after k m from (steered_point after k m)
  pub outcome : ReachesAsSeen before after k m reached (steered_point after k m)

-- If marks may be skipped, the view came to be from one that a load of this best word leaves as the first step, and the best that it tells of, if any,
-- costs more than the bound of mark k. The word is the best one seen at the end, so the one that the first step found; or a later step looked at the
-- best again, as by a post, and then this leaves open by which of these looks the word was found.
abbrev pub WasNotSkipped : View → View → ℕ → Type 0
WasNotSkipped before after k =
    IsInformed after.run → (word : ℕ) × GoesOn (best_loaded before word) after × SeesBestSince (best_loaded before word) after
    × (word ≢ no_best → mark_bound (setup_in after.run) (mark_at after.run.marks k) < best_cost_in word)

-- Two steps were made: the best word was loaded, and the record stored. The best was the goal node g, at a cost of at most the bound of mark k.
pub record WasSkipped (before after : View) (k : ℕ) (entry : Record) (g : ℕ) : Type 0 where
  pub informed : IsInformed after.run
  pub word : ℕ
  pub some_node : word ≢ no_best
  pub node : g ≡ best_node_in word
  pub within : best_cost_in word ≤ mark_bound (setup_in after.run) (mark_at after.run.marks k)
  pub steps : after ≡ finished (best_loaded before word) k (record_word entry)

-- what is seen of a mark with this record, by what became of it
abbrev pub EndsAsSeen : View → View → ℕ → Record → Ending → Type 0
EndsAsSeen before after k entry (Steered nearest reached) = WasNotSkipped before after k × WasSteered before after k nearest reached
EndsAsSeen before after k entry (SkippedBy goal_node) = WasSkipped before after k entry goal_node

-- ---- the whole
-- Mark k was handled: the record that stands there is the one answered, and the mark ended as it says.
pub record IsExtended (before after : View) (k : ℕ) (entry : Record) : Type 0 where
  pub stored : record_at (sees after) k ≡ Some entry
  pub outcome : EndsAsSeen before after k entry (ending_of entry)

-- What `extend` promises: mark k was handled, and a pass that works alone goes on in the textbook run by one mark.
pub record Extends (shared : SharedState) (before after : PassState) (k : ℕ) (entry : Record) : Type 0 where
  pub handled : HandlesMark shared before after k entry
  pub extended : IsExtended before.view after.view k entry
  pub textbook : WorksAlone before.view k → SeesTextbook before.view k → WorksAlone after.view (suc k) × SeesTextbook after.view (suc k)
