-- What the steps of the handling of one mark leave, by what the pass has seen.
use Rattle.std.specs.Prelude.{◌≡◌, true, false, ℕ, suc, ◌*◌, ◌^◌, ◌<◌, ◌≤◌, if◌then◌else◌, All, Contains, IfSome, Some, List}
use Rattle.plan_work.specs.Terms.{BelongsTo, Clear, Count, Counted, Counter, FirstHanging, FirstOf, Found, Goal, GoesOn, Hand, Hanging, IsBounded, IsInReach}
use Rattle.plan_work.specs.Terms.{IsLoadedSince, IsMeasured, IsNotAbove, IsSame, IsUnskipped, MayClaim, NewNode, Outcome, Parent, PassState, Placing, Point}
use Rattle.plan_work.specs.Terms.{Pointed, Posted, Radii, Reached, Record, RecordOf, Scene, SeesBestSince, SeesPair, SeesPoint, SharedState, Stage, Steered}
use Rattle.plan_work.specs.Terms.{SweepsWithin, TreeOf, Treed, View, best_loaded, best_word, class_of, distance_to, ending_of, finished, has_node, last_look}
use Rattle.plan_work.specs.Terms.{lies_in_goals, mark_at, numbers_of, own_count, pair_in_hand, point_of, record_at, record_of_ending, record_word}
use Rattle.plan_work.specs.Terms.{seen_cost_through, sees, setup_in, sight_in, space_of, squared_distance, steered, tree_seen, turn_of, unplaced_record}
use Rattle.plan_work.specs.Terms.{weighed, with_view, worker_of}
use Rattle.kd_shared.specs.declared.placing.Placing.TheVariants as placings
use Rattle.plan_work.specs.Extensions.{HandlesMark, MayExtend, ReachesAsSeen, WasSteered, radius_in}
use Rattle.plan_work.specs.OneWorker.{IsNotSkippedIn, SeesTextbook, WorksAlone}

-- the radii are those of the scene's step and gamma
pub record AreRadiiOf (scene : Scene) (radii : Radii) : Type 0 where
  pub step : radii.step ≡ scene.step
  pub gamma : radii.gamma ≡ scene.gamma

-- What was seen stays seen; no record and no counter is seen anew, and the best word only by a look. The pass is of the same tree, with the same
-- crew and the same limit.
pub record KeepsRecords (shared : SharedState) (before after : PassState) : Type 0 where
  pub belongs : BelongsTo after shared
  pub goes_on : GoesOn before.view after.view
  pub records : (k : ℕ) → sees after.view (RecordOf k) ≡ sees before.view (RecordOf k)
  pub counters : (g : ℕ) → sees after.view (Counter g) ≡ sees before.view (Counter g)
  pub best : SeesBestSince before.view after.view
  pub crew : after.view.crew ≡ before.view.crew
  pub most : after.view.most ≡ before.view.most

-- ---- steering
-- The class is that of the count seen, which was loaded since, and is no less than how many nodes a worker has placed, by the records seen. Each
-- node that was seen before within the radius of p is found, all that are found are in reach, and within the radius, and their records have
-- their distances. All points within it are swept.
pub record HasFilledNear (before after : View) (p : Point) (class : ℕ) (found : List Found) : Type 0 where
  pub class_is : class ≡ class_of (sees after Count)
  pub looked : before.steps < last_look after Count
  pub counted : (entry : Record) → own_count before entry ≤ sees after Count
  pub all : (i : ℕ) (q : Point) → SeesPoint before i q → squared_distance q p ≤ radius_in after class * radius_in after class → Contains (numbers_of found) i
  pub in_reach : All (IsInReach after p) (numbers_of found)
  pub measured : All (IsMeasured after p) found
  pub close : (i : ℕ) → Contains (numbers_of found) i → distance_to p (tree_seen after).points i ≤ radius_in after class * radius_in after class
  pub swept : SweepsWithin (sight_in before) (sight_in after) p (radius_in after class * radius_in after class)

-- The number of a found node and its distance fit a word.
pub record FitsWord (f : Found) : Type 0 where
  pub node : f.node < 2 ^ 18
  pub distance : f.distance < 2 ^ 44

-- Node m of a list is seen at this point, and none of those among is nearer to p.
pub record IsNearestOf (view : View) (p : Point) (near among : List ℕ) (m : ℕ) (at : Point) : Type 0 where
  pub listed : Contains near m
  pub stands : SeesPoint view m at
  pub not_above : All (IsNotAbove (distance_to p (tree_seen view).points) m) among

-- The near nodes of p were found since this moment, and no record was seen anew.
pub record IsFilledSince (shared : SharedState) (first pass : PassState) (p : Point) (class : ℕ) : Type 0 where
  pub keeps : KeepsRecords shared first pass
  pub filled : HasFilledNear first.view pass.view p class pass.lists.search.found

-- ---- skipping
-- The best word was loaded, and is in hand now, in a scene that is informed. In any other no step was made.
pub record HasLoadedBest (shared : SharedState) (before after : PassState) : Type 0 where
  pub keeps : KeepsRecords shared before after
  pub informed : shared.task.scene.informed ≡ true → after ≡ with_view before (best_loaded before.view after.view.best)
  pub plain : shared.task.scene.informed ≡ false → after ≡ before

-- Mark k is in hand, nothing is written of it, and it is not skipped.
pub record MaySteerOn (shared : SharedState) (pass : PassState) (k : ℕ) : Type 0 where
  pub may : MayExtend shared pass k
  pub unskipped : IfSome pass.view.hand (IsUnskipped pass.view)

-- ---- placing
-- Node m, which is seen, steers towards mark k to p. By the records seen, no placed node is nearer.
pub record IsSteeredTo (view : View) (k m : ℕ) (p : Point) : Type 0 where
  pub from : Point
  pub stands : SeesPoint view m from
  pub point_is : p ≡ steered from (mark_at view.run.marks k) view.run.step
  pub not_above : (n : ℕ) → has_node (sees view) n ≡ true → IsNotAbove (distance_to (mark_at view.run.marks k) (tree_seen view).points) m n

-- The point in hand is p, steered from node m, and no more is written.
pub record IsPointed (hand : Hand) (m : ℕ) (p : Point) : Type 0 where
  pub stage : hand.stage ≡ Pointed
  pub nearest : hand.nearest ≡ m
  pub point : hand.point ≡ p

-- Mark k is in hand and is not skipped, its point p is written, and the segment to it from the nearest node m is clear.
pub record MayPlace (shared : SharedState) (pass : PassState) (k m : ℕ) (p : Point) : Type 0 where
  pub belongs : BelongsTo pass shared
  pub hand : Hand
  pub held : pass.view.hand ≡ Some hand
  pub mark : hand.mark ≡ k
  pub pointed : IsPointed hand m p
  pub bounded : IsBounded p
  pub steered : IsSteeredTo pass.view k m p
  pub clear : Clear (space_of shared.task.scene) (point_of (tree_seen pass.view).points m) p
  pub unskipped : IsUnskipped pass.view hand

-- The node in hand has a parent and a cost. By no near node with a clear edge would it cost less, as they are seen, each by a look after so many
-- steps.
pub record IsHung (steps : ℕ) (after : View) (hand : Hand) (parent : Parent) (near : List ℕ) : Type 0 where
  pub held : after.hand ≡ Some (record hand { stage = Treed; parent = parent.node; cost = parent.cost })
  pub pairs : All (SeesPair after) near
  pub loaded : All (IsLoadedSince steps after) near
  pub chosen : (i : ℕ) → Contains near i → Clear (setup_in after.run).space (point_of (tree_seen after).points i) hand.point
      → parent.cost ≤ seen_cost_through after hand.point i

-- how far a hand has come whose node is placed at p: in a goal by which marks are skipped it has been posted
abbrev pub placed_stage : List Goal → Point → Stage
placed_stage goals p = if lies_in_goals goals p then Posted else Counted

-- the hand then
abbrev pub placed_hand : View → Hand → Hand
placed_hand view hand = record hand { stage = placed_stage view.run.goals hand.point }

-- The node in hand is seen at its point, with its parent and its cost. It is counted, and if it lies in such a goal it has been posted.
pub record HasBeenPlaced (view : View) (hand : Hand) : Type 0 where
  pub stands : SeesPoint view (suc hand.mark) hand.point
  pub pair : sees view (TreeOf (suc hand.mark)) ≡ pair_in_hand hand
  pub first : sees view (FirstOf (suc hand.mark)) ≡ pair_in_hand hand
  pub counted : view.hand ≡ Some (placed_hand view hand)
  pub posted : lies_in_goals view.run.goals hand.point ≡ true → view.best ≤ best_word hand.cost (suc hand.mark)

-- what became of the node in this hand
abbrev pub HasCome : View → Hand → Placing → Type 0
HasCome view hand placings.Placed = HasBeenPlaced view hand
HasCome view hand (placings.Same j) = IsSame view hand j

-- the hand with a parent and a cost
abbrev pub hung_by : Hand → Hanging → Hand
hung_by hand hanging = record hand { stage = Treed; parent = hanging.parent.node; cost = hanging.parent.cost }

-- The node in hand was hung by the nodes found, whose edges to it are worked out, and came to this place. The count is not seen anew.
pub record IsTried (before after : PassState) (hand : Hand) (placing : Placing) (hanging : Hanging) : Type 0 where
  pub mid : View
  pub begun : GoesOn before.view mid
  pub found : after.lists.search.found ≡ weighed before.lists.search.found
  pub counted : sees mid Count ≡ sees before.view Count
  pub hung : IsHung before.view.steps mid hand hanging.parent (numbers_of before.lists.search.found)
  pub ended : GoesOn mid after.view
  pub count : sees after.view Count ≡ sees mid Count
  pub came : HasCome after.view (hung_by hand hanging) placing

-- The mark of this record came to the point p to which node m steered.
pub record HasReached (before after : View) (k : ℕ) (entry : Record) (m : ℕ) (p : Point) : Type 0 where
  pub reached : Reached
  pub ending : ending_of entry ≡ Steered m reached
  pub as_seen : ReachesAsSeen before after k m reached p

-- ---- records
-- the record of the worker of a view in its next turn: of a mark for which no node was placed, and of one that was placed
abbrev pub own_unplaced : View → ℕ → Outcome → Record
own_unplaced view nearest outcome = unplaced_record (worker_of view.crew) (turn_of view.crew) nearest outcome

-- what a node is given first that hangs so
abbrev pub given_by : Hanging → FirstHanging
given_by hanging = record { parent = hanging.parent.node; cost = hanging.parent.cost; class = hanging.class }

abbrev pub own_placed : View → ℕ → Hanging → Record
own_placed view nearest hanging = record_of_ending (worker_of view.crew) (turn_of view.crew) (Steered nearest (NewNode (given_by hanging)))

-- The record of the mark in hand stands there, by the worker in its next turn, and nothing is in hand. Of all words no other is seen anew.
pub record HasRecorded (shared : SharedState) (before after : PassState) (entry : Record) : Type 0 where
  pub may_claim : MayClaim shared after
  pub goes_on : GoesOn before.view after.view
  pub view : (hand : Hand) → before.view.hand ≡ Some hand → after ≡ with_view before (finished before.view hand.mark (record_word entry))
  pub stored : (hand : Hand) → before.view.hand ≡ Some hand → record_at (sees after.view) hand.mark ≡ Some entry
  pub worker : entry.worker ≡ worker_of before.view.crew
  pub turn : entry.turn ≡ turn_of before.view.crew

-- ---- the whole of a mark that is not skipped
-- Mark k was handled, and not skipped: the record that stands there is the one answered, and it says what the nearest node came to.
pub record IsSteeredAndHandled (before after : View) (k : ℕ) (entry : Record) : Type 0 where
  pub stored : record_at (sees after) k ≡ Some entry
  pub nearest : ℕ
  pub reached : Reached
  pub ending : ending_of entry ≡ Steered nearest reached
  pub steered : WasSteered before after k nearest reached

-- What is promised of a mark that is not skipped: it was handled, and a pass that works alone goes on in the textbook run by one mark.
pub record Places (shared : SharedState) (before after : PassState) (k : ℕ) (entry : Record) : Type 0 where
  pub handled : HandlesMark shared before after k entry
  pub extended : IsSteeredAndHandled before.view after.view k entry
  pub textbook : WorksAlone before.view k → SeesTextbook before.view k → IsNotSkippedIn before.view k
      → WorksAlone after.view (suc k) × SeesTextbook after.view (suc k)
