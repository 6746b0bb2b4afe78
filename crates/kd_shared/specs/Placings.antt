-- Where the node in hand came to.
use Rattle.std.specs.Prelude.{◌≡◌, ◌≢◌, ℕ, suc, ◌+◌, ◌<◌, Bool, Some}
use Rattle.kd_shared.specs.Terms.{ChangesOnly, ChildOf, Count, Counted, FirstOf, GoesOn, Hand, HasLooked, IsOnWay, IsPresent, LeadsTo, NamesNode, Placed}
use Rattle.kd_shared.specs.Terms.{Placing, PointOf, Same, SeesAsBefore, SeesBestSince, SeesPoint, StandsAt, TreeOf, TreeState, View, Word, last_look}
use Rattle.kd_shared.specs.Terms.{note_before, pair_in_hand, place_in, point_at, point_word, run_sizes, sees, state_of_links, tree_seen}

-- What was seen stays seen, and of all words none is seen anew but words of nodes; the best word only by a look.
pub record GoesOnPlacing (before after : View) : Type 0 where
  pub goes_on : GoesOn before after
  pub others : ChangesOnly NamesNode (sees before) (sees after)
  pub best : SeesBestSince before after

-- share and limit stay
pub record KeepsShare (before after : View) : Type 0 where
  pub crew : after.crew ≡ before.crew
  pub most : after.most ≡ before.most

-- The node in hand is linked now: the way of its point leads to it over what is seen, and it is seen there, with its parent and its cost. It
-- is counted; nothing else of the hand has changed.
pub record IsPlaced (view : View) (hand : Hand) : Type 0 where
  pub depth : ℕ
  pub on_way : IsOnWay (tree_seen view).child (tree_seen view).points hand.point depth (suc hand.mark)
  pub stands : SeesPoint view (suc hand.mark) hand.point
  pub pair : sees view (TreeOf (suc hand.mark)) ≡ pair_in_hand hand
  pub first : sees view (FirstOf (suc hand.mark)) ≡ pair_in_hand hand
  pub counted : view.hand ≡ Some (record hand { stage = Counted })

-- Node j is seen at the point in hand. The hand is as it was, so its node is not linked.
pub record IsSame (view : View) (hand : Hand) (j : ℕ) : Type 0 where
  pub stands : SeesPoint view j hand.point
  pub unchanged : view.hand ≡ Some hand

-- what became of the node in this hand
abbrev pub IsPlacing : View → Hand → Placing → Type 0
IsPlacing view hand Placed = IsPlaced view hand
IsPlacing view hand (Same j) = IsSame view hand j

-- The node in hand was linked by the last step but one, which looked at the place of the child, and counted by the last one, which is noted last.
pub record WasLinkedSince (before after : View) (hand : Hand) : Type 0 where
  pub above : ℕ
  pub side : Bool
  pub child : (tree_seen after).child above side ≡ Some (suc hand.mark)
  pub looked : before.steps < last_look after (ChildOf above side)
  pub last : last_look after (ChildOf above side) + 1 ≡ after.steps
  pub counted : (note_before after 0).place ≡ place_in after Count

-- If it was not linked, what is seen otherwise than before was looked at since.
abbrev pub WasPlacedSince : View → View → Hand → Placing → Type 0
WasPlacedSince before after hand Placed = WasLinkedSince before after hand
WasPlacedSince before after hand (Same j) = HasLooked before after

-- ---- what a pass with the share of all workers sees
-- the words of node n, and the word of the child of node m on this side
abbrev pub IsWordOfLink : ℕ → Bool → ℕ → Word → Type 0
IsWordOfLink m side n (PointOf i) = i ≡ n
IsWordOfLink m side n (TreeOf i) = i ≡ n
IsWordOfLink m side n (FirstOf i) = i ≡ n
IsWordOfLink m side n (ChildOf i right) = (i ≡ m) × (right ≡ side)
IsWordOfLink m side n _ = ⊥

-- the tree in the words that a view sees, with its costs and records
abbrev pub state_seen : View → TreeState
state_seen view = state_of_links (run_sizes view.run) (sees view)

-- The tree has the node in this hand more, at its point, with its parent and its cost, and is else as it was.
pub record AddsHand (before after : TreeState) (hand : Hand) : Type 0 where
  pub absent : ¬ IsPresent before.points (suc hand.mark)
  pub stands : StandsAt after.points (suc hand.mark) hand.point
  pub parent : after.parent (suc hand.mark) ≡ hand.parent
  pub cost : after.cost (suc hand.mark) ≡ hand.cost
  pub written_cost : after.written_cost (suc hand.mark) ≡ hand.cost
  pub points : (n : ℕ) → n ≢ suc hand.mark → point_at after.points n ≡ point_at before.points n
  pub parents : (n : ℕ) → n ≢ suc hand.mark → after.parent n ≡ before.parent n
  pub costs : (n : ℕ) → n ≢ suc hand.mark → after.cost n ≡ before.cost n
  pub written_costs : (n : ℕ) → n ≢ suc hand.mark → after.written_cost n ≡ before.written_cost n
  pub records : (k : ℕ) → after.record_of k ≡ before.record_of k

-- The node in hand is seen as a child, where the way of its point led over what was seen and no child was. It is seen with its point, its
-- parent and its cost, as they are in hand; all else is seen as before. So the tree in those words has that node more.
pub record SeesLinked (before after : View) (hand : Hand) : Type 0 where
  pub above : ℕ
  pub side : Bool
  pub leads : LeadsTo before hand.point above side
  pub empty : sees before (ChildOf above side) ≡ 0
  pub child : sees after (ChildOf above side) ≡ suc hand.mark
  pub point : sees after (PointOf (suc hand.mark)) ≡ point_word hand.point
  pub pair : sees after (TreeOf (suc hand.mark)) ≡ pair_in_hand hand
  pub first : sees after (FirstOf (suc hand.mark)) ≡ pair_in_hand hand
  pub others : ChangesOnly (IsWordOfLink above side (suc hand.mark)) (sees before) (sees after)
  pub tree : AddsHand (state_seen before) (state_seen after) hand

-- The tree with the node in this hand, if that is placed, or else the tree that was seen before.
abbrev pub SeesPlacing : View → View → Hand → Placing → Type 0
SeesPlacing before after hand Placed = SeesLinked before after hand
SeesPlacing before after hand (Same j) = SeesAsBefore before after
