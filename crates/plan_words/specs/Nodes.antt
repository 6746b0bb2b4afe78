-- What a link leaves, and what one finds that fails.
use Rattle.std.specs.Prelude.{◌≡◌, ℕ, suc, Bool, Some, ◌<◌, ◌≤◌, ◌^◌, List, slice_index, ◌⊎◌, Option}
use Rattle.plan_words.specs.Terms.{Best, ChildOf, Counted, FirstOf, Hand, IsAllowedEdge, IsOnWayOf, LeadsTo, Point, PointOf, SeesGoal, SeesPoint, TreeOf}
use Rattle.plan_words.specs.Terms.{View, Word, best_word, cost_in, counted, hand_with_post, last_look, last_note, linked, loaded, note_before, pair_in_hand}
use Rattle.plan_words.specs.Terms.{parent_in, sees, setup_in, tree_seen, with_post}
use Rattle.plan_words.specs.States.{PassState, with_view}

-- the words of children and points
abbrev pub NamesChildOrPoint : Word → Type 0
NamesChildOrPoint (ChildOf n side) = Unit {0}
NamesChildOrPoint (PointOf n) = Unit {0}
NamesChildOrPoint _ = ⊥

-- all words of nodes
abbrev pub NamesNode : Word → Type 0
NamesNode (ChildOf n side) = Unit {0}
NamesNode (PointOf n) = Unit {0}
NamesNode (TreeOf n) = Unit {0}
NamesNode (FirstOf n) = Unit {0}
NamesNode _ = ⊥

-- The pass has linked the node of this hand as the child of node n on this side, and counted it, and did nothing else: these are its last two notes.
abbrev pub HasLinked : PassState → PassState → ℕ → Bool → Hand → Type 0
HasLinked before after n side hand = after ≡ with_view before
    (counted (linked before.view hand n side (note_before after.view 1).steps) hand (note_before after.view 0).word (last_note after.view))

-- The node of this hand is seen as the child of node n on this side, at its point, with its parent and its cost. It is counted.
pub record IsLinkedAt (view : View) (n : ℕ) (side : Bool) (hand : Hand) : Type 0 where
  pub child : (tree_seen view).child n side ≡ Some (suc hand.mark)
  pub point : SeesPoint view (suc hand.mark) hand.point
  pub pair : sees view (TreeOf (suc hand.mark)) ≡ pair_in_hand hand
  pub first : sees view (FirstOf (suc hand.mark)) ≡ pair_in_hand hand
  pub counted : view.hand ≡ Some (record hand { stage = Counted })

-- The way of p led to the place of node n's child on this side, and leads on to node c there, a step deeper.
abbrev pub LeadsOn : View → View → Point → ℕ → Bool → ℕ → Type 0
LeadsOn before after p n side c = (leads : LeadsTo before p n side) → IsOnWayOf after p (suc leads.depth) c

-- ---- Parents and costs in tree words, and what a pass is told of them.
-- the word is written, with this parent and this cost
pub record IsPairIn (word : ℕ) (pair : ℕ × ℕ) : Type 0 where
  pub written : 2 ^ 63 ≤ word
  pub parent : pair.0 ≡ parent_in word
  pub cost : pair.1 ≡ cost_in word

-- each word that is written has its parent below so many nodes
abbrev pub HasParentsBelow : ℕ → List ℕ → Type 0
HasParentsBelow nodes words = (n : ℕ) → 2 ^ 63 ≤ slice_index words n → parent_in (slice_index words n) < nodes

-- the other word has a lower cost
pub record FindsLess (word found : ℕ) : Type 0 where
  pub written : 2 ^ 63 ≤ found
  pub less : cost_in found < cost_in word

-- if the node and the parent are seen with their points, the edge between them is allowed
abbrev pub IsEdgeSeen : View → ℕ → ℕ → Type 0
IsEdgeSeen view node parent = (at from : Point) → SeesPoint view node at → SeesPoint view parent from → IsAllowedEdge (setup_in view.run) from at

-- ---- What a pass finds in the best word.
-- The node is seen as a goal node, and costs no more, as it was seen last.
pub record FindsGoalNode (view : View) (best : ℕ × ℕ) : Type 0 where
  pub goal : SeesGoal view best.0
  pub written : 2 ^ 63 ≤ sees view (TreeOf best.0)
  pub paid : cost_in (sees view (TreeOf best.0)) ≤ best.1

-- The point of node n is looked at again, and a goal node is posted then: nothing else is done.
pub record LooksAndPosts (n : ℕ) (before after : View) : Type 0 where
  pub looked : ¬ SeesGoal before n → after ≡ loaded before (PointOf n) (sees after (PointOf n))
  pub posted : SeesGoal before n → after ≡ with_post (loaded before (PointOf n) (sees after (PointOf n))) n after.best (last_note after)

-- Of the pass only its view is another. Share, limit and hand stay, but that the hand may note a post of node n, a goal node.
pub record OnlyPosts (n : ℕ) (before after : PassState) : Type 0 where
  pub pass : after ≡ with_view before after.view
  pub crew : after.view.crew ≡ before.view.crew
  pub most : after.view.most ≡ before.view.most
  pub hand : (after.view.hand ≡ before.view.hand) ⊎ (SeesGoal before.view n × (after.view.hand ≡ hand_with_post before.view.hand n))

-- The hand stays, but that it may have noted a post of its node.
abbrev pub IsOrPosted : Option Hand → Option Hand → Type 0
IsOrPosted before after = (after ≡ before) ⊎ ((n : ℕ) × (after ≡ hand_with_post before n))

-- Share and limit stay, and the hand does but for that.
pub record KeepsOrPosts (before after : View) : Type 0 where
  pub crew : after.crew ≡ before.crew
  pub most : after.most ≡ before.most
  pub hand : IsOrPosted before.hand after.hand

-- The best word is seen as before, or was looked at since.
abbrev pub SeesBestSince : View → View → Type 0
SeesBestSince before after = (after.best ≡ before.best) ⊎ (before.steps < last_look after Best)

-- Of each goal node that is seen with its parent and its cost, the best word seen is at most the pair of this cost and its number.
abbrev pub HasPostedGoals : View → Type 0
HasPostedGoals view = (n : ℕ) → SeesGoal view n → 2 ^ 63 ≤ sees view (TreeOf n) → view.best ≤ best_word (cost_in (sees view (TreeOf n))) n
