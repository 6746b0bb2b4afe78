-- What each kind of step tells the pass that makes it: its view then, and that its steps go on to that. What a step notes of the steps of all passes
-- no view before tells.
use Rattle.std.specs.Prelude.{◌≡◌, ◌≢◌, ℕ, ◌≤◌, ◌==◌, ◌^◌, List, Some, if◌then◌else◌}
use Rattle.plan_words.specs.Terms.{Aim, Count, Hand, Linked, MayLoad, Me, Point, PointOf, Record, SeesNode, Step, TreeOf, View, Word, best_cost_in}
use Rattle.plan_words.specs.Terms.{best_loaded, best_node_in, claimed, cost_in, counted, finished_at, half, last_note, linked_at, no_best, node_count}
use Rattle.plan_words.specs.Terms.{note_before, noting, own_count, parent_in, place_in, pointed, posted, saw_at, sees, tree_seen, treed}
use mathlib.Core.Option.{Option, some, none}
use Rattle.plan_words.specs.Nodes.{FindsGoalNode, FindsLess}
use Rattle.plan_words.specs.States.{GoesOn, HasWholeShare}

-- what any step tells: the view then, to which the steps go on; no slot is taken
pub record Tells (before : Me Aim View) (view : View) (after : Me Aim View) : Type 0 where
  pub view_is : after.0 ≡ view
  pub goes_on : GoesOn before.0 view
  pub slots : after.1 ≡ before.1

-- the same of a step for the mark in hand
abbrev pub TellsHand : Me Aim View → (Hand → View) → Me Aim View → Type 0
TellsHand before view after = (hand : Hand) → before.0.hand ≡ Some hand → Tells before (view hand) after

-- ---- what a step finds
-- if the word is the point of a seen node, it was found written
abbrev pub FindsPoint : View → ℕ → ℕ → Type 0
FindsPoint view place found = (n : ℕ) → SeesNode view n → place ≡ place_in view (PointOf n) → 2 ^ 63 ≤ found

-- and so it was if it is a tree word of one
abbrev pub FindsTree : View → ℕ → ℕ → Type 0
FindsTree view place found = (n : ℕ) → SeesNode view n → place ≡ place_in view (TreeOf n) → 2 ^ 63 ≤ found

-- if the word is the count, it is no less than how many nodes a worker has placed, by the records seen, and the start
abbrev pub FindsCount : View → ℕ → ℕ → Type 0
FindsCount view place found = place ≡ place_in view Count → (entry : Record) → own_count view entry ≤ found

-- a pass with the whole share finds nothing new in a word, unless that is the count
abbrev pub FindsAsSeen : View → ℕ → ℕ → Type 0
FindsAsSeen view place found = HasWholeShare view → (name : Word) → name ≢ Count → MayLoad view name → place ≡ place_in view name → found ≡ sees view name

-- and the count is that of the nodes that it sees, if it has counted what it has linked
abbrev pub FindsWholeCount : View → ℕ → ℕ → Type 0
FindsWholeCount view place found = HasWholeShare view → ((hand : Hand) → view.hand ≡ Some hand → hand.stage ≢ Linked)
    → place ≡ place_in view Count → found ≡ node_count (tree_seen view).points

-- ---- claims and loads
-- what a claim asked for
abbrev pub aim_of : Option Aim → Aim
aim_of (some aim) = aim
aim_of none = record { strip = 0; limit = 0 }

-- the mark is in hand, or a higher counter was found
pub record Claims (step : Step Aim) (before : Me Aim View) (found : ℕ) (after : Me Aim View) : Type 0 where
  pub told : Tells before
      (if found == step.first then claimed before.0 (aim_of step.said).strip step.first (aim_of step.said).limit (last_note after.0)
      else saw_at before.0 step.word found found) after
  pub whole : FindsAsSeen before.0 step.word found

-- the view sees the word as it was found
pub record Loads (step : Step Aim) (before : Me Aim View) (found : ℕ) (after : Me Aim View) : Type 0 where
  pub told : Tells before (saw_at before.0 step.word found found) after
  pub point : FindsPoint before.0 step.word found
  pub tree : FindsTree before.0 step.word found
  pub count : FindsCount before.0 step.word found
  pub whole : FindsAsSeen before.0 step.word found
  pub whole_count : FindsWholeCount before.0 step.word found

-- ---- the node in hand
-- the point p of the node in hand is written, steered from node m
abbrev pub WritesPoint : ℕ → Point → Step Aim → Me Aim View → ℕ → Me Aim View → Type 0
WritesPoint m p step before found after = TellsHand before (λ hand. pointed before.0 hand m p) after

-- its first word is written
abbrev pub WritesFirst : Step Aim → Me Aim View → ℕ → Me Aim View → Type 0
WritesFirst step before found after = TellsHand before (λ hand. half before.0 hand (parent_in step.first) (cost_in step.first)) after

-- its tree word is written
abbrev pub WritesTree : Step Aim → Me Aim View → ℕ → Me Aim View → Type 0
WritesTree step before found after = TellsHand before (λ hand. treed before.0 hand) after

-- The node in hand is linked, or a child was found there.
pub record Links (step : Step Aim) (before : Me Aim View) (found : ℕ) (after : Me Aim View) : Type 0 where
  pub told : TellsHand before
      (λ hand. if found == 0 then linked_at before.0 hand step.word (last_note after.0) else saw_at before.0 step.word found found) after
  pub whole : FindsAsSeen before.0 step.word found

-- the node in hand is counted
abbrev pub Counts : Step Aim → Me Aim View → ℕ → Me Aim View → Type 0
Counts step before found after = TellsHand before (λ hand. counted before.0 hand (note_before after.0 0).word (last_note after.0)) after

-- ---- costs and records
-- the word at this place gave way to another if it was the first, which is noted, or was found otherwise
abbrev pub exchanged_at : View → ℕ → ℕ → ℕ → ℕ → List ℕ → View
exchanged_at view place first second found steps =
    if found == first then noting (saw_at view place first second) place second steps else saw_at view place found found

-- a tree word that was as it was seen last gave way to another, or was found otherwise, of a lower cost
pub record Lowers (step : Step Aim) (before : Me Aim View) (found : ℕ) (after : Me Aim View) : Type 0 where
  pub told : Tells before (exchanged_at before.0 step.word step.first step.second found (last_note after.0)) after
  pub fell : found ≢ step.first → FindsLess step.first found
  pub whole : HasWholeShare before.0 → found ≡ step.first

-- a pass with the whole share finds the best word as it has seen it
abbrev pub FindsBestAsSeen : View → ℕ → Type 0
FindsBestAsSeen view found = HasWholeShare view → found ≡ view.best

-- the best word is seen as it was found; a pass with the whole share finds a goal node that it has seen, at no less than it costs
pub record LoadsBest (step : Step Aim) (before : Me Aim View) (found : ℕ) (after : Me Aim View) : Type 0 where
  pub told : Tells before (best_loaded before.0 found) after
  pub same : FindsBestAsSeen before.0 found
  pub whole : HasWholeShare before.0 → found ≢ no_best → FindsGoalNode before.0 (best_node_in found, best_cost_in found)

-- a node was posted, that of the pair
pub record Posts (step : Step Aim) (before : Me Aim View) (found : ℕ) (after : Me Aim View) : Type 0 where
  pub told : Tells before (posted before.0 (best_node_in step.first) found (last_note after.0)) after
  pub same : FindsBestAsSeen before.0 found

-- the record is stored, and the hand is empty
abbrev pub Finishes : Step Aim → Me Aim View → ℕ → Me Aim View → Type 0
Finishes step before found after = Tells before (finished_at before.0 step.word step.first) after
