-- How far a mark in hand has come, and which records it may get there.
use Rattle.step_core.specs.Terms.{Claimed, Count, Counted, Counter, Half, Hand, Linked, List, Outcome, Point, Pointed, Posted, SharedTree, Sizes, Stage}
use Rattle.step_core.specs.Terms.{TreeState, Treed, Words, children_of_words, is_linked, is_placed, node_point_by, points_by, state_by}
use Rattle.std.specs.Prelude.{◌≡◌, ℕ, ◌==◌, ◌&&◌, Bool, true, false, Option, Some, None}

-- ---- The tree in the words of a run to which several add: a node is present once it is linked, whatever its mark's record says.
-- where node n stands, if it is linked
abbrev pub linked_point : Sizes → Words → ℕ → Option Point
linked_point sizes words = node_point_by (is_linked sizes words) words

-- where each linked node stands
abbrev pub linked_points : Sizes → Words → List (Option Point)
linked_points sizes words = points_by (is_linked sizes words) sizes words

-- the tree of the linked nodes, with its costs and records
abbrev pub state_of_links : Sizes → Words → TreeState
state_of_links sizes words = state_by (is_linked sizes words) sizes words

-- the whole, with children, counters and count
abbrev pub shared_tree_of_words : Sizes → Words → SharedTree
shared_tree_of_words sizes words =
    record { state = state_of_links sizes words; child = children_of_words words; counter = λ strip. words (Counter strip); count = words Count }

-- ---- stages
-- the point of its node is written
abbrev pub has_point : Stage → Bool
has_point Claimed = false
has_point Pointed = true
has_point Half = true
has_point Treed = true
has_point Linked = true
has_point Counted = true
has_point Posted = true

-- the first word of its node is written
abbrev pub has_first : Stage → Bool
has_first Half = true
has_first Treed = true
has_first Linked = true
has_first Counted = true
has_first Posted = true
has_first stage = false

-- the tree word of its node is written
abbrev pub has_tree : Stage → Bool
has_tree Treed = true
has_tree Linked = true
has_tree Counted = true
has_tree Posted = true
has_tree stage = false

-- its node stands in a child word
abbrev pub has_link : Stage → Bool
has_link Linked = true
has_link Counted = true
has_link Posted = true
has_link stage = false

-- its node is counted
abbrev pub has_count : Stage → Bool
has_count Counted = true
has_count Posted = true
has_count stage = false

-- mark k is in this hand, at a stage that passes the test
abbrev pub holds_at : (Stage → Bool) → ℕ → Option Hand → Bool
holds_at test k None = false
holds_at test k (Some hand) = (hand.mark == k) && test hand.stage

-- A mark is recorded as placed once its node is counted, and as anything else only if its node is not linked.
pub record MayBeRecorded (stage : Stage) (outcome : Outcome) : Type 0 where
  pub linked : is_placed outcome ≡ has_link stage
  pub counted : is_placed outcome ≡ has_count stage
