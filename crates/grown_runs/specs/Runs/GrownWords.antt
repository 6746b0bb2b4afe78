-- What the words of a run say of its tree, its records and its kd-tree.
use Rattle.std.specs.Prelude.{◌≡◌, ℕ, zero, suc, ◌+◌, ◌<◌, ◌≤◌, ◌==◌, ◌||◌, Bool, true, false, Option, Some, None, List, map, length, if◌then◌else◌}
use Rattle.grown_runs.specs.Terms.{Children, FollowWays, IsClosed, IsPresent, Point, Record, Task, TreeState, is_placed, list_any, node_count, quota_of}
use Rattle.grown_runs.specs.Terms.{range_with_len, setup_of}
use Rattle.grown_runs.specs.Table.WordNames.{Words}
use Rattle.grown_runs.specs.Table.WordNames.Word.{Count, Best, Counter, PointOf, ChildOf, TreeOf, FirstOf, RecordOf}
use Rattle.grown_runs.specs.Table.WordPlaces.{Sizes, word_at}
use Rattle.grown_runs.specs.Table.Words.{point_of_word, point_in, point_word, parent_in, cost_in, tree_word, record_of_word, record_word}

-- ---- records and points
-- the record of mark k, with the first word of its node
abbrev pub record_at : Words → ℕ → Option Record
record_at words k = record_of_word (words (RecordOf k)) (words (FirstOf (suc k)))

-- there is a record, and it is of a placed mark
abbrev pub has_placed : Option Record → Bool
has_placed None = false
has_placed (Some entry) = is_placed entry.outcome

-- ---- which nodes are present
-- By its record a node is present if it is the start, or its mark was placed. That a point is written says nothing.
abbrev pub has_node : Words → ℕ → Bool
has_node words zero = true
has_node words (suc k) = has_placed (record_at words k)

-- node n is a child of node m
abbrev pub is_child_of : Words → ℕ → ℕ → Bool
is_child_of words n m = (words (ChildOf m false) == n) || (words (ChildOf m true) == n)

-- By its link a node is present if it is node 0, or a child: so it is while a mark is in hand, too.
abbrev pub is_linked : Sizes → Words → ℕ → Bool
is_linked sizes words n = (n == 0) || list_any (is_child_of words n) (range_with_len 0 (sizes.marks + 1))

-- Links from node 0 on lead to node n.
pub data IsLinked (words : Words) : ℕ → Type 0 where
  start : IsLinked words 0
  below : (m k : ℕ) (side : Bool) → IsLinked words m → words (ChildOf m side) ≡ suc k → IsLinked words (suc k)

-- ---- the tree
-- where node n stands, if it is present by this test
abbrev pub node_point_by : (ℕ → Bool) → Words → ℕ → Option Point
node_point_by present words n = if present n then point_of_word (words (PointOf n)) else None

-- where each node stands that is present by this test
abbrev pub points_by : (ℕ → Bool) → Sizes → Words → List (Option Point)
points_by present sizes words = map (node_point_by present words) (range_with_len 0 (sizes.marks + 1))

-- their tree with its costs and records: parent and kept cost by the tree word of a node, what it was placed at by its first word
abbrev pub state_by : (ℕ → Bool) → Sizes → Words → TreeState
state_by present sizes words = record {
  points = points_by present sizes words;
  parent = λ n. parent_in (words (TreeOf n));
  cost = λ n. cost_in (words (TreeOf n));
  written_cost = λ n. cost_in (words (FirstOf n));
  record_of = record_at words;
}

-- the same of the nodes that are present by their records, as in a closed run
abbrev pub node_point : Words → ℕ → Option Point
node_point words = node_point_by (has_node words) words

abbrev pub points_of_words : Sizes → Words → List (Option Point)
points_of_words sizes words = points_by (has_node words) sizes words

abbrev pub state_of_words : Sizes → Words → TreeState
state_of_words sizes words = state_by (has_node words) sizes words

-- ---- the kd-tree
-- the child that a word names; 0 names none
abbrev pub child_of_word : ℕ → Option ℕ
child_of_word zero = None
child_of_word (suc n) = Some (suc n)

-- the children of each node by its two words
abbrev pub children_of_words : Words → Children
children_of_words words n side = child_of_word (words (ChildOf n side))

-- ---- closed runs
-- the word of a point, with no other bit set
abbrev pub IsPointWord : ℕ → Type 0
IsPointWord word = word ≡ point_word (point_in word)

-- the word of a parent and a cost, with no other bit set
abbrev pub IsTreeWord : ℕ → Type 0
IsTreeWord word = word ≡ tree_word (parent_in word) (cost_in word)

-- the point, the tree word and the first word of node n are written as they are packed
pub record IsWritten (words : Words) (n : ℕ) : Type 0 where
  pub point : IsPointWord (words (PointOf n))
  pub tree : IsTreeWord (words (TreeOf n))
  pub first : IsTreeWord (words (FirstOf n))

-- nothing is written for number n; that its child words are 0 follows from the ways
pub record IsBlank (words : Words) (n : ℕ) : Type 0 where
  pub point : words (PointOf n) ≡ 0
  pub tree : words (TreeOf n) ≡ 0
  pub first : words (FirstOf n) ≡ 0

-- The words as they are if those of numbers without a node are taken as 0: a mark that came to nothing may have left a point and pairs.
abbrev pub cleared : Words → Words
cleared words (PointOf n) = if has_node words n then words (PointOf n) else 0
cleared words (TreeOf n) = if has_node words n then words (TreeOf n) else 0
cleared words (FirstOf n) = if has_node words n then words (FirstOf n) else 0
cleared words Count = words Count
cleared words Best = words Best
cleared words (Counter g) = words (Counter g)
cleared words (ChildOf n side) = words (ChildOf n side)
cleared words (RecordOf k) = words (RecordOf k)

-- how many strips and marks a task has
abbrev pub sizes_of : Task → Sizes
sizes_of task = record { strips = task.scene.strips; marks = length task.marks }

-- the words in the list of a run of the task
abbrev pub run_words : Task → List ℕ → Words
run_words task items = word_at (sizes_of task) items

-- The words of a closed run: the law holds at its limit, its nodes are linked by the ways of their points, the count is that of its
-- nodes, and the counter of each strip stands at the strip's quota. The words of its nodes and of its records are written as they are
-- packed, no record from the limit on is written, and nothing for a number without a node. The first word of node 0 is that of parent 0
-- and cost 0. Of the best word nothing is said: while a run rests its costs may fall.
pub record HoldRun (task : Task) (limit : ℕ) (words : Words) : Type 0 where
  pub closed : IsClosed (setup_of task.scene) task.marks limit (state_of_words (sizes_of task) words)
  pub ways : FollowWays (children_of_words words) (points_of_words (sizes_of task) words)
  pub counted : words Count ≡ node_count (points_of_words (sizes_of task) words)
  pub claimed : (g : ℕ) → g < task.scene.strips → words (Counter g) ≡ quota_of task.scene.strips g limit
  pub written : (n : ℕ) → IsPresent (points_of_words (sizes_of task) words) n → IsWritten words n
  pub recorded : (k : ℕ) (entry : Record) → record_at words k ≡ Some entry → words (RecordOf k) ≡ record_word entry
  pub unrecorded : (k : ℕ) → limit ≤ k → words (RecordOf k) ≡ 0
  pub start_first : words (FirstOf 0) ≡ tree_word 0 0
  pub blank : (n : ℕ) → has_node words n ≡ false → IsBlank words n
