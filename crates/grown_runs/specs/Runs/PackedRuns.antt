-- A run that is given by lists of nodes and of records, and its words.
use Rattle.std.specs.Prelude.{◌≡◌, ℕ, zero, suc, ◌+◌, ◌<◌, ◌≤◌, ◌^◌, Option, Some, None, List, length, slice_get, slice_index_or, ◌≢◌}
use Rattle.grown_runs.specs.Terms.{FollowWays-prop, Goal, IsBounded, IsClosed-prop, IsGoalNode, Knot, Placed, Record, Task, TreeState, node_count, parent_of}
use Rattle.grown_runs.specs.Terms.{points_of, props, quota_of, without_costs}
use Rattle.grown_runs.specs.Table.WordNames.{Word, Words, ChangesOnly, IsCounter, IsKnotWord}
use Rattle.grown_runs.specs.Table.WordNames.Word.{Count, Counter, PointOf, TreeOf, FirstOf, RecordOf}
use Rattle.grown_runs.specs.Table.WordPlaces.{Sizes}
use Rattle.grown_runs.specs.Table.Words.{FitsWord, point_word, tree_word, record_word, best_cost_in, best_node_in, best_word, no_best}
use Rattle.grown_runs.specs.Runs.GrownWords.{HoldRun}

-- ---- lists
-- the kept cost of a present node
abbrev pub kept_cost_of : Option Knot → ℕ
kept_cost_of None = 0
kept_cost_of (Some knot) = knot.cost

-- the tree of these nodes, with their kept costs and the records of the marks
abbrev pub state_of_lists : List (Option Knot) → List Record → TreeState
state_of_lists knots records = record {
  points = points_of (without_costs knots);
  parent = parent_of (without_costs knots);
  cost = λ n. kept_cost_of (slice_index_or knots n None);
  written_cost = λ n. 0;
  record_of = slice_get records;
}

-- node n of the list
abbrev pub IsKnot : List (Option Knot) → ℕ → Knot → Type 0
IsKnot knots n knot = slice_get knots n ≡ Some (Some knot)

-- ---- what fits
-- the node has a number up to that of the last mark, and its words hold it
pub record FitsNode (sizes : Sizes) (n : ℕ) (knot : Knot) : Type 0 where
  pub within : n ≤ sizes.marks
  pub point : IsBounded knot.point
  pub parent : knot.parent < 2 ^ 18
  pub cost : knot.cost < 2 ^ 44

-- the words of the record hold it
pub record FitsRecord (entry : Record) : Type 0 where
  pub word : FitsWord entry
  pub parent : entry.first_parent < 2 ^ 18
  pub cost : entry.first_cost < 2 ^ 44

-- all nodes and records fit, and there are no more records than marks
pub record FitWords (sizes : Sizes) (knots : List (Option Knot)) (records : List Record) : Type 0 where
  pub few : length records ≤ sizes.marks
  pub nodes : (n : ℕ) (knot : Knot) → IsKnot knots n knot → FitsNode sizes n knot
  pub records_fit : (k : ℕ) (entry : Record) → slice_get records k ≡ Some entry → FitsRecord entry

-- ---- what words hold
-- the point and the tree word of node n
pub record HoldsNode (words : Words) (n : ℕ) (knot : Knot) : Type 0 where
  pub point : words (PointOf n) ≡ point_word knot.point
  pub tree : words (TreeOf n) ≡ tree_word knot.parent knot.cost

-- the record of mark k, and of a placed one the first word of its node
pub record HoldsRecord (words : Words) (k : ℕ) (entry : Record) : Type 0 where
  pub own : words (RecordOf k) ≡ record_word entry
  pub first : entry.outcome ≡ Placed → words (FirstOf (suc k)) ≡ tree_word entry.first_parent entry.first_cost

-- no word changes but the point and the tree word of node n
abbrev pub ChangesNode : ℕ → Words → Words → Type 0
ChangesNode n = ChangesOnly (IsKnotWord (λ node. node ≡ n))

-- the word of the record of mark k, and of a placed one the first word of its node
abbrev pub IsWholeRecord : ℕ → Record → Word → Type 0
IsWholeRecord k entry (RecordOf mark) = mark ≡ k
IsWholeRecord k entry (FirstOf node) = (node ≡ suc k) × (entry.outcome ≡ Placed)
IsWholeRecord k entry _ = ⊥

-- no word changes but these
abbrev pub ChangesRecord : ℕ → Record → Words → Words → Type 0
ChangesRecord k entry = ChangesOnly (IsWholeRecord k entry)

-- node n is one of the list
abbrev pub HasKnot : List (Option Knot) → ℕ → Type 0
HasKnot knots n = (knot : Knot) × IsKnot knots n knot

-- the nodes below number m are written, and nothing else changed
pub record WritesNodes (knots : List (Option Knot)) (m : ℕ) (before after : Words) : Type 0 where
  pub hold : (n : ℕ) (knot : Knot) → n < m → IsKnot knots n knot → HoldsNode after n knot
  pub others : ChangesOnly (IsKnotWord (HasKnot knots)) before after

-- the words of the records below mark m
abbrev pub IsWordOfRecords : List Record → ℕ → Word → Type 0
IsWordOfRecords records m (RecordOf mark) = mark < m
IsWordOfRecords records m (FirstOf (suc k)) = (k < m) × (entry : Record) × (slice_get records k ≡ Some entry) × (entry.outcome ≡ Placed)
IsWordOfRecords records m _ = ⊥

-- the records below mark m are written, and nothing else changed
pub record WritesRecords (records : List Record) (m : ℕ) (before after : Words) : Type 0 where
  pub hold : (k : ℕ) (entry : Record) → k < m → slice_get records k ≡ Some entry → HoldsRecord after k entry
  pub others : ChangesOnly (IsWordOfRecords records m) before after

-- the marks below m are counted in the counters of their strips, and nothing else changed
pub record CountsMarks (sizes : Sizes) (m : ℕ) (before after : Words) : Type 0 where
  pub counted : (g : ℕ) → g < sizes.strips → after (Counter g) ≡ before (Counter g) + quota_of sizes.strips g m
  pub others : ChangesOnly IsCounter before after

-- The words hold these nodes and records, their count, and the counters of the strips.
pub record HoldLists (sizes : Sizes) (knots : List (Option Knot)) (records : List Record) (words : Words) : Type 0 where
  pub count : words Count ≡ node_count (points_of (without_costs knots))
  pub counters : (g : ℕ) → g < sizes.strips → words (Counter g) ≡ quota_of sizes.strips g (length records)
  pub start : words (FirstOf 0) ≡ tree_word 0 0
  pub nodes : (n : ℕ) (knot : Knot) → IsKnot knots n knot → HoldsNode words n knot
  pub entries : (k : ℕ) (entry : Record) → slice_get records k ≡ Some entry → HoldsRecord words k entry
  pub none_else : (k : ℕ) → length records ≤ k → words (RecordOf k) ≡ 0
  pub no_knot : (n : ℕ) → ¬ HasKnot knots n → (words (PointOf n) ≡ 0) × (words (TreeOf n) ≡ 0)
  pub no_first : (k : ℕ) → ((entry : Record) → slice_get records k ≡ Some entry → ¬ (entry.outcome ≡ Placed)) → words (FirstOf (suc k)) ≡ 0

-- ---- The best word that workers on a run begin with.
-- The word is the least pair of kept cost and number of the goal nodes of a tree, or says that there is none.
pub record IsLeastBest (goals : List Goal) (state : TreeState) (word : ℕ) : Type 0 where
  pub pair : word ≢ no_best → IsGoalNode goals state.points (best_node_in word) × (state.cost (best_node_in word) ≡ best_cost_in word)
  pub least : (n : ℕ) → IsGoalNode goals state.points n → word ≤ best_word (state.cost n) n

-- ---- What the words of a closed run keep has one proof at most, so a run keeps it as it is.
pub HoldRun-prop : (task : Task) (limit : ℕ) (words : Words) → IsProp (HoldRun task limit words)
HoldRun-prop task limit words = hlevel (props, IsClosed-prop, FollowWays-prop)

-- so has what is said of the best word that a run begins with,
pub IsLeastBest-prop : (goals : List Goal) (state : TreeState) (word : ℕ) → IsProp (IsLeastBest goals state word)
IsLeastBest-prop goals state word = hlevel props

-- and so have equal sizes
pub Sizes-set : (one other : Sizes) → IsProp (one ≡ other)
Sizes-set one other = hlevel props
