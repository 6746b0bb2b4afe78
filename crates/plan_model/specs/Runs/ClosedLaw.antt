-- The closed law: what a run has when no mark is being handled. Each mark below its limit has one record, and each record is lawful.
use Rattle.std.specs.Prelude.{◌≢◌, ℕ, zero, suc, ◌+◌, ◌==◌, ◌<◌, ◌≤◌, nat_lt, ◌&&◌, Bool, true, false, IsTrue, Option, Some, None, length, filter, ◌≡◌}
use Rattle.std.specs.Prelude.{IsSome, is_some, List, count_by, slice_index_or}
use Rattle.plan_model.specs.Terms.{MOST_WORKERS, Outcome, Point, range_with_len}
use Rattle.plan_model.specs.declared.records.Record.{Record}
use Rattle.plan_model.specs.Spaces.Clearance.{Clear}
use Rattle.plan_model.specs.Geometry.Lengths.{cost_of, class_of, radius_of_class, steered}
use Rattle.plan_model.specs.Trees.BestNode.{IsGoalNode}
use Rattle.plan_model.specs.Trees.Nearness.{IsNotAbove, distance_to, is_within}
use Rattle.plan_model.specs.Trees.NodeLists.{cost_through_by, StandsAt, IsPresent, point_at, point_of, node_count}
use Rattle.plan_model.specs.Trees.TreeStates.{TreeState, first_cost_of}
use Rattle.plan_model.specs.Runs.Outcomes.{is_placed}
use Rattle.plan_model.specs.Runs.Endings.{FirstHanging, Reached, NewNode, SameNode, NoWay, Ending, Steered, SkippedBy, ending_of}
use Rattle.plan_model.specs.Runs.OrderLaw.{Hangs, most_cost_of, KeepsOrder, AreTurns}
use Rattle.plan_model.specs.Runs.Textbook.{Setup, mark_bound}

-- ---- The record law: what the record of a mark says is borne out by the tree, whoever handled the mark and whatever others did meanwhile.
-- ---- the nodes that the same worker placed earlier
-- a record of a placed mark that the same worker handled in an earlier turn
abbrev pub is_earlier_record : Record → Option Record → Bool
is_earlier_record entry None = false
is_earlier_record entry (Some other) = is_placed other.outcome && (other.worker == entry.worker && nat_lt other.turn entry.turn)

-- node n stood already when the worker of this record handled its mark, by its own records: the start, or a node that it placed
abbrev pub is_earlier : TreeState → Record → ℕ → Bool
is_earlier state entry zero = true
is_earlier state entry (suc k) = is_earlier_record entry (state.record_of k)

-- the same as a proposition
abbrev pub IsEarlier : TreeState → Record → ℕ → Type 0
IsEarlier state entry n = IsTrue (is_earlier state entry n)

-- how many nodes stood already, by the worker's own records
abbrev pub earlier_count : TreeState → Record → ℕ
earlier_count state entry = length (filter (is_earlier state entry) (range_with_len 0 (length state.points)))

-- ---- placed marks
-- Node i is a neighbour of a new node at p: an earlier node within the radius of its class, with a clear edge.
pub record IsNeighbour (setup : Setup) (state : TreeState) (entry : Record) (class : ℕ) (p : Point) (i : ℕ) : Type 0 where
  pub earlier : IsEarlier state entry i
  pub near : IsTrue (is_within p (radius_of_class setup.step setup.gamma class) (point_at state.points i))
  pub clear : Clear setup.space (point_of state.points i) p

-- the cost of reaching p by way of node i, by the cost that node i was placed at
abbrev pub first_cost_through : TreeState → Point → ℕ → ℕ
first_cost_through state p i = cost_through_by (first_cost_of state) state.points p i

-- The class is that of a number of nodes between the earlier nodes and so many nodes.
pub record HasClass (state : TreeState) (entry : Record) (class nodes : ℕ) : Type 0 where
  pub low : class_of (earlier_count state entry) ≤ class
  pub high : class ≤ class_of nodes

-- What the worker knows of a node that it placed at p, by its nearest node m, where there were so many nodes: the segment is clear, no
-- neighbour was a cheaper parent, and none stays dearer than by way of the new node.
pub record IsChosenLawfully (setup : Setup) (state : TreeState) (entry : Record) (m : ℕ) (first : FirstHanging) (p : Point) (nodes : ℕ) : Type 0 where
  pub clear : Clear setup.space (point_of state.points m) p
  pub of_class : HasClass state entry first.class nodes
  pub chosen : (i : ℕ) → IsNeighbour setup state entry first.class p i → first.cost ≤ first_cost_through state p i
  pub rewired : (i : ℕ) → IsNeighbour setup state entry first.class p i → state.cost i ≤ first.cost + cost_of (point_of state.points i) p

-- What the tree knows of the node of mark k: it stands at p, and may hang below its first parent at its first cost. That is at most
-- what this parent, and what the nearest node m, was placed at and the edge, and the node costs no more now.
pub record HangsLawfully (setup : Setup) (state : TreeState) (k m : ℕ) (first : FirstHanging) (p : Point) : Type 0 where
  pub stands : StandsAt state.points (suc k) p
  pub hangs : Hangs setup state (suc k) p first.parent first.cost
  pub nearest_other : m ≢ suc k
  pub below_first : first.cost ≤ first_cost_through state p first.parent
  pub below_nearest : first.cost ≤ first_cost_through state p m
  pub bounded : first.cost ≤ most_cost_of setup (node_count state.points)
  pub kept : state.cost (suc k) ≤ first.cost

-- mark k was placed at p, by its nearest node m
pub record IsPlacedLawfully (setup : Setup) (state : TreeState) (k : ℕ) (entry : Record) (m : ℕ) (first : FirstHanging) (p : Point) : Type 0 where
  pub by_worker : IsChosenLawfully setup state entry m first p (node_count state.points)
  pub by_tree : HangsLawfully setup state k m first p

-- ---- the law
-- the segment to p from the nearest node m is not clear, and no earlier node stands at p
pub record IsBlockedLawfully (setup : Setup) (state : TreeState) (entry : Record) (m : ℕ) (p : Point) : Type 0 where
  pub blocked : ¬ Clear setup.space (point_of state.points m) p
  pub free : (i : ℕ) → IsEarlier state entry i → ¬ StandsAt state.points i p

-- what is said of the point to which the nearest node m of mark k steers, by what was reached there
abbrev pub ReachesLawfully : Setup → TreeState → ℕ → Record → ℕ → Reached → Point → Type 0
ReachesLawfully setup state k entry m (NewNode first) p = IsPlacedLawfully setup state k entry m first p
ReachesLawfully setup state k entry m (SameNode j) p = StandsAt state.points j p
ReachesLawfully setup state k entry m NoWay p = IsBlockedLawfully setup state entry m p

-- A path over the mark may be cheaper than each goal node was at first that stood already. The nearest node m is present, no earlier node is
-- nearer to the mark, and what was reached at the point to which it steers is what it says.
pub record IsSteeredLawfully (setup : Setup) (state : TreeState) (k : ℕ) (mark : Point) (entry : Record) (m : ℕ) (reached : Reached) : Type 0 where
  pub cheaper : (i : ℕ) → IsEarlier state entry i → IsGoalNode setup.goals state.points i → mark_bound setup mark < first_cost_of state i
  pub present : IsPresent state.points m
  pub nearest : (i : ℕ) → IsEarlier state entry i → IsNotAbove (distance_to mark state.points) m i
  pub outcome : ReachesLawfully setup state k entry m reached (steered (point_of state.points m) mark setup.step)

-- Node g lies in a goal by which marks are skipped, and costs no more than the bound of the mark.
pub record IsSkippedLawfully (setup : Setup) (state : TreeState) (mark : Point) (g : ℕ) : Type 0 where
  pub goal : IsGoalNode setup.goals state.points g
  pub within : state.cost g ≤ mark_bound setup mark

-- what is said of mark k, by what became of it
abbrev pub HasLawfulEnding : Setup → TreeState → ℕ → Point → Record → Ending → Type 0
HasLawfulEnding setup state k mark entry (Steered nearest reached) = IsSteeredLawfully setup state k mark entry nearest reached
HasLawfulEnding setup state k mark entry (SkippedBy goal_node) = IsSkippedLawfully setup state mark goal_node

-- The record of mark k: it ended as the record says.
abbrev pub IsLawfulRecord : Setup → TreeState → ℕ → Point → Record → Type 0
IsLawfulRecord setup state k mark entry = HasLawfulEnding setup state k mark entry (ending_of entry)

-- ---- closed law
-- the point of mark k (asked only of marks below the limit)
abbrev pub mark_at : List Point → ℕ → Point
mark_at marks k = slice_index_or marks k (record { x = 0; y = 0 })

-- exactly the marks below the limit have a record
pub record AreRecordedBelow (limit : ℕ) (record_of : ℕ → Option Record) : Type 0 where
  pub recorded : (k : ℕ) → k < limit → IsSome (record_of k)
  pub none_else : (k : ℕ) → limit ≤ k → record_of k ≡ None

-- whether a mark has a record with an outcome that passes the test
abbrev pub has_outcome : (Outcome → Bool) → Option Record → Bool
has_outcome test None = false
has_outcome test (Some entry) = test entry.outcome

-- node k + 1 is present exactly if mark k was placed
abbrev pub ArePlacedMarks : TreeState → Type 0
ArePlacedMarks state = (k : ℕ) → is_some (point_at state.points (suc k)) ≡ has_outcome is_placed (state.record_of k)

-- A run over these marks that was closed at this limit.
pub record IsClosed (setup : Setup) (marks : List Point) (limit : ℕ) (state : TreeState) : Type 0 where
  pub order : KeepsOrder setup state
  pub within : limit ≤ length marks
  pub records : AreRecordedBelow limit state.record_of
  pub workers : (k : ℕ) (entry : Record) → state.record_of k ≡ Some entry → entry.worker < MOST_WORKERS
  pub turns : AreTurns limit state.record_of
  pub lawful : (k : ℕ) (entry : Record) → state.record_of k ≡ Some entry → IsLawfulRecord setup state k (mark_at marks k) entry
  pub placed : ArePlacedMarks state

-- how many marks below the limit have an outcome that passes the test
abbrev pub outcome_count : (ℕ → Option Record) → ℕ → (Outcome → Bool) → ℕ
outcome_count record_of limit test = count_by (λ k. has_outcome test (record_of k)) (range_with_len 0 limit)
