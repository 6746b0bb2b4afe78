-- What a worker has seen of its own nodes before each of its turns: how many there are, and what those in a goal cost at first.
use Rattle.std.specs.Prelude.{◌≡◌, ℕ, zero, suc, ◌<◌, ◌≤◌, ◌==◌, ◌&&◌, nat_lt, Bool, true, false, Option, Some, None, List, length, count_by, slice_get}
use Rattle.std.specs.Prelude.{slice_index_or}
use Rattle.report_judge.specs.Terms.{Goal, IsGoalNode, OwnTurns, Record, Seen, Standing, TreeState, first_cost_of, is_placed, range_with_len}

-- ---- turns of a worker
-- the record is of turn t of this worker
pub record IsTurnOf (own t : ℕ) (entry : Record) : Type 0 where
  pub worker : entry.worker ≡ own
  pub turn : entry.turn ≡ t

-- the mark that the worker handled in this turn, or that there is none
abbrev pub IsMarkOfTurn : List Record → ℕ → ℕ → Option ℕ → Type 0
IsMarkOfTurn records worker turn None = (k : ℕ) (entry : Record) → slice_get records k ≡ Some entry → ¬ IsTurnOf worker turn entry
IsMarkOfTurn records worker turn (Some mark) = (entry : Record) × (slice_get records mark ≡ Some entry) × IsTurnOf worker turn entry

-- the marks of the worker by its turns
abbrev pub AreMarksByTurn : List Record → ℕ → List (Option ℕ) → Type 0
AreMarksByTurn records worker order = (turn : ℕ) → turn < length order → IsMarkOfTurn records worker turn (slice_index_or order turn None)

-- the same of what is kept of a worker
abbrev pub AreTurnsOf : List Record → OwnTurns → Type 0
AreTurnsOf records turns = AreMarksByTurn records turns.worker turns.marks.items

-- no two marks have the same turn of the same worker
abbrev pub HaveOwnTurns : List Record → Type 0
HaveOwnTurns records = (j k : ℕ) (one other : Record) → slice_get records j ≡ Some one → slice_get records k ≡ Some other
    → one.worker ≡ other.worker → one.turn ≡ other.turn → j ≡ k

-- ---- nodes before a turn
-- the record is of a mark that the worker placed before this turn
abbrev pub places_before : ℕ → ℕ → Option Record → Bool
places_before worker turn None = false
places_before worker turn (Some other) = is_placed other.outcome && (other.worker == worker && nat_lt other.turn turn)

-- node n is the start, or one that the worker placed before this turn
abbrev pub is_before : ℕ → ℕ → (ℕ → Option Record) → ℕ → Bool
is_before worker turn record_of zero = true
is_before worker turn record_of (suc k) = places_before worker turn (record_of k)

-- how many nodes the worker had before this turn, the start among them
abbrev pub count_before : TreeState → ℕ → ℕ → ℕ
count_before state worker turn = count_by (is_before worker turn state.record_of) (range_with_len 0 (length state.points))

-- the least first cost of the goal nodes before this turn
pub record IsLeastGoalCost (goals : List Goal) (state : TreeState) (worker turn cost : ℕ) : Type 0 where
  pub node : ℕ
  pub before : is_before worker turn state.record_of node ≡ true
  pub goal : IsGoalNode goals state.points node
  pub reached : first_cost_of state node ≡ cost
  pub least : (i : ℕ) → is_before worker turn state.record_of i ≡ true → IsGoalNode goals state.points i → cost ≤ first_cost_of state i

-- the same, if there is such a node
abbrev pub IsLeastIfAny : List Goal → TreeState → ℕ → ℕ → Option ℕ → Type 0
IsLeastIfAny goals state worker turn None = (i : ℕ) → is_before worker turn state.record_of i ≡ true → ¬ IsGoalNode goals state.points i
IsLeastIfAny goals state worker turn (Some cost) = IsLeastGoalCost goals state worker turn cost

-- What the worker had of its own nodes before this turn.
pub record AreSeen (goals : List Goal) (state : TreeState) (worker turn : ℕ) (seen : Seen) : Type 0 where
  pub counted : seen.nodes ≡ count_before state worker turn
  pub least : IsLeastIfAny goals state worker turn seen.least

-- ---- What the nodes of a worker cost, in the order in which it placed them.
-- the number of turns up to that of a record, and with it; 0 where there is none
abbrev pub turns_to : Option Record → ℕ
turns_to None = 0
turns_to (Some entry) = suc entry.turn

-- the place of a node among those of its worker: of the start 0, of another one the number of turns up to that in which it was placed
abbrev pub place_of : (ℕ → Option Record) → ℕ → ℕ
place_of record_of zero = 0
place_of record_of (suc k) = turns_to (record_of k)

-- what stands for the standing at a place past the end (definitions ask it of places below the length alone)
abbrev pub no_standing : Standing
no_standing = record { node = 0; first_cost = 0; cost = 0 }

-- the standing at a place
abbrev pub standing_at : List Standing → ℕ → Standing
standing_at standings place = slice_index_or standings place no_standing

-- what node n cost when it was placed, and what it costs now
abbrev pub standing_of : TreeState → ℕ → Standing
standing_of state n = record { node = n; first_cost = first_cost_of state n; cost = state.cost n }

-- At the place of each node of the worker that stood before a turn is its standing.
pub record AreStandings (state : TreeState) (worker turn : ℕ) (standings : List Standing) : Type 0 where
  pub long : turn < length standings
  pub each : (n : ℕ) → is_before worker turn state.record_of n ≡ true → standing_at standings (place_of state.record_of n) ≡ standing_of state n
