-- The first number that breaks a law.
use Rattle.report_judge.specs.Terms.{Clear, ConfigurationSpace, FallAlong, IsBounded, IsPresent, IsSettled, Knot, Point, Record, Setup, [], cost_of, is_placed}
use Rattle.report_judge.specs.Terms.{point_at, squared_distance, state_of_lists, turns_of}
use Rattle.std.specs.Prelude.{◌≡◌, ◌≢◌, ℕ, ◌+◌, ◌^◌, ◌<◌, ◌≤◌, Option, Some, None, List, slice_index_or, suc, ◌*◌, min, is_some, length, slice_get}
use Rattle.report_judge.specs.Texts.ReportLines.{Tally}
use Rattle.report_judge.specs.Texts.ReportSheets.{PricedPath, head_lines}
use Rattle.report_judge.specs.Laws.SheetLaws.{HasOwnTurn, KeepsNodeLaw}

-- ---- Trees that are lists of nodes with their costs.
-- each node costs what the edges on its way from the start do, and costs fall along parents
pub record IsSettledList (knots : List (Option Knot)) : Type 0 where
  pub fall : FallAlong (state_of_lists knots []).cost (state_of_lists knots []).points (state_of_lists knots []).parent
  pub settled : IsSettled (state_of_lists knots [])

-- ---- Edges of a tree in which each node costs exactly what its parent does and the edge.
-- The edge is clear and no longer than a step whose square this is, and the second node costs exactly what the first does and the edge.
pub record IsExactEdge (space : ConfigurationSpace) (squared_step : ℕ) (from to : Knot) : Type 0 where
  pub clear : Clear space from.point to.point
  pub short : squared_distance from.point to.point ≤ squared_step
  pub exact : to.cost ≡ from.cost + cost_of from.point to.point

-- the distances from a node and the costs through it may be taken
pub record FitsEdges (knot : Knot) : Type 0 where
  pub point : IsBounded knot.point
  pub cost : knot.cost < 2 ^ 44

-- Node n hangs below another node of the list, by an exact edge.
pub record HangsExactly (space : ConfigurationSpace) (squared_step : ℕ) (knots : List (Option Knot)) (n : ℕ) (knot : Knot) : Type 0 where
  pub up : Knot
  pub there : slice_index_or knots knot.parent None ≡ Some up
  pub other : knot.parent ≢ n
  pub edge : IsExactEdge space squared_step up knot

-- node n, if it is there and is not the start, hangs exactly below its parent
abbrev pub KeepsEdges : ConfigurationSpace → ℕ → List (Option Knot) → ℕ → Type 0
KeepsEdges space squared_step knots n = 0 < n → (knot : Knot) → slice_index_or knots n None ≡ Some knot → HangsExactly space squared_step knots n knot

-- ---- first parents
-- The edge is clear and no longer than a step whose square this is, and the second node costs at least what the first does and the edge.
pub record IsHighEdge (space : ConfigurationSpace) (squared_step : ℕ) (from to : Knot) : Type 0 where
  pub clear : Clear space from.point to.point
  pub short : squared_distance from.point to.point ≤ squared_step
  pub above : from.cost + cost_of from.point to.point ≤ to.cost

-- Node n may hang where this one does, with its parent and at its cost: below another node of the list, by such an edge.
pub record MayHang (space : ConfigurationSpace) (squared_step : ℕ) (knots : List (Option Knot)) (n : ℕ) (place : Knot) : Type 0 where
  pub up : Knot
  pub there : slice_index_or knots place.parent None ≡ Some up
  pub other : place.parent ≢ n
  pub edge : IsHighEdge space squared_step up place

-- ---- first breaks
-- the first of the numbers below a limit that breaks a law; none if each of them keeps it
abbrev pub IsFirstBreak : (ℕ → Type 0) → ℕ → Option ℕ → Type 0
IsFirstBreak Keeps limit None = (k : ℕ) → k < limit → Keeps k
IsFirstBreak Keeps limit (Some k) = (k < limit) × ((j : ℕ) → j < k → Keeps j) × ¬ Keeps k

-- the lesser of two numbers, if there is any
abbrev pub earlier_of : Option ℕ → Option ℕ → Option ℕ
earlier_of None other = other
earlier_of (Some one) None = Some one
earlier_of (Some one) (Some other) = Some (min one other)

-- no earlier number of the list is the one at this place
abbrev pub IsNewKey : List ℕ → ℕ → Type 0
IsNewKey keys k = (j : ℕ) → j < k → slice_index_or keys j 0 ≢ slice_index_or keys k 0

-- ---- turns
-- the worker and the turn of a record fit into one number
pub record HasFewTurns (entry : Record) : Type 0 where
  pub worker : entry.worker < 64
  pub turn : entry.turn < 2 ^ 18

-- the worker and the turn of a record as one number
abbrev pub turn_key : Record → ℕ
turn_key entry = entry.worker * 262144 + entry.turn

-- the turn of mark k is below the number of its worker's marks
abbrev pub HasLowTurn : List Record → ℕ → Type 0
HasLowTurn records k = (entry : Record) → slice_get records k ≡ Some entry → entry.turn < turns_of (slice_get records) (length records) entry.worker

-- mark k has a turn of its own
abbrev pub KeepsTurn : List Record → ℕ → Type 0
KeepsTurn records k = (entry : Record) → slice_get records k ≡ Some entry → HasOwnTurn (length records) (slice_get records) k entry

-- ---- nodes, and which marks have one
-- Where a node stands, as one number; if there is none, a greater one that is its own.
abbrev pub point_key : ℕ → Option Knot → ℕ
point_key n None = 2 ^ 40 + n
point_key n (Some knot) = knot.point.x * 1048576 + knot.point.y

-- node n, if it is present, keeps the law of nodes
abbrev pub KeepsNode : Setup → List (Option Knot) → List Record → ℕ → Type 0
KeepsNode setup knots records n = IsPresent (state_of_lists knots records).points n → KeepsNodeLaw setup (state_of_lists knots records) n

-- mark k has a node exactly if it was placed
abbrev pub KeepsPresence : List (Option Knot) → List Record → ℕ → Type 0
KeepsPresence knots records k = (entry : Record) → slice_get records k ≡ Some entry
    → is_some (point_at (state_of_lists knots records).points (suc k)) ≡ is_placed entry.outcome

-- ---- the head
-- line i of the head is the one of the own head
abbrev pub KeepsHead : Option PricedPath → Tally → Option PricedPath → Tally → ℕ → Type 0
KeepsHead path tally own counts i = slice_get (head_lines path tally) i ≡ slice_get (head_lines own counts) i

-- point i of a path is the one of the own path
abbrev pub KeepsPoint : List Point → List Point → ℕ → Type 0
KeepsPoint points own i = slice_get points i ≡ slice_get own i
