-- The nodes of a worker, as numbered points: the start, and those that it placed.
use Rattle.std.specs.Prelude.{◌≡◌, ℕ, suc, ◌<◌, ◌⊎◌, ◌+◌, ◌≤◌, ◌^◌, IsTrue, true, ⊤, All, Contains, Option, Some, None, List, slice_get, length}
use Rattle.report_judge.specs.Terms.{Clear, ConfigurationSpace, IsBounded, IsEarlier, IsGoalNode, IsNotAbove, IsPresent, Knot, NearerSearch, NeighbourSearch}
use Rattle.report_judge.specs.Terms.{Numbered, Point, Reached, ReachesLawfully, Record, Setup, Standing, StandsAt, Steered, TreeState, cost_of, distance_to}
use Rattle.report_judge.specs.Terms.{ending_of, first_cost_of, first_cost_through, is_placed, is_within, numbered_at, point_at, point_of, squared_distance}
use Rattle.report_judge.specs.Terms.{state_of_lists}
use Rattle.report_judge.specs.Workers.SeenNodes.{is_before, place_of, standing_at}

-- The numbered point is a node of the worker that stood before a turn, numbered by its place.
pub record IsNodeBefore (state : TreeState) (worker turn : ℕ) (m : Numbered) : Type 0 where
  pub node : ℕ
  pub before : is_before worker turn state.record_of node ≡ true
  pub place : place_of state.record_of node ≡ m.number
  pub stands : StandsAt state.points node m.point

-- The list has the nodes of the worker that stood before a turn, each numbered by its place.
pub record AreNodesBefore (state : TreeState) (worker turn : ℕ) (nodes : List Numbered) : Type 0 where
  pub stand : All (IsNodeBefore state worker turn) nodes
  pub each : (n : ℕ) (p : Point) → is_before worker turn state.record_of n ≡ true → StandsAt state.points n p
      → Contains nodes (record { point = p; number = place_of state.record_of n })

-- mark k was placed, and its node stands at p
pub record IsPlacedMarkAt (knots : List (Option Knot)) (records : List Record) (k : ℕ) (p : Point) : Type 0 where
  pub entry : Record
  pub at : slice_get records k ≡ Some entry
  pub placed : is_placed entry.outcome ≡ true
  pub stands : StandsAt (state_of_lists knots records).points (suc k) p
  pub bounded : IsBounded p

-- where the node of a mark stands, if there is a mark that was placed, and its node is present
abbrev pub IsPlacedAt : List (Option Knot) → List Record → Option ℕ → Option Point → Type 0
IsPlacedAt knots records None None = ⊤
IsPlacedAt knots records None (Some p) = ⊥
IsPlacedAt knots records (Some k) None = (p : Point) → ¬ IsPlacedMarkAt knots records k p
IsPlacedAt knots records (Some k) (Some p) = IsPlacedMarkAt knots records k p

-- a node is present for each mark that was placed, and so is the start
abbrev pub ArePresent : TreeState → Type 0
ArePresent state = (entry : Record) (n : ℕ) → IsEarlier state entry n → IsPresent state.points n

-- ---- searches by places
-- one of the positions from one up to another has such a point
pub record HasOne (Such : Numbered → Type 0) (nodes : List Numbered) (from to : ℕ) : Type 0 where
  pub position : ℕ
  pub past : from ≤ position
  pub before : position < to
  pub such : Such (numbered_at nodes position)

-- none has
abbrev pub HasNo : (Numbered → Type 0) → List Numbered → ℕ → ℕ → Type 0
HasNo Such nodes from to = (j : ℕ) → from ≤ j → j < to → ¬ Such (numbered_at nodes j)

-- The node at this place stood before the turn of a search, and is nearer to its point than its distance, or as near with a lesser number.
pub record IsNearerAt (standings : List Standing) (search : NearerSearch) (m : Numbered) : Type 0 where
  pub earlier : m.number ≤ search.turn
  pub nearer : (squared_distance m.point search.point < search.distance)
      ⊎ ((squared_distance m.point search.point ≡ search.distance) × ((standing_at standings m.number).node < search.number))

-- The node at this place stood before the turn of a search, within its radius, and by its costs was a cheaper parent of the new node, or
-- is dearer than by way of that.
pub record IsCheaperAt (standings : List Standing) (search : NeighbourSearch) (m : Numbered) : Type 0 where
  pub earlier : m.number ≤ search.nearer.turn
  pub within : squared_distance m.point search.nearer.point ≤ search.square
  pub cheaper : ((standing_at standings m.number).first_cost + cost_of m.point search.nearer.point < search.first_cost)
      ⊎ (search.first_cost + cost_of m.point search.nearer.point < (standing_at standings m.number).cost)

-- The same of a node with a clear segment to the new node: the choice of the parent or the rewiring passed it over.
pub record IsPassedOverAt (space : ConfigurationSpace) (standings : List Standing) (search : NeighbourSearch) (m : Numbered) : Type 0 where
  pub cheaper : IsCheaperAt standings search m
  pub clear : Clear space m.point search.nearer.point

-- the node at this place is nearer, or was passed over
abbrev pub IsUnlawfulAt : ConfigurationSpace → List Standing → NeighbourSearch → Numbered → Type 0
IsUnlawfulAt space standings search m = IsNearerAt standings search.nearer m ⊎ IsPassedOverAt space standings search m

-- ---- the same by nodes
-- no earlier node is nearer to a mark than the nearest of its record
abbrev pub IsNearestOfEarlier : TreeState → Record → Point → Type 0
IsNearestOfEarlier state entry mark = (i : ℕ) → IsEarlier state entry i → IsNotAbove (distance_to mark state.points) entry.nearest i

-- a node that stood already stands at p
pub record IsTaken (state : TreeState) (entry : Record) (p : Point) : Type 0 where
  pub node : ℕ
  pub earlier : IsEarlier state entry node
  pub stands : StandsAt state.points node p

-- Node i was no cheaper parent of a new node at p, and is no dearer than by way of that.
pub record IsKeptNear (state : TreeState) (entry : Record) (p : Point) (i : ℕ) : Type 0 where
  pub chosen : entry.first_cost ≤ first_cost_through state p i
  pub rewired : state.cost i ≤ entry.first_cost + cost_of (point_of state.points i) p

-- so is each earlier node within a radius of p, with a clear segment to it
abbrev pub KeepsNear : ConfigurationSpace → TreeState → Record → Point → ℕ → Type 0
KeepsNear space state entry p radius = (i : ℕ) → IsEarlier state entry i → IsTrue (is_within p radius (point_at state.points i))
    → Clear space (point_of state.points i) p → IsKeptNear state entry p i

-- each first cost fits 44 bits
abbrev pub FitFirstCosts : List Record → Type 0
FitFirstCosts records = (k : ℕ) (entry : Record) → slice_get records k ≡ Some entry → entry.first_cost < 2 ^ 44

-- ---- What the record of a mark says once it is known to which point the mark was steered.
-- each goal node that stood already was placed at more than a bound
abbrev pub AreDearer : Setup → TreeState → Record → ℕ → Type 0
AreDearer setup state entry bound = (i : ℕ) → IsEarlier state entry i → IsGoalNode setup.goals state.points i → bound < first_cost_of state i

-- The nearest node of mark k steered to p, and what was reached there is what its record says.
pub record IsReachedLawfully (setup : Setup) (state : TreeState) (k : ℕ) (entry : Record) (p : Point) : Type 0 where
  pub reached : Reached
  pub ending : ending_of entry ≡ Steered entry.nearest reached
  pub lawful : ReachesLawfully setup state k entry entry.nearest reached p

-- a cost is at most that of the way to p by a node that is present, as it was placed
pub record IsWithinFirst (state : TreeState) (cost node : ℕ) (p : Point) : Type 0 where
  pub present : IsPresent state.points node
  pub within : cost ≤ first_cost_through state p node

-- ---- The marks of a worker between two of its turns, and the first of them that breaks a law.
-- mark k was handled by the worker in a turn from one up to another, and without that
pub record IsMarkBetween (records : List Record) (own from to k : ℕ) : Type 0 where
  pub entry : Record
  pub at : slice_get records k ≡ Some entry
  pub worker : entry.worker ≡ own
  pub past : from ≤ entry.turn
  pub before : entry.turn < to

-- a number stands in a list of numbered points
pub record HasNumber (marks : List Numbered) (k : ℕ) : Type 0 where
  pub position : ℕ
  pub inside : position < length marks
  pub number : (numbered_at marks position).number ≡ k

-- The list has the marks that the worker handled in the turns from one up to another, and no others.
pub record AreMarksBetween (records : List Record) (worker from to : ℕ) (marks : List Numbered) : Type 0 where
  pub each : (k : ℕ) → IsMarkBetween records worker from to k → HasNumber marks k
  pub only : All (λ m. IsMarkBetween records worker from to m.number) marks

-- A number of a list that breaks a law, while each lesser one at the first positions keeps it; none if each at these positions keeps it.
abbrev pub IsFirstSeen : (ℕ → Type 0) → List Numbered → ℕ → Option ℕ → Type 0
IsFirstSeen Keeps marks limit None = (j : ℕ) → j < limit → Keeps (numbered_at marks j).number
IsFirstSeen Keeps marks limit (Some k) =
    HasNumber marks k × ((j : ℕ) → j < limit → (numbered_at marks j).number < k → Keeps (numbered_at marks j).number) × ¬ Keeps k
