-- Routes: from the start over points of marks, one link after another; and which links a textbook run follows.
use Rattle.std.specs.Prelude.{ℕ, suc, ◌*◌, ◌<◌, ◌≤◌, Option, List, [], ◌∷◌, length, map, ◌≡◌, ◌&&◌, Bool, false, ◌++◌, ◌⊎◌, Some, ◌+◌, ℤ, pos, ◌+ℤ◌, ◌-ℤ◌}
use Rattle.std.specs.Prelude.{◌≤ℤ◌, unsigned_abs, All, sum}
use Rattle.route_laws.specs.Terms.{Clear, ClearAt, Goal, IsBestNode, IsClear, IsEarlier, IsGoalNode, IsNeighbour, Placed, Point, Rational, Record, Same}
use Rattle.route_laws.specs.Terms.{Scene, Setup, StandsAt, TreeState, Vertex, goals_of, has_outcome, is_same, length_of_path, mark_at, path_line, path_to}
use Rattle.route_laws.specs.Terms.{point_of, radius_of, report_text, squared_distance, sum_in, weighted}

-- ---- routes and links
-- numbers that rise, none below the first one allowed, and all below the limit
abbrev pub Rise : ℕ → ℕ → List ℕ → Type 0
Rise first limit [] = Unit {0}
Rise first limit (k ∷ numbers) = (first ≤ k) × (k < limit) × Rise (suc k) limit numbers

-- each link of the way from a over these points is such a one
abbrev pub AreLinks : (Point → Point → Type 0) → Point → List Point → Type 0
AreLinks IsLink a [] = Unit {0}
AreLinks IsLink a (b ∷ points) = IsLink a b × AreLinks IsLink b points

-- The route from the start over the marks with these numbers: they rise, and each of its links is such a one.
pub record IsRoute (setup : Setup) (marks : List Point) (IsLink : Point → Point → Type 0) (numbers : List ℕ) : Type 0 where
  pub rise : Rise 0 (length marks) numbers
  pub links : AreLinks IsLink setup.start (map (mark_at marks) numbers)

-- The link from a to b is open: it is at most a step long, and from every clear lattice point that is no farther from b than a is, the
-- segment to b is clear.
pub record IsOpenLink (setup : Setup) (a b : Point) : Type 0 where
  pub short : squared_distance a b ≤ setup.step * setup.step
  pub clear : (p : Point) → ClearAt setup.space p → squared_distance p b ≤ squared_distance a b → Clear setup.space p b

-- ---- what a run makes of them
-- A node stands at the point of mark k, by the time that this mark has been handled: none that marks give later has so low a number.
abbrev pub IsReached : List Point → List (Option Point) → ℕ → Type 0
IsReached marks points k = (n : ℕ) × (n ≤ suc k) × StandsAt points n (mark_at marks k)

-- some node lies in a goal
abbrev pub HasGoalNode : List Goal → List (Option Point) → Type 0
HasGoalNode goals points = (n : ℕ) × IsGoalNode goals points n

-- ---- Routes that cost no less than the best path of a textbook run: what a route costs, how long its links may be, and how its marks end.
-- the points of the route over the marks with these numbers
abbrev pub route_points : Setup → List Point → List ℕ → List Point
route_points setup marks numbers = setup.start ∷ map (mark_at marks) numbers

-- what the route costs: its edges, added up
abbrev pub cost_of_route : Setup → List Point → List ℕ → ℕ
cost_of_route setup marks numbers = length_of_path (route_points setup marks numbers)

-- where a way from a over these points ends
abbrev pub end_of : Point → List Point → Point
end_of a [] = a
end_of a (b ∷ points) = end_of b points

-- the radius at as many nodes as there can be: no radius of the run is less
abbrev pub least_radius : Setup → List Point → ℕ
least_radius setup marks = radius_of setup.step setup.gamma (suc (length marks))

-- The link from a to b is open, and no longer than the least radius.
pub record IsNearLink (setup : Setup) (marks : List Point) (a b : Point) : Type 0 where
  pub open_link : IsOpenLink setup a b
  pub near : squared_distance a b ≤ least_radius setup marks * least_radius setup marks

-- mark k ended where a node stood already
abbrev pub ends_same : (ℕ → Option Record) → ℕ → Bool
ends_same record_of k = has_outcome is_same (record_of k)

-- no two of these marks that follow each other ended so
abbrev pub EndApart : (ℕ → Option Record) → List ℕ → Type 0
EndApart record_of [] = Unit {0}
EndApart record_of (k ∷ []) = Unit {0}
EndApart record_of (k ∷ l ∷ numbers) = ((ends_same record_of k && ends_same record_of l) ≡ false) × EndApart record_of (l ∷ numbers)

-- ---- Reports that show a path: they begin with the line of the path to the best node.
-- the report of the tree begins with the line of the path to its best node, and has no line that there is none
pub record ShowsPath (full : Bool) (scene : Scene) (limit : ℕ) (state : TreeState) : Type 0 where
  pub node : ℕ
  pub best : IsBestNode (goals_of scene) state node
  pub rest : List ℕ
  pub begins : report_text full scene limit state ≡ path_line (path_to state node) (sum_in state node) ++ rest

-- ---- Routes in runs of several workers: one worker handles their marks, each after the node at which the one before it ended.
-- mark k ended at node n: it gave this node, or the node stood there
pub record EndsAtNode (state : TreeState) (k n : ℕ) : Type 0 where
  pub entry : Record
  pub recorded : state.record_of k ≡ Some entry
  pub ended : ((n ≡ suc k) × (entry.outcome ≡ Placed)) ⊎ (entry.outcome ≡ Same n)

-- node n is the start, or the worker that handled mark k had placed it in an earlier turn
pub record IsHandledAfter (state : TreeState) (n k : ℕ) : Type 0 where
  pub entry : Record
  pub recorded : state.record_of k ≡ Some entry
  pub earlier : IsEarlier state entry n

-- The first of these marks was handled after node n, and each later one after the node at which the one before it ended.
abbrev pub AreHandledInTurn : TreeState → ℕ → List ℕ → Type 0
AreHandledInTurn state n [] = Unit {0}
AreHandledInTurn state n (k ∷ []) = IsHandledAfter state n k
AreHandledInTurn state n (k ∷ l ∷ numbers) = IsHandledAfter state n k × ((m : ℕ) × EndsAtNode state k m × AreHandledInTurn state m (l ∷ numbers))

-- some node stands at p
abbrev pub HasNodeAt : List (Option Point) → Point → Type 0
HasNodeAt points p = (n : ℕ) × StandsAt points n p

-- ---- Links that can be seen to be open: the disc around their end is clear, or the body there keeps farther from all obstacles and walls.
-- ---- discs
-- how far a coordinate x / over is from b, times over
abbrev pub gap_from : ℕ → ℤ → ℕ → ℕ
gap_from over x b = unsigned_abs (x -ℤ pos (over * b))

-- q lies in the closed disc around b on whose rim a lies
abbrev pub IsInDisc : Point → Point → Rational → Type 0
IsInDisc a b q = gap_from q.over q.x b.x * gap_from q.over q.x b.x + gap_from q.over q.y b.y * gap_from q.over q.y b.y
    ≤ (q.over * q.over) * squared_distance a b

-- The link from a to b is at most a step long, and each rational point that is no farther from b than a is, is clear.
pub record HasClearDisc (setup : Setup) (a b : Point) : Type 0 where
  pub short : squared_distance a b ≤ setup.step * setup.step
  pub clear : (q : Rational) → IsInDisc a b q → IsClear setup.space q

-- ---- distances of the body
-- a point of the obstacle less a point of the body: corners under weights of the same total
abbrev pub obstacle_less_body : List ℕ → List Vertex → List ℕ → List Vertex → (total : ℕ) → 0 < total → Rational
obstacle_less_body on_obstacle obstacle on_body body total positive = record {
  x = weighted (λ v. v.x) on_obstacle obstacle -ℤ weighted (λ v. v.x) on_body body;
  y = weighted (λ v. v.y) on_obstacle obstacle -ℤ weighted (λ v. v.y) on_body body;
  over = total;
  positive = positive;
}

-- Each point of the obstacle is farther from each point of the body, placed at b, than a is from b.
abbrev pub IsFartherFrom : List Vertex → Point → Point → List Vertex → Type 0
IsFartherFrom body a b obstacle =
    (total : ℕ) (on_obstacle on_body : List ℕ) (positive : 0 < total) → length on_obstacle ≡ length obstacle → length on_body ≡ length body
    → sum on_obstacle ≡ total → sum on_body ≡ total
    → ¬ IsInDisc a b (obstacle_less_body on_obstacle obstacle on_body body total positive)

-- b moved by a corner keeps so many lattice steps from each wall
pub record KeepsFromWalls (room b : Point) (steps : ℕ) (corner : Vertex) : Type 0 where
  pub left : pos steps ≤ℤ (pos b.x +ℤ corner.x)
  pub right : ((pos b.x +ℤ corner.x) +ℤ pos steps) ≤ℤ pos room.x
  pub bottom : pos steps ≤ℤ (pos b.y +ℤ corner.y)
  pub top : ((pos b.y +ℤ corner.y) +ℤ pos steps) ≤ℤ pos room.y

-- The link from a to b is at most a step long, there is no clearance, b and the body placed at it are farther from each obstacle than a is
-- from b, and they keep at least as many lattice steps from each wall.
pub record KeepsBodyFar (setup : Setup) (a b : Point) : Type 0 where
  pub short : squared_distance a b ≤ setup.step * setup.step
  pub no_clearance : setup.space.clearance ≡ 0
  pub steps : ℕ
  pub reach : squared_distance a b ≤ steps * steps
  pub origin : KeepsFromWalls setup.space.room b steps (record { x = pos 0; y = pos 0 })
  pub corners : All (KeepsFromWalls setup.space.room b steps) setup.space.body
  pub obstacles : All (IsFartherFrom setup.space.body a b) setup.space.obstacles

-- ---- Chains in order: nodes from the start, each placed by one worker after the node before it, and so near to it that RRT* looked at both.
-- The link from node i to node n is in order: n was placed, and i, which is the start or was placed by the same worker in an earlier turn,
-- stands within the radius of the class in the record of n, with a clear edge.
pub record IsLinkInOrder (setup : Setup) (state : TreeState) (i n : ℕ) : Type 0 where
  pub mark : ℕ
  pub number : n ≡ suc mark
  pub entry : Record
  pub recorded : state.record_of mark ≡ Some entry
  pub placed : entry.outcome ≡ Placed
  pub neighbour : IsNeighbour setup state entry entry.class (point_of state.points n) i

-- The nodes are a chain in order, listed from the last one back to the start, as the chain of a node is.
abbrev pub IsChainInOrder : Setup → TreeState → List ℕ → Type 0
IsChainInOrder setup state [] = ⊥
IsChainInOrder setup state (n ∷ []) = n ≡ 0
IsChainInOrder setup state (n ∷ i ∷ earlier) = IsLinkInOrder setup state i n × IsChainInOrder setup state (i ∷ earlier)

-- A chain that ends with node n: the nodes before it are in order, and the last link is in order in one of its two directions.
abbrev pub IsChain : Setup → TreeState → ℕ → List ℕ → Type 0
IsChain setup state n [] = n ≡ 0
IsChain setup state n (i ∷ earlier) = (IsLinkInOrder setup state i n ⊎ IsLinkInOrder setup state n i) × IsChainInOrder setup state (i ∷ earlier)

-- the edge costs along a chain, added up
abbrev pub cost_of_chain : TreeState → List ℕ → ℕ
cost_of_chain state nodes = length_of_path (map (point_of state.points) nodes)
