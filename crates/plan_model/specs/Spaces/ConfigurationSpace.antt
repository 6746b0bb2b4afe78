-- How configuration spaces are made: of a scene, and of a room, a body and obstacles alone.
use Rattle.std.specs.Prelude.{◌≡◌, ℕ, ◌*◌, ◌<◌, ℤ, pos, ◌+ℤ◌, ◌*ℤ◌, ◌≤ℤ◌, All, ◌≤◌, [], ◌∷◌}
use Rattle.plan_model.specs.Terms.{ConfigurationSpace, List, Point, Vertex, le_refl, mul-pos}
use Rattle.plan_model.specs.declared.scenes.Scene.{Scene}

-- ---- The room of configurations: where the body lies in the room, touching its walls or not.
-- the rational point (x / over, y / over)
pub record Rational : Type 0 where
  pub x : ℤ
  pub y : ℤ
  pub over : ℕ
  pub positive : 0 < over

-- a lattice point
abbrev pub at_lattice : Point → Rational
at_lattice p = record { x = pos p.x; y = pos p.y; over = 1; positive = le_refl 1 }

-- one point, written with two denominators
pub record IsSamePoint (q r : Rational) : Type 0 where
  pub horizontal : q.x *ℤ pos r.over ≡ r.x *ℤ pos q.over
  pub vertical : q.y *ℤ pos r.over ≡ r.y *ℤ pos q.over

-- the point with k times its denominator
abbrev pub scaled : (k : ℕ) → 0 < k → Rational → Rational
scaled k positive q = record { x = pos k *ℤ q.x; y = pos k *ℤ q.y; over = k * q.over; positive = mul-pos positive q.positive }

-- the point moved by a corner of the body
abbrev pub moved_by : Rational → Vertex → Rational
moved_by q corner = record { x = q.x +ℤ (pos q.over *ℤ corner.x); y = q.y +ℤ (pos q.over *ℤ corner.y); over = q.over; positive = q.positive }

-- a point whose coordinates lie between 0 and the room's sides
pub record IsBetweenWalls (room : Point) (q : Rational) : Type 0 where
  pub left : pos 0 ≤ℤ q.x
  pub right : q.x ≤ℤ pos (q.over * room.x)
  pub bottom : pos 0 ≤ℤ q.y
  pub top : q.y ≤ℤ pos (q.over * room.y)

-- The room of configurations: the point itself, and each corner of the body moved by it, lie in the room.
pub record InRoom (space : ConfigurationSpace) (q : Rational) : Type 0 where
  pub here : IsBetweenWalls space.room q
  pub corners : All (λ corner. IsBetweenWalls space.room (moved_by q corner)) space.body

-- ---- configuration space
-- the configuration space of a body, by its corners, in a room among obstacles, without a clearance
abbrev pub space_among : Point → List Vertex → List (List Vertex) → ConfigurationSpace
space_among room body obstacles = record { room = room; body = body; obstacles = obstacles; clearance = 0 }

-- the configuration space of a scene
abbrev pub space_of : Scene → ConfigurationSpace
space_of scene = record { room = scene.room; body = scene.body; obstacles = scene.obstacles; clearance = scene.clearance }

-- ---- Rooms with a point body and no obstacle, and points that lie in a room.
-- the configuration space of a body that is a point, in a room without obstacles
abbrev pub empty_room : Point → ConfigurationSpace
empty_room room = space_among room (record { x = pos 0; y = pos 0 } ∷ []) []

-- the point lies between the origin and the room's upper right corner
pub record IsInRoom (room p : Point) : Type 0 where
  pub horizontal : p.x ≤ room.x
  pub vertical : p.y ≤ room.y
