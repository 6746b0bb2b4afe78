-- A body meets an obstacle without a clearance if the two share a point, and with a greater clearance if with a smaller one.
use Rattle.plan_model.proofs.Words.{◌≡◌, ℕ, ◌*◌, ◌≤◌, List, arith, ℤ, ints, mul-le, All-weaker, Vertex, ConfigurationSpace, Rational, IsWithin, Meets}
use Rattle.plan_model.proofs.Words.{SharesPoint, IsClear}

-- numbers no distance apart are equal
equal-within : (m n : ℕ) (a b : ℤ) → IsWithin (0 * m * n) a b → a ≡ b
equal-within m n a b h =
    let low = h.lowest in
    let high = h.highest in
    omega (arith, ints)

IsWithin-equal : (distance : ℕ) (a b : ℤ) → a ≡ b → IsWithin distance a b
IsWithin-equal distance a b e = record { lowest = omega (arith, ints); highest = omega (arith, ints) }

IsWithin-greater : (near far : ℕ) (a b : ℤ) → near ≤ far → IsWithin near a b → IsWithin far a b
IsWithin-greater near far a b l h =
    let low = h.lowest in
    let high = h.highest in
    record { lowest = omega (arith, ints); highest = omega (arith, ints) }

pub SharesPoint-meets : (body obstacle : List Vertex) (q : Rational) → Meets 0 body q obstacle → SharesPoint body q obstacle
SharesPoint-meets body obstacle q m = record {
  total = m.total;
  on_obstacle = m.on_obstacle;
  on_body = m.on_body;
  some_weight = m.some_weight;
  obstacle_corners = m.obstacle_corners;
  body_corners = m.body_corners;
  obstacle_total = m.obstacle_total;
  body_total = m.body_total;
  horizontal = equal-within q.over m.total _ _ m.horizontal;
  vertical = equal-within q.over m.total _ _ m.vertical;
}

pub Meets-shares_point : (clearance : ℕ) (body obstacle : List Vertex) (q : Rational) → SharesPoint body q obstacle → Meets clearance body q obstacle
Meets-shares_point clearance body obstacle q s = record {
  total = s.total;
  on_obstacle = s.on_obstacle;
  on_body = s.on_body;
  some_weight = s.some_weight;
  obstacle_corners = s.obstacle_corners;
  body_corners = s.body_corners;
  obstacle_total = s.obstacle_total;
  body_total = s.body_total;
  horizontal = IsWithin-equal (clearance * q.over * s.total) _ _ s.horizontal;
  vertical = IsWithin-equal (clearance * q.over * s.total) _ _ s.vertical;
}

pub Meets-greater : (near far : ℕ) (body obstacle : List Vertex) (q : Rational) → near ≤ far → Meets near body q obstacle → Meets far body q obstacle
Meets-greater near far body obstacle q l m =
    let farther : near * q.over * m.total ≤ far * q.over * m.total =
    mul-le (near * q.over) m.total (far * q.over) m.total (mul-le near q.over far q.over l (omega arith)) (omega arith) in
    record {
      total = m.total;
      on_obstacle = m.on_obstacle;
      on_body = m.on_body;
      some_weight = m.some_weight;
      obstacle_corners = m.obstacle_corners;
      body_corners = m.body_corners;
      obstacle_total = m.obstacle_total;
      body_total = m.body_total;
      horizontal = IsWithin-greater (near * q.over * m.total) (far * q.over * m.total) _ _ farther m.horizontal;
      vertical = IsWithin-greater (near * q.over * m.total) (far * q.over * m.total) _ _ farther m.vertical;
    }

pub IsClear-smaller : (space : ConfigurationSpace) (smaller : ℕ) (q : Rational) → smaller ≤ space.clearance → IsClear space q
    → IsClear (record space { clearance = smaller }) q
IsClear-smaller space smaller q l h =
    let P : List Vertex → Type 0 = λ obstacle. ¬ Meets space.clearance space.body q obstacle in
    let Q : List Vertex → Type 0 = λ obstacle. ¬ Meets smaller space.body q obstacle in
    let step : (obstacle : List Vertex) → P obstacle → Q obstacle =
    λ obstacle apart m. apart (Meets-greater smaller space.clearance space.body obstacle q l m) in
    let room = h.in_room in
    record { in_room = record { here = room.here; corners = room.corners }; meets_none = All-weaker P Q step space.obstacles h.meets_none }
