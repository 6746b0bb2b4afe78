-- A rational point is the same with whichever denominator it is written.
use Rattle.plan_model.proofs.Words.{◌≡◌, ℕ, suc, ◌+◌, ◌*◌, ◌<◌, ◌≤◌, List, arith, sym, ap, ℤ, pos, negsuc, ◌+ℤ◌, ◌-ℤ◌, ◌*ℤ◌, ◌≤ℤ◌, le_of_mul-le-mul_left, ints}
use Rattle.plan_model.proofs.Words.{mul-le, All-weaker, Vertex, Point, ConfigurationSpace, Rational, IsSamePoint, scaled, moved_by, IsBetweenWalls, InRoom}
use Rattle.plan_model.proofs.Words.{weighted, IsWithin, Meets, IsClear}
use borrow.Author.Differences.{up, down, sum_is_lem, product_is}

-- ---- numbers
-- x / m and z / n are one number
abbrev IsSame : ℤ → ℕ → ℤ → ℕ → Type 0
IsSame x m z n = x *ℤ pos n ≡ z *ℤ pos m

-- and stay one if both are moved by the whole number c
moved_same : (x z c : ℤ) (m n : ℕ) → IsSame x m z n → IsSame (x +ℤ (pos m *ℤ c)) m (z +ℤ (pos n *ℤ c)) n
moved_same x z c m n h =
    let left = ap (λ t. t * n) (sum_is_lem x (pos m *ℤ c)) in
    let right = ap (λ t. t * m) (sum_is_lem z (pos n *ℤ c)) in
    let m_up = ap (λ t. t * n) (product_is (pos m) c).0 in
    let m_down = ap (λ t. t * n) (product_is (pos m) c).1 in
    let n_up = ap (λ t. t * m) (product_is (pos n) c).0 in
    let n_down = ap (λ t. t * m) (product_is (pos n) c).1 in
    omega (arith, ints)

scaled_same : (k m : ℕ) (x : ℤ) → IsSame x m (pos k *ℤ x) (k * m)
scaled_same k m x =
    let higher = ap (λ t. t * m) (product_is (pos k) x).0 in
    let lower = ap (λ t. t * m) (product_is (pos k) x).1 in
    omega (arith, ints)

-- a number between 0 and the side
record IsOnSide (x : ℤ) (m side : ℕ) : Type 0 where
  low : pos 0 ≤ℤ x
  high : x ≤ℤ pos (m * side)

below_side : (x z m n side : ℕ) → 0 < m → x * n ≡ z * m → x ≤ m * side → z ≤ n * side
below_side x z m n side some h below =
    le_of_mul-le-mul_left {k = m} (omega (arith, mul-le x n (m * side) n below (omega arith))) some

on_side : (x z : ℤ) (m n side : ℕ) → 0 < m → 0 < n → IsSame x m z n → IsOnSide x m side → IsOnSide z n side
on_side (pos x) (pos z) m n side p q h own =
    let high = own.high in
    let below : z ≤ n * side = below_side x z m n side p (omega (arith, ints)) (omega (arith, ints)) in
    record { low = omega (arith, ints); high = omega (arith, ints) }
on_side (pos x) (negsuc z) m n side p q h own = absurd (omega (arith, ints, mul-le 1 1 (suc z) m (omega arith) p))
on_side (negsuc x) z m n side p q h own = let low = own.low in absurd (omega (arith, ints))

-- ---- points
pub IsSamePoint-sym : (q r : Rational) → IsSamePoint q r → IsSamePoint r q
IsSamePoint-sym q r h = record { horizontal = sym h.horizontal; vertical = sym h.vertical }

pub IsSamePoint-scaled : (k : ℕ) (some : 0 < k) (q : Rational) → IsSamePoint q (scaled k some q)
IsSamePoint-scaled k some q = record { horizontal = scaled_same k q.over q.x; vertical = scaled_same k q.over q.y }

IsSamePoint-moved : (q r : Rational) (corner : Vertex) → IsSamePoint q r → IsSamePoint (moved_by q corner) (moved_by r corner)
IsSamePoint-moved q r corner h = record {
  horizontal = moved_same q.x r.x corner.x q.over r.over h.horizontal;
  vertical = moved_same q.y r.y corner.y q.over r.over h.vertical;
}

IsBetweenWalls-same : (room : Point) (q r : Rational) → IsSamePoint q r → IsBetweenWalls room q → IsBetweenWalls room r
IsBetweenWalls-same room q r h own =
    let x = on_side q.x r.x q.over r.over room.x q.positive r.positive h.horizontal (record { low = own.left; high = own.right }) in
    let y = on_side q.y r.y q.over r.over room.y q.positive r.positive h.vertical (record { low = own.bottom; high = own.top }) in
    record { left = x.low; right = x.high; bottom = y.low; top = y.high }

pub InRoom-same : (space : ConfigurationSpace) (q r : Rational) → IsSamePoint q r → InRoom space q → InRoom space r
InRoom-same space q r h own =
    let P : Vertex → Type 0 = λ corner. IsBetweenWalls space.room (moved_by q corner) in
    let Q : Vertex → Type 0 = λ corner. IsBetweenWalls space.room (moved_by r corner) in
    let step : (corner : Vertex) → P corner → Q corner =
    λ corner. IsBetweenWalls-same space.room (moved_by q corner) (moved_by r corner) (IsSamePoint-moved q r corner h) in
    record { here = IsBetweenWalls-same space.room q r h own.here; corners = All-weaker P Q step space.body own.corners }

-- if m parts of w are at most t parts of x and t parts of m times c more, and x / m is z / n, then so it is with n and z
crossed_up : (m n t c : ℕ) (w x z : ℤ) → 0 < m → IsSame x m z n → (pos m *ℤ w) ≤ℤ ((pos t *ℤ x) +ℤ pos (c * m * t))
    → (pos n *ℤ w) ≤ℤ ((pos t *ℤ z) +ℤ pos (c * n * t))
crossed_up m n t c w x z some same h =
    let parts : m * up w + t * down x ≤ m * down w + t * up x + c * m * t = omega (arith, ints) in
    let cross : up x * n + down z * m ≡ down x * n + up z * m = omega (arith, ints) in
    let whole : m * (n * up w + t * down z) ≤ m * (n * down w + t * up z + c * n * t) =
    omega (arith, mul-le n _ n _ (omega arith) parts, ap (λ a. t * a) cross) in
    let e : n * up w + t * down z ≤ n * down w + t * up z + c * n * t = le_of_mul-le-mul_left whole some in
    omega (arith, ints)

-- and with less
crossed_down : (m n t c : ℕ) (w x z : ℤ) → 0 < m → IsSame x m z n → ((pos t *ℤ x) -ℤ pos (c * m * t)) ≤ℤ (pos m *ℤ w)
    → ((pos t *ℤ z) -ℤ pos (c * n * t)) ≤ℤ (pos n *ℤ w)
crossed_down m n t c w x z some same h =
    let parts : m * down w + t * up x ≤ m * up w + t * down x + c * m * t = omega (arith, ints) in
    let cross : up x * n + down z * m ≡ down x * n + up z * m = omega (arith, ints) in
    let whole : m * (n * down w + t * up z) ≤ m * (n * up w + t * down z + c * n * t) =
    omega (arith, mul-le n _ n _ (omega arith) parts, ap (λ a. t * a) cross) in
    let e : n * down w + t * up z ≤ n * up w + t * down z + c * n * t = le_of_mul-le-mul_left whole some in
    omega (arith, ints)

crossed : (m n t c : ℕ) (w x z : ℤ) → 0 < m → IsSame x m z n → IsWithin (c * m * t) (pos m *ℤ w) (pos t *ℤ x) → IsWithin (c * n * t) (pos n *ℤ w) (pos t *ℤ z)
crossed m n t c w x z some same h =
    record { lowest = crossed_down m n t c w x z some same h.lowest; highest = crossed_up m n t c w x z some same h.highest }

pub Meets-same : (clearance : ℕ) (body obstacle : List Vertex) (q r : Rational) → IsSamePoint q r → Meets clearance body q obstacle
    → Meets clearance body r obstacle
Meets-same clearance body obstacle q r h m =
    let x : ℤ = weighted (λ v. v.x) m.on_obstacle obstacle -ℤ weighted (λ v. v.x) m.on_body body in
    let y : ℤ = weighted (λ v. v.y) m.on_obstacle obstacle -ℤ weighted (λ v. v.y) m.on_body body in
    record {
      total = m.total;
      on_obstacle = m.on_obstacle;
      on_body = m.on_body;
      some_weight = m.some_weight;
      obstacle_corners = m.obstacle_corners;
      body_corners = m.body_corners;
      obstacle_total = m.obstacle_total;
      body_total = m.body_total;
      horizontal = crossed q.over r.over m.total clearance x q.x r.x q.positive h.horizontal m.horizontal;
      vertical = crossed q.over r.over m.total clearance y q.y r.y q.positive h.vertical m.vertical;
    }

pub IsClear-same : (space : ConfigurationSpace) (q r : Rational) → IsSamePoint q r → IsClear space q → IsClear space r
IsClear-same space q r h own =
    let P : List Vertex → Type 0 = λ obstacle. ¬ Meets space.clearance space.body q obstacle in
    let Q : List Vertex → Type 0 = λ obstacle. ¬ Meets space.clearance space.body r obstacle in
    let step : (obstacle : List Vertex) → P obstacle → Q obstacle =
    λ obstacle apart m. apart (Meets-same space.clearance space.body obstacle r q (IsSamePoint-sym q r h) m) in
    record {
      in_room = InRoom-same space q r h own.in_room;
      meets_none = All-weaker P Q step space.obstacles own.meets_none;
    }
