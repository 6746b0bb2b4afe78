-- Where the body, placed at the end of a link, keeps farther than the link from all obstacles and walls, the disc of the link is clear:
-- the body at a point of the disc that shares a point with an obstacle has moved as far as the two were apart.
use Rattle.route_laws.proofs.Words.{◌≡◌, ℕ, suc, ◌+◌, ◌*◌, ◌<◌, ◌≤◌, List, arith, sym, ap, ◌∙◌, subst, ℤ, pos, negsuc, ◌+ℤ◌, ◌-ℤ◌, ◌*ℤ◌, ◌≤ℤ◌, unsigned_abs}
use Rattle.route_laws.proofs.Words.{le_of_mul-le-mul_left, ints, unsigned_abs-mul, All-weaker, mul-le, HasClearDisc, IsFartherFrom, IsInDisc, KeepsBodyFar}
use Rattle.route_laws.proofs.Words.{KeepsFromWalls, gap_from, obstacle_less_body}
use Rattle.route_laws.proofs.Common.{Point, Vertex, squared_distance, Setup, IsClear, Meets, IsBetweenWalls, IsSamePoint, Rational, moved_by, SharesPoint-meets}
use Rattle.route_laws.proofs.Common.{minus, same, times, var, lt-from_squares}

-- ---- one point, written with two denominators

-- x / m and z / n are one number: its difference from b, over m * n
differences : (x z : ℤ) (m n b : ℕ) → x *ℤ pos n ≡ z *ℤ pos m → (x -ℤ pos (m * b)) *ℤ pos n ≡ (z -ℤ pos (n * b)) *ℤ pos m
differences x z m n b h =
    same (times (minus (var x) (var (pos (m * b)))) (var (pos n))) (times (minus (var z) (var (pos (n * b)))) (var (pos m)))
    (omega (arith, ints, h))

gaps : (x z : ℤ) (m n b : ℕ) → x *ℤ pos n ≡ z *ℤ pos m → gap_from m x b * n ≡ gap_from n z b * m
gaps x z m n b h =
    sym (unsigned_abs-mul (x -ℤ pos (m * b)) (pos n)) ∙ ap unsigned_abs (differences x z m n b h) ∙ unsigned_abs-mul (z -ℤ pos (n * b)) (pos m)

same_disc :
    (m n u v x y whole : ℕ) → 0 < m → u * n ≡ x * m → v * n ≡ y * m → u * u + v * v ≤ (m * m) * whole → x * x + y * y ≤ (n * n) * whole
same_disc m n u v x y whole some across up h =
    let squares : (m * m) * (x * x + y * y) ≤ (m * m) * ((n * n) * whole) =
    omega (arith, ap (λ t. t * t) across, ap (λ t. t * t) up, mul-le (n * n) (u * u + v * v) (n * n) ((m * m) * whole) (omega arith) h) in
    le_of_mul-le-mul_left {k = m * m} squares (omega (arith, mul-le 1 1 m m some some))

-- it is in a disc whichever way it is written
IsInDisc-same : (a b : Point) (q r : Rational) → IsSamePoint q r → IsInDisc a b q → IsInDisc a b r
IsInDisc-same a b q r one h =
    same_disc q.over r.over (gap_from q.over q.x b.x) (gap_from q.over q.y b.y) (gap_from r.over r.x b.x) (gap_from r.over r.y b.y)
    (squared_distance a b) q.positive (gaps q.x r.x q.over r.over b.x one.horizontal) (gaps q.y r.y q.over r.over b.y one.vertical) h

-- ---- obstacles

-- the body at a point of the disc meets no obstacle that is farther away
meets_none : (body : List Vertex) (a b : Point) (q : Rational) → IsInDisc a b q → (obstacle : List Vertex) → IsFartherFrom body a b obstacle
    → ¬ Meets 0 body q obstacle
meets_none body a b q h obstacle far meets =
    let s = SharesPoint-meets body obstacle q meets in
    let one : IsSamePoint q (obstacle_less_body s.on_obstacle obstacle s.on_body body s.total s.some_weight) =
    record { horizontal = omega (arith, ints, s.horizontal); vertical = omega (arith, ints, s.vertical) } in
    far s.total s.on_obstacle s.on_body s.some_weight s.obstacle_corners s.body_corners s.obstacle_total s.body_total (IsInDisc-same a b q _ one h)

-- ---- walls

-- a coordinate whose gap from b is at most so many steps, moved by a corner that keeps so many steps from the walls
pub record IsOnSide (x : ℤ) (m side : ℕ) : Type 0 where
  pub low : pos 0 ≤ℤ x
  pub high : x ≤ℤ pos (m * side)

moved : (x : ℤ) (m b steps side : ℕ) (corner : ℤ) → gap_from m x b ≤ m * steps → pos steps ≤ℤ (pos b +ℤ corner) → ((pos b +ℤ corner) +ℤ pos steps) ≤ℤ pos side
    → IsOnSide (x +ℤ (pos m *ℤ corner)) m side
moved x m b steps side (pos c) h low high =
    let above = mul-le m steps m (b + c) (omega arith) (omega (arith, ints)) in
    let below = mul-le m (b + c + steps) m side (omega arith) (omega (arith, ints)) in
    record { low = omega (arith, ints); high = omega (arith, ints) }
moved x m b steps side (negsuc c) h low high =
    let above = mul-le m (steps + suc c) m b (omega arith) (omega (arith, ints)) in
    let below = mul-le m (b + steps) m (side + suc c) (omega arith) (omega (arith, ints)) in
    record { low = omega (arith, ints); high = omega (arith, ints) }

-- a gap in the disc is at most the steps
gap_within : (m u v whole steps : ℕ) → whole ≤ steps * steps → u * u + v * v ≤ (m * m) * whole → u ≤ m * steps
gap_within m u v whole steps reach h =
    let more : u < suc (m * steps) =
    lt-from_squares u (suc (m * steps)) ((m * steps) * (m * steps)) (omega (arith, mul-le (m * m) whole (m * m) (steps * steps) (omega arith) reach))
    (omega arith) in
    omega (arith, more)

module _ (room a b : Point) (steps : ℕ) (reach : squared_distance a b ≤ steps * steps) (q : Rational) (h : IsInDisc a b q) where
  IsBetweenWalls-moved : (corner : Vertex) → KeepsFromWalls room b steps corner → IsBetweenWalls room (moved_by q corner)
  IsBetweenWalls-moved corner keeps =
      let u : ℕ = gap_from q.over q.x b.x in
      let v : ℕ = gap_from q.over q.y b.y in
      let x = moved q.x q.over b.x steps room.x corner.x (gap_within q.over u v (squared_distance a b) steps reach h) keeps.left keeps.right in
      let y = moved q.y q.over b.y steps room.y corner.y (gap_within q.over v u (squared_distance a b) steps reach (omega (arith, h))) keeps.bottom keeps.top in
      record { left = x.low; right = x.high; bottom = y.low; top = y.high }

-- a point moved by nothing
IsBetweenWalls-origin : (room : Point) (q : Rational) → IsBetweenWalls room (moved_by q (record { x = pos 0; y = pos 0 })) → IsBetweenWalls room q
IsBetweenWalls-origin room q h = record {
  left = omega (arith, ints, h.left);
  right = omega (arith, ints, h.right);
  bottom = omega (arith, ints, h.bottom);
  top = omega (arith, ints, h.top);
}

-- ---- both

pub HasClearDisc-far : (setup : Setup) (a b : Point) → KeepsBodyFar setup a b → HasClearDisc setup a b
HasClearDisc-far setup a b far = record { short = far.short; clear = clear }
  where
    clear : (q : Rational) → IsInDisc a b q → IsClear setup.space q
    clear q h =
        let inside = IsBetweenWalls-moved setup.space.room a b far.steps far.reach q h in
        record {
          in_room = record {
            here = IsBetweenWalls-origin setup.space.room q (inside (record { x = pos 0; y = pos 0 }) far.origin);
            corners = All-weaker (KeepsFromWalls setup.space.room b far.steps) (λ corner. IsBetweenWalls setup.space.room (moved_by q corner)) inside
                setup.space.body far.corners;
          };
          meets_none = All-weaker (IsFartherFrom setup.space.body a b) (λ obstacle. ¬ Meets setup.space.clearance setup.space.body q obstacle)
              (λ obstacle apart meets.
              meets_none setup.space.body a b q h obstacle apart (subst (λ c. Meets c setup.space.body q obstacle) far.no_clearance meets))
              setup.space.obstacles far.obstacles;
        }
