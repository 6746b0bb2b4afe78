-- A point body is clear in an empty room, and any body is clear only at points of its room.
use Rattle.plan_model.proofs.Words.{ℕ, ◌+◌, ◌-◌, ◌*◌, ◌≤◌, arith, List, [], ℤ, pos, ◌+ℤ◌, ◌-ℤ◌, ◌*ℤ◌, ◌≤ℤ◌, le_refl, ints, mul-le, All-cons, All-nil, Vertex}
use Rattle.plan_model.proofs.Words.{Point, ConfigurationSpace, Rational, moved_by, IsBetweenWalls, Meets, IsClear, ClearAt, on_the_way, Clear, empty_room}
use Rattle.plan_model.proofs.Words.{IsInRoom}
use Rattle.plan_model.proofs.SegmentLaws.{part_and_rest, way_is}

-- a coordinate on the way lies between 0 and the side
record IsOnSide (side d : ℕ) (z : ℤ) : Type 0 where
  pub low : pos 0 ≤ℤ z
  pub high : z ≤ℤ pos (d * side)

way_on_side : (s d a b w : ℕ) → s ≤ d → a ≤ w → b ≤ w → IsOnSide w d ((pos d *ℤ pos a) +ℤ (pos s *ℤ (pos b -ℤ pos a)))
way_on_side s d a b w h p q =
    let way = way_is s d a b h in
    let parts = mul-le (d - s) a (d - s) w (omega arith) p in
    let below : (d - s) * a + s * b ≤ d * w = omega (arith, parts, mul-le s b s w (omega arith) q, part_and_rest s d w h) in
    record { low = omega (arith, ints); high = omega (arith, ints) }

-- the only corner of a point body moves nothing
pub corner_in_box : (room : Point) (q : Rational) → IsBetweenWalls room q → IsBetweenWalls room (moved_by q (record { x = pos 0; y = pos 0 }))
corner_in_box room q h = record {
  left = omega (arith, ints, h.left);
  right = omega (arith, ints, h.right);
  bottom = omega (arith, ints, h.bottom);
  top = omega (arith, ints, h.top);
}

-- in an empty room a point within the box of the room is clear
IsClear-from_box : (room : Point) (q : Rational) → IsBetweenWalls room q → IsClear (empty_room room) q
IsClear-from_box room q h =
    let P : Vertex → Type 0 = λ corner. IsBetweenWalls room (moved_by q corner) in
    let Q : List Vertex → Type 0 = λ obstacle. ¬ Meets 0 (empty_room room).body q obstacle in
    record {
      in_room = record { here = h; corners = All-cons P _ [] (corner_in_box room q h) (All-nil P) };
      meets_none = All-nil Q;
    }

-- if the body is clear at a point, the point is in the room
pub IsInRoom-from_clear_at : (space : ConfigurationSpace) (p : Point) → ClearAt space p → IsInRoom space.room p
IsInRoom-from_clear_at space p h =
    let x = h.in_room.here.right in
    let y = h.in_room.here.top in
    record { horizontal = omega (arith, ints); vertical = omega (arith, ints) }

-- a segment between two points of an empty room is clear
pub Clear-empty_room : (room a b : Point) → IsInRoom room a → IsInRoom room b → Clear (empty_room room) a b
Clear-empty_room room a b f g = λ s d positive h.
    let x = way_on_side s d a.x b.x room.x h f.horizontal g.horizontal in
    let y = way_on_side s d a.y b.y room.y h f.vertical g.vertical in
    IsClear-from_box room (on_the_way a b s d positive) (record { left = x.low; right = x.high; bottom = y.low; top = y.high })

-- both ends of a segment are in the room
pub record AreInRoom (room a b : Point) : Type 0 where
  pub first : IsInRoom room a
  pub last : IsInRoom room b

-- if a segment is clear, both ends are in the room
pub AreInRoom-from_clear : (space : ConfigurationSpace) (a b : Point) → Clear space a b → AreInRoom space.room a b
AreInRoom-from_clear space a b h =
    let s = h 0 1 (le_refl 1) (omega arith) in
    let e = h 1 1 (le_refl 1) (omega arith) in
    let sx = s.in_room.here.right in
    let sy = s.in_room.here.top in
    let ex = e.in_room.here.right in
    let ey = e.in_room.here.top in
    record {
      first = record { horizontal = omega (arith, ints); vertical = omega (arith, ints) };
      last = record { horizontal = omega (arith, ints); vertical = omega (arith, ints) };
    }
