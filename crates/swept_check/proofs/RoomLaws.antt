-- The room of configurations is convex: a segment lies in it if its ends do.
use Rattle.swept_check.proofs.Words.{◌≡◌, ℕ, ◌*◌, ◌<◌, ◌≤◌, arith, ℤ, pos, ◌+ℤ◌, ◌-ℤ◌, ◌*ℤ◌, ◌≤ℤ◌, ints, Point, ConfigurationSpace, InRoom, at_lattice}
use Rattle.swept_check.proofs.Words.{on_the_way, IsInSpan, IsInSpans-from_in_room, InRoom-from_spans, RoomSpans, AreSpansOf, var, plus, minus, times, same}
use Rattle.swept_check.proofs.LinearValues.{IsAdmitted-inside}

-- the coordinate of a moved corner, at s / d of the way
moved_on_way : (a b c d s : ℤ) → (((d *ℤ a) +ℤ (s *ℤ (b -ℤ a))) +ℤ (d *ℤ c)) ≡ ((d *ℤ (a +ℤ c)) +ℤ (s *ℤ ((b +ℤ c) -ℤ (a +ℤ c))))
moved_on_way a b c d s =
    same (plus (plus (times (var d) (var a)) (times (var s) (minus (var b) (var a)))) (times (var d) (var c)))
    (plus (times (var d) (plus (var a) (var c))) (times (var s) (minus (plus (var b) (var c)) (plus (var a) (var c))))) (omega arith)

-- and how far it is from the side
rest_on_way : (a b c d s m : ℤ) → ((d *ℤ m) -ℤ (((d *ℤ a) +ℤ (s *ℤ (b -ℤ a))) +ℤ (d *ℤ c)))
    ≡ ((d *ℤ (m -ℤ (a +ℤ c))) +ℤ (s *ℤ ((m -ℤ (b +ℤ c)) -ℤ (m -ℤ (a +ℤ c)))))
rest_on_way a b c d s m =
    same (minus (times (var d) (var m)) (plus (plus (times (var d) (var a)) (times (var s) (minus (var b) (var a)))) (times (var d) (var c))))
    (plus (times (var d) (minus (var m) (plus (var a) (var c))))
    (times (var s) (minus (minus (var m) (plus (var b) (var c))) (minus (var m) (plus (var a) (var c)))))) (omega arith)

-- a number between 0 and a side
pub record IsOnSide (side x : ℤ) : Type 0 where
  pub low : pos 0 ≤ℤ x
  pub high : x ≤ℤ side

on_side : (a b c : ℤ) (m s d : ℕ) → s ≤ d → IsOnSide (pos m) (a +ℤ c) → IsOnSide (pos m) (b +ℤ c)
    → IsOnSide (pos (d * m)) (((pos d *ℤ a) +ℤ (pos s *ℤ (b -ℤ a))) +ℤ (pos d *ℤ c))
on_side a b c m s d l f g =
    let f_low = f.low in
    let g_low = g.low in
    let low = IsAdmitted-inside (a +ℤ c) (b +ℤ c) s d f_low g_low l in
    let high = IsAdmitted-inside (pos m -ℤ (a +ℤ c)) (pos m -ℤ (b +ℤ c)) s d (omega (arith, ints)) (omega (arith, ints)) l in
    let left = rw (← moved_on_way a b c (pos d) (pos s)) at low in
    let right = rw (← rest_on_way a b c (pos d) (pos s) (pos m)) at high in
    record { low = left; high = omega (arith, ints) }

-- the same, for corners of the lattice
on_side_lattice : (a b : ℕ) (c : ℤ) (m s d : ℕ) → s ≤ d → IsOnSide (pos (1 * m)) (pos a +ℤ (pos 1 *ℤ c)) → IsOnSide (pos (1 * m)) (pos b +ℤ (pos 1 *ℤ c))
    → IsOnSide (pos (d * m)) (((pos d *ℤ pos a) +ℤ (pos s *ℤ (pos b -ℤ pos a))) +ℤ (pos d *ℤ c))
on_side_lattice a b c m s d l f g =
    on_side (pos a) (pos b) c m s d l (record { low = omega (arith, ints); high = omega (arith, ints) })
    (record { low = omega (arith, ints); high = omega (arith, ints) })

-- without a corner
on_side_alone : (a b m s d : ℕ) → s ≤ d → IsOnSide (pos (1 * m)) (pos a) → IsOnSide (pos (1 * m)) (pos b)
    → IsOnSide (pos (d * m)) ((pos d *ℤ pos a) +ℤ (pos s *ℤ (pos b -ℤ pos a)))
on_side_alone a b m s d l f g =
    let all = on_side (pos a) (pos b) (pos 0) m s d l (record { low = omega (arith, ints); high = omega (arith, ints) })
    (record { low = omega (arith, ints); high = omega (arith, ints) }) in
    let low = all.low in
    let high = all.high in
    record { low = omega (arith, ints); high = omega (arith, ints) }

pub InRoom-on_the_way : (space : ConfigurationSpace) (a b : Point) (s d : ℕ) (p : 0 < d) → s ≤ d → InRoom space (at_lattice a) → InRoom space (at_lattice b)
    → InRoom space (on_the_way a b s d p)
InRoom-on_the_way space a b s d p l f g =
    let here = f.here in
    let there = g.here in
    let x = on_side_alone a.x b.x space.room.x s d l (record { low = here.left; high = here.right }) (record { low = there.left; high = there.right }) in
    let y = on_side_alone a.y b.y space.room.y s d l (record { low = here.bottom; high = here.top }) (record { low = there.bottom; high = there.top }) in
    record {
      here = record { left = x.low; right = x.high; bottom = y.low; top = y.high };
      corners = λ k v m. (
          let one = f.corners k v m in
          let two = g.corners k v m in
          let across = on_side_lattice a.x b.x _ space.room.x s d l (record { low = one.left; high = one.right })
          (record { low = two.left; high = two.right }) in
          let up = on_side_lattice a.y b.y _ space.room.y s d l (record { low = one.bottom; high = one.top })
          (record { low = two.bottom; high = two.top }) in
          record { left = across.low; right = across.high; bottom = up.low; top = up.high });
    }

-- the columns and rows say which lattice points are in the room
pub in_room_of_spans : (space : ConfigurationSpace) (spans : RoomSpans) (p : Point) → AreSpansOf space.room space.body spans
    → IsInSpan spans.columns p.x → IsInSpan spans.rows p.y → InRoom space (at_lattice p)
in_room_of_spans space spans p h f g =
    InRoom-from_spans space p (record { column = rw h.columns at f; row = rw h.rows at g })

pub columns_of_in_room : (space : ConfigurationSpace) (spans : RoomSpans) (p : Point) → AreSpansOf space.room space.body spans
    → InRoom space (at_lattice p) → IsInSpan spans.columns p.x
columns_of_in_room space spans p h room = rw h.columns (IsInSpans-from_in_room space p room).column

pub rows_of_in_room : (space : ConfigurationSpace) (spans : RoomSpans) (p : Point) → AreSpansOf space.room space.body spans
    → InRoom space (at_lattice p) → IsInSpan spans.rows p.y
rows_of_in_room space spans p h room = rw h.rows (IsInSpans-from_in_room space p room).row
