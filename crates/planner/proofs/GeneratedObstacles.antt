-- Squares and right triangles are strictly convex and counterclockwise.
use Rattle.planner.proofs.Words.{◌≡◌, ℕ, ◌+◌, ◌*◌, ◌/◌, ◌%◌, ◌<◌, ◌≤◌, Bool, true, false, IsTrue, List, length, map, refl, ◌∙◌, arith, pos, ◌<ℤ◌, int_lt}
use Rattle.planner.proofs.Words.{nat_le, ◌==◌, list_all, range_with_len, length-map-range_with_len, list_all-map, mod_below, div-add-mod', mul-pos, ints}
use Rattle.planner.proofs.Words.{and_from, Point, Vertex, orientation, is_strictly_convex, is_corner_between, is_obstacle, are_obstacles}
use Rattle.planner.proofs.Words.{LEAST_OBSTACLE_COORDINATE, MOST_OBSTACLE_COORDINATE, MOST_OBSTACLES, true_of_below, Read, var, minus, times, lattice_corner}
use Rattle.planner.proofs.Words.{square_at, triangle_at, place_in_cell, side_by, obstacle_by, generated_obstacle, generated_obstacles}

-- the area that a turn spans, as a difference
abbrev turn : (a b c : Vertex) → Read (orientation a b c)
turn a b c =
    minus (times (minus (var b.x) (var a.x)) (minus (var c.y) (var a.y))) (times (minus (var b.y) (var a.y)) (minus (var c.x) (var a.x)))

-- a left turn, by the area that it spans
turns_left : (a b c : Vertex) (area : ℕ) → 0 < area → (turn a b c).gain ≡ area + (turn a b c).loss → int_lt (pos 0) (orientation a b c) ≡ true
turns_left a b c area some e =
    let positive : pos 0 <ℤ orientation a b c = omega (arith, ints, e, (turn a b c).is) in grind (arith, ints)

convex_square : (at : Point) (side : ℕ) → 0 < side → is_strictly_convex (square_at at side) ≡ true
convex_square at side some =
    let a = lattice_corner at.x at.y in
    let b = lattice_corner (at.x + side) at.y in
    let c = lattice_corner (at.x + side) (at.y + side) in
    let d = lattice_corner at.x (at.y + side) in
    let area = side * side in
    let positive : 0 < area = mul-pos some some in
    rw (
      turns_left a b c area positive (omega arith),
      turns_left a b d area positive (omega arith),
      turns_left b c d area positive (omega arith),
      turns_left b c a area positive (omega arith),
      turns_left c d a area positive (omega arith),
      turns_left c d b area positive (omega arith),
      turns_left d a b area positive (omega arith),
      turns_left d a c area positive (omega arith),
    ) refl

convex_triangle : (at : Point) (side : ℕ) → 0 < side → is_strictly_convex (triangle_at at side) ≡ true
convex_triangle at side some =
    let a = lattice_corner at.x at.y in
    let b = lattice_corner (at.x + side) at.y in
    let c = lattice_corner at.x (at.y + side) in
    let area = side * side in
    let positive : 0 < area = mul-pos some some in
    rw (
      turns_left a b c area positive (omega arith),
      turns_left b c a area positive (omega arith),
      turns_left c a b area positive (omega arith),
    ) refl

-- the obstacle has a side, and ends within the room
record IsPlaced (at : Point) (side : ℕ) : Type 0 where
  right : at.x + side ≤ 9999
  top : at.y + side ≤ 9999
  some : 0 < side

in_range : (x y : ℕ) → x ≤ 9999 → y ≤ 9999 → is_corner_between LEAST_OBSTACLE_COORDINATE MOST_OBSTACLE_COORDINATE (lattice_corner x y) ≡ true
in_range x y f g = grind (arith, ints)

is_obstacle-square : (at : Point) (side : ℕ) → IsPlaced at side → is_obstacle 1 (square_at at side) ≡ true
is_obstacle-square at side h =
    let right = h.right in
    let top = h.top in
    rw (
      convex_square at side h.some,
      in_range at.x at.y (omega arith) (omega arith),
      in_range (at.x + side) at.y (omega arith) (omega arith),
      in_range (at.x + side) (at.y + side) (omega arith) (omega arith),
      in_range at.x (at.y + side) (omega arith) (omega arith),
    ) refl

is_obstacle-triangle : (at : Point) (side : ℕ) → IsPlaced at side → is_obstacle 1 (triangle_at at side) ≡ true
is_obstacle-triangle at side h =
    let right = h.right in
    let top = h.top in
    rw (
      convex_triangle at side h.some,
      in_range at.x at.y (omega arith) (omega arith),
      in_range (at.x + side) at.y (omega arith) (omega arith),
      in_range at.x (at.y + side) (omega arith) (omega arith),
    ) refl

IsPlaced-in_cell : (cell u v : ℕ) → cell < 64 → IsPlaced (place_in_cell cell u v) (side_by u)
IsPlaced-in_cell cell u v few =
    let x = mod_below cell 8 (omega arith) in
    let right = mod_below u 512 (omega arith) in
    let up = mod_below v 512 (omega arith) in
    let long = mod_below (u / 512) 256 (omega arith) in
    let y : cell / 8 < 8 = omega (arith, div-add-mod' cell 8, x) in
    record { right = omega arith; top = omega arith; some = omega arith }

is_obstacle-by : (cell u v : ℕ) → cell < 64 → is_obstacle 1 (obstacle_by cell u v) ≡ true
is_obstacle-by cell u v few = by (cell % 2 == 0) refl
  where
    placed : IsPlaced (place_in_cell cell u v) (side_by u)
    placed = IsPlaced-in_cell cell u v few

    by : (even : Bool) → (cell % 2 == 0) ≡ even → is_obstacle 1 (obstacle_by cell u v) ≡ true
    by true e = rw e (is_obstacle-square (place_in_cell cell u v) (side_by u) placed)
    by false e = rw e (is_obstacle-triangle (place_in_cell cell u v) (side_by u) placed)

are_obstacles-numbered : (f : ℕ → List Vertex) (n : ℕ) → n ≤ MOST_OBSTACLES → ((k : ℕ) → k < n → is_obstacle 1 (f k) ≡ true) →
    are_obstacles 1 (map f (range_with_len 0 n)) ≡ true
are_obstacles-numbered f n few h =
    let long = length-map-range_with_len f 0 n in
    and_from (nat_le (length (map f (range_with_len 0 n))) MOST_OBSTACLES) (list_all (is_obstacle 1) (map f (range_with_len 0 n)))
    (rw long (grind arith)) (list_all-map (is_obstacle 1) f (range_with_len 0 n) ∙ true_of_below (λ k. is_obstacle 1 (f k)) n h)

pub are_obstacles-generated : (number : ℕ) → IsTrue (are_obstacles 1 (generated_obstacles number))
are_obstacles-generated number =
    are_obstacles-numbered (generated_obstacle number) 64 (omega arith) (λ cell few. is_obstacle-by cell _ _ few)
