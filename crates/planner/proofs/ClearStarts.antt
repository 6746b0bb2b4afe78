-- A body meets no obstacle that lies to its right, and so the start of a generated scene is clear.
use Rattle.planner.proofs.Words.{◌≡◌, ℕ, ◌+◌, ◌*◌, ◌%◌, ◌<◌, ◌≤◌, Bool, true, false, List, [], ◌∷◌, length, refl, arith, ℤ, pos, negsuc, ◌*ℤ◌, ◌≤ℤ◌, ◌==◌, All}
use Rattle.planner.proofs.Words.{sum, range_with_len, ints, mul-le, sum_by-cons, All-from_recursion, All-head, All-tail, All-map, Point, Vertex, Meets}
use Rattle.planner.proofs.Words.{weighted, at_lattice, moved_by, IsBetweenWalls, InRoom, ConfigurationSpace, space_among, ClearAt, SharesPoint-meets}
use Rattle.planner.proofs.Words.{lattice_corner, square_at, triangle_at, place_in_cell, side_by, obstacle_by, generated_obstacle, generated_obstacles}

times_at_least : (w n : ℕ) (z : ℤ) → pos n ≤ℤ z → pos (w * n) ≤ℤ (pos w *ℤ z)
times_at_least w n (pos m) h = let low = mul-le w n w m (omega arith) (omega (arith, ints)) in omega (arith, ints)
times_at_least w n (negsuc m) h = absurd (omega (arith, ints))

times_at_most : (w n : ℕ) (z : ℤ) → z ≤ℤ pos n → (pos w *ℤ z) ≤ℤ pos (w * n)
times_at_most w n (pos m) h = let high = mul-le w m w n (omega arith) (omega (arith, ints)) in omega (arith, ints)
times_at_most w n (negsuc m) h = omega (arith, ints)

one_more : (w n : ℕ) (ws : List ℕ) → sum (w ∷ ws) * n ≡ w * n + sum ws * n
one_more w n ws = let more = sum_by-cons (λ k. k) w ws in rw more (omega arith)

-- the weighted sum of corners that lie at n or further right
weighted_at_least : (n : ℕ) (ws : List ℕ) (corners : List Vertex) → length ws ≡ length corners → All (λ v. pos n ≤ℤ v.x) corners
    → pos (sum ws * n) ≤ℤ weighted (λ v. v.x) ws corners
weighted_at_least n [] corners l h = omega (arith, ints)
weighted_at_least n (w ∷ ws) [] l h = absurd (omega arith)
weighted_at_least n (w ∷ ws) (c ∷ cs) l h =
    let P : Vertex → Type 0 = λ v. pos n ≤ℤ v.x in
    let rest = weighted_at_least n ws cs (omega arith) (All-tail P c cs h) in
    let first = times_at_least w n c.x (All-head P c cs h) in
    omega (arith, ints, one_more w n ws)

-- and of corners that lie at n or further left
weighted_at_most : (n : ℕ) (ws : List ℕ) (corners : List Vertex) → length ws ≡ length corners → All (λ v. v.x ≤ℤ pos n) corners
    → weighted (λ v. v.x) ws corners ≤ℤ pos (sum ws * n)
weighted_at_most n [] corners l h = omega (arith, ints)
weighted_at_most n (w ∷ ws) [] l h = absurd (omega arith)
weighted_at_most n (w ∷ ws) (c ∷ cs) l h =
    let P : Vertex → Type 0 = λ v. v.x ≤ℤ pos n in
    let rest = weighted_at_most n ws cs (omega arith) (All-tail P c cs h) in
    let first = times_at_most w n c.x (All-head P c cs h) in
    omega (arith, ints, one_more w n ws)

-- a body that ends before the obstacle begins does not meet it
not_met : (p : Point) (reach begin : ℕ) (body obstacle : List Vertex) → All (λ v. v.x ≤ℤ pos reach) body
    → All (λ v. pos begin ≤ℤ v.x) obstacle → p.x + reach < begin → ¬ Meets 0 body (at_lattice p) obstacle
not_met p reach begin body obstacle left right apart meets =
    let m = SharesPoint-meets body obstacle (at_lattice p) meets in
    let some = m.some_weight in
    let low = rw m.obstacle_total at (weighted_at_least begin m.on_obstacle obstacle m.obstacle_corners right) in
    let high = rw m.body_total at (weighted_at_most reach m.on_body body m.body_corners left) in
    let h = m.horizontal in
    let gap = mul-le m.total (p.x + reach + 1) m.total begin (omega arith) (omega arith) in
    omega (arith, ints)

-- ---- generated obstacles begin at 200
right_of : (x y : ℕ) → 200 ≤ x → pos 200 ≤ℤ (lattice_corner x y).x
right_of x y h = omega (arith, ints)

square_right : (at : Point) (side : ℕ) → 200 ≤ at.x → All (λ v. pos 200 ≤ℤ v.x) (square_at at side)
square_right at side h =
    All-from_recursion (λ v. pos 200 ≤ℤ v.x) (square_at at side) (
      right_of at.x at.y h,
      (
        right_of (at.x + side) at.y (omega arith),
        (right_of (at.x + side) (at.y + side) (omega arith), (right_of at.x (at.y + side) h, tt)),
      ),
    )

triangle_right : (at : Point) (side : ℕ) → 200 ≤ at.x → All (λ v. pos 200 ≤ℤ v.x) (triangle_at at side)
triangle_right at side h =
    All-from_recursion (λ v. pos 200 ≤ℤ v.x) (triangle_at at side)
    (right_of at.x at.y h, (right_of (at.x + side) at.y (omega arith), (right_of at.x (at.y + side) h, tt)))

obstacle_right : (cell u v : ℕ) → All (λ c. pos 200 ≤ℤ c.x) (obstacle_by cell u v)
obstacle_right cell u v = by (cell % 2 == 0) refl
  where
    by : (even : Bool) → (cell % 2 == 0) ≡ even → All (λ c. pos 200 ≤ℤ c.x) (obstacle_by cell u v)
    by true e = rw e (square_right (place_in_cell cell u v) (side_by u) (omega arith))
    by false e = rw e (triangle_right (place_in_cell cell u v) (side_by u) (omega arith))

-- ---- the start
abbrev start : Point
start = record { x = 100; y = 100 }

abbrev body : List Vertex
body = square_at (record { x = 0; y = 0 }) 20

body_left : All (λ v. v.x ≤ℤ pos 20) body
body_left = All-from_recursion (λ v. v.x ≤ℤ pos 20) body (omega (arith, ints), (omega (arith, ints), (omega (arith, ints), (omega (arith, ints), tt))))

abbrev room : Point
room = record { x = 9999; y = 9999 }

corner_in_room : (x y : ℕ) → x ≤ 20 → y ≤ 20 → IsBetweenWalls room (moved_by (at_lattice start) (lattice_corner x y))
corner_in_room x y f g = record {
  left = omega (arith, ints);
  right = omega (arith, ints);
  bottom = omega (arith, ints);
  top = omega (arith, ints);
}

-- the configuration space of a generated scene
abbrev space : ℕ → ConfigurationSpace
space number = space_among room body (generated_obstacles number)

start_in_room : (number : ℕ) → InRoom (space number) (at_lattice start)
start_in_room number = record {
  here = record { left = omega (arith, ints); right = omega (arith, ints); bottom = omega (arith, ints); top = omega (arith, ints) };
  corners = All-from_recursion (λ corner. IsBetweenWalls room (moved_by (at_lattice start) corner)) body (
    corner_in_room 0 0 (omega arith) (omega arith),
    (
      corner_in_room 20 0 (omega arith) (omega arith),
      (corner_in_room 20 20 (omega arith) (omega arith), (corner_in_room 0 20 (omega arith) (omega arith), tt)),
    ),
  );
}

pub ClearAt-start : (number : ℕ) → ClearAt (space number) start
ClearAt-start number = record {
  in_room = start_in_room number;
  meets_none = All-map (λ obstacle. ¬ Meets 0 body (at_lattice start) obstacle) (generated_obstacle number) (range_with_len 0 64)
      (λ k d l. not_met start 20 200 body _ body_left (obstacle_right _ _ _) (omega arith));
}
