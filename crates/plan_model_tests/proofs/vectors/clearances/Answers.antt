use Rattle.plan_model_tests.proofs.Words.{◌≡◌, ℕ, ◌+◌, ◌-◌, ◌*◌, ◌<◌, ◌≤◌, List, [], ◌∷◌, arith, refl, pos, ◌-ℤ◌, ◌*ℤ◌, sum, ints, mul-le, All-cons, All-nil}
use Rattle.plan_model_tests.proofs.Words.{Vertex, Point, ConfigurationSpace, Rational, IsSamePoint, at_lattice, moved_by, IsBetweenWalls, weighted, Meets}
use Rattle.plan_model_tests.proofs.Words.{IsClear, on_the_way, Clear, at, corner, two_is_positive, point_body, pillar, square, beside_square, apart_from_pillar}
use Rattle.plan_model_tests.proofs.Words.{corner_in_box, part_and_rest, way_is, IsClear-same, SharesPoint-meets, Meets-shares_point}
use Rattle.plan_model_tests.proofs.ComputedMeetings.{met_by}
use Rattle.plan_model_tests.proofs.Decisions.{value_of}
use Rattle.plan_model_tests.proofs.ShortLists.{one, four}
use Rattle.plan_model_tests.proofs.Pillars.{fraction, apart_above}
use Rattle.plan_model_tests.proofs.vectors.clearances.Goals as goal

-- t parts of x are below n parts of a whole that is 10 * t at least
below_ten : (t x n whole : ℕ) → 0 < t → x < n * 10 → 10 * t ≤ whole → n * whole ≡ t * x → ⊥
below_ten t x n whole some less low e =
    omega (arith, mul-le n (10 * t) n whole (omega arith) low, mul-le t (x + 1) t (n * 10) (omega arith) (omega arith))

left_of_square :
    (t x n a b c d e : ℕ) → 0 < t → x < n * 10 → sum (a ∷ b ∷ c ∷ d ∷ []) ≡ t
    → pos n *ℤ (weighted (λ v. v.x) (a ∷ b ∷ c ∷ d ∷ []) square -ℤ weighted (λ v. v.x) (e ∷ []) point_body) ≡ pos t *ℤ pos x → ⊥
left_of_square t x n a b c d e some less total h =
    let whole : weighted (λ v. v.x) (a ∷ b ∷ c ∷ d ∷ []) square -ℤ weighted (λ v. v.x) (e ∷ []) point_body ≡ pos (10 * a + 20 * b + 20 * c + 10 * d) =
    omega (arith, ints) in
    below_ten t x n (10 * a + 20 * b + 20 * c + 10 * d) some less (omega arith) (omega (arith, ints, rw whole at h))

below_square :
    (t y n a b c d e : ℕ) → 0 < t → y < n * 10 → sum (a ∷ b ∷ c ∷ d ∷ []) ≡ t
    → pos n *ℤ (weighted (λ v. v.y) (a ∷ b ∷ c ∷ d ∷ []) square -ℤ weighted (λ v. v.y) (e ∷ []) point_body) ≡ pos t *ℤ pos y → ⊥
below_square t y n a b c d e some less total h =
    let whole : weighted (λ v. v.y) (a ∷ b ∷ c ∷ d ∷ []) square -ℤ weighted (λ v. v.y) (e ∷ []) point_body ≡ pos (10 * a + 10 * b + 20 * c + 20 * d) =
    omega (arith, ints) in
    below_ten t y n (10 * a + 10 * b + 20 * c + 20 * d) some less (omega arith) (omega (arith, ints, rw whole at h))

apart_left : (x y n : ℕ) (positive : 0 < n) → x < n * 10 → ¬ Meets 0 point_body (fraction x y n positive) square
apart_left x y n positive less meets =
    let m = SharesPoint-meets point_body square (fraction x y n positive) meets in
    let o = four m.on_obstacle m.obstacle_corners in
    let b = one m.on_body m.body_corners in
    left_of_square m.total x n o.first o.second o.third o.fourth b.only m.some_weight less (rw o.are at m.obstacle_total) (rw (o.are, b.are) at m.horizontal)

apart_below : (x y n : ℕ) (positive : 0 < n) → y < n * 10 → ¬ Meets 0 point_body (fraction x y n positive) square
apart_below x y n positive less meets =
    let m = SharesPoint-meets point_body square (fraction x y n positive) meets in
    let o = four m.on_obstacle m.obstacle_corners in
    let b = one m.on_body m.body_corners in
    below_square m.total y n o.first o.second o.third o.fourth b.only m.some_weight less (rw o.are at m.obstacle_total) (rw (o.are, b.are) at m.vertical)

-- the space of a point body beside an obstacle in a square room
abbrev space_beside : ℕ → ℕ → List Vertex → ConfigurationSpace
space_beside side clearance obstacle = record { room = at side side; body = point_body; obstacles = obstacle ∷ []; clearance = clearance }

-- a point within the walls that does not meet the obstacle is clear
clear_apart :
    (side clearance : ℕ) (obstacle : List Vertex) (x y n : ℕ) (positive : 0 < n) → x ≤ n * side → y ≤ n * side
    → ¬ Meets clearance point_body (fraction x y n positive) obstacle → IsClear (space_beside side clearance obstacle) (fraction x y n positive)
clear_apart side clearance obstacle x y n positive h k apart =
    let P : Vertex → Type 0 = λ v. IsBetweenWalls (at side side) (moved_by (fraction x y n positive) v) in
    let Q : List Vertex → Type 0 = λ o. ¬ Meets clearance point_body (fraction x y n positive) o in
    let box : IsBetweenWalls (at side side) (fraction x y n positive) =
    record { left = omega (arith, ints); right = omega (arith, ints); bottom = omega (arith, ints); top = omega (arith, ints) } in
    record {
      in_room = record { here = box; corners = All-cons P (corner 0 0) [] (corner_in_box (at side side) (fraction x y n positive) box) (All-nil P) };
      meets_none = All-cons Q obstacle [] apart (All-nil Q);
    }

-- the points of a segment, in a whole number of parts
IsSamePoint-way :
    (a b : Point) (s d : ℕ) (positive : 0 < d) → s ≤ d
    → IsSamePoint (fraction ((d - s) * a.x + s * b.x) ((d - s) * a.y + s * b.y) d positive) (on_the_way a b s d positive)
IsSamePoint-way a b s d positive h =
    let x = way_is s d a.x b.x h in
    let y = way_is s d a.y b.y h in
    record { horizontal = rw x refl; vertical = rw y refl }

-- a segment to the left of the square
clear_left : (x from to : ℕ) → x < 10 → from ≤ 30 → to ≤ 30 → Clear beside_square (at x from) (at x to)
clear_left x from to left low high s d positive h =
    let across : (d - s) * x + s * x ≡ d * x = part_and_rest s d x h in
    let up : (d - s) * 30 + s * 30 ≡ d * 30 = part_and_rest s d 30 h in
    let less : d * x + d ≤ d * 10 = omega (arith, mul-le d (x + 1) d 10 (omega arith) (omega arith)) in
    let parts = mul-le (d - s) from (d - s) 30 (omega arith) low in
    let inside : (d - s) * from + s * to ≤ d * 30 = omega (arith, parts, mul-le s to s 30 (omega arith) high) in
    let place = clear_apart 30 0 square ((d - s) * x + s * x) _ d positive (omega arith) inside (apart_left _ _ d positive (omega arith)) in
    IsClear-same beside_square _ (on_the_way (at x from) (at x to) s d positive) (IsSamePoint-way (at x from) (at x to) s d positive h) place

-- the body's only corner is the square's first
touches : (q : Rational) → pos q.over *ℤ pos 10 ≡ q.x → pos q.over *ℤ pos 10 ≡ q.y → Meets 0 point_body q square
touches q h k = Meets-shares_point 0 point_body square q (record {
  total = 1;
  on_obstacle = 1 ∷ 0 ∷ 0 ∷ 0 ∷ [];
  on_body = 1 ∷ [];
  some_weight = omega arith;
  obstacle_corners = refl;
  body_corners = refl;
  obstacle_total = refl;
  body_total = refl;
  horizontal = omega (arith, ints);
  vertical = omega (arith, ints);
})

eight_is_positive : 0 < 8
eight_is_positive = omega arith

-- the pillar's upper left corner is 5 steps away in both coordinates, an eighth of the way along its top
meets_pillar : Meets 5 point_body (on_the_way (at 30 65) (at 70 65) 1 8 eight_is_positive) pillar
meets_pillar = value_of (met_by 5 point_body (on_the_way (at 30 65) (at 70 65) 1 8 eight_is_positive) pillar (0 ∷ 0 ∷ 0 ∷ 1 ∷ []) (1 ∷ [])) refl

-- a segment above the pillar, beyond the clearance
clear_above : (from to y : ℕ) → 65 < y → y ≤ 100 → from ≤ 100 → to ≤ 100 → Clear apart_from_pillar (at from y) (at to y)
clear_above from to y high inside low right s d positive h =
    let up : (d - s) * y + s * y ≡ d * y = part_and_rest s d y h in
    let across : (d - s) * 100 + s * 100 ≡ d * 100 = part_and_rest s d 100 h in
    let parts = mul-le (d - s) from (d - s) 100 (omega arith) low in
    let within : (d - s) * from + s * to ≤ d * 100 = omega (arith, parts, mul-le s to s 100 (omega arith) right) in
    let over : d * 66 ≤ d * y = mul-le d 66 d y (omega arith) high in
    let under : d * y ≤ d * 100 = mul-le d y d 100 (omega arith) inside in
    let place = clear_apart 100 5 pillar ((d - s) * from + s * to) ((d - s) * y + s * y) d positive within (omega arith)
    (apart_above 5 _ _ d positive (omega arith)) in
    IsClear-same apart_from_pillar _ (on_the_way (at from y) (at to y) s d positive) (IsSamePoint-way (at from y) (at to y) s d positive h) place

pub returns : goal.returns
returns c = record {
  beside = clear_apart 30 0 square 9 11 1 _ (omega arith) (omega arith) (apart_left 9 11 1 _ (omega arith));
  below = clear_apart 30 0 square 11 9 1 _ (omega arith) (omega arith) (apart_below 11 9 1 _ (omega arith));
  at_corner = λ clear. clear.meets_none 0 square (omega arith) (touches (at_lattice (at 10 10)) refl refl);
  round_corner = λ clear. (clear 1 2 two_is_positive (omega arith)).meets_none 0 square (omega arith)
      (touches (on_the_way (at 9 11) (at 11 9) 1 2 two_is_positive) refl refl);
  along_edge = clear_left 9 5 25 (omega arith) (omega arith) (omega arith);
  along_wall = clear_left 0 30 0 (omega arith) (omega arith) (omega arith);
  at_clearance = λ clear. (clear 1 8 eight_is_positive (omega arith)).meets_none 0 pillar (omega arith) meets_pillar;
  above_clearance = clear_above 30 70 66 (omega arith) (omega arith) (omega arith) (omega arith);
  at_wall = clear_apart 100 5 pillar 0 100 1 _ (omega arith) (omega arith) (apart_above 5 0 100 1 _ (omega arith));
}
