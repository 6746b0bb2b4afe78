use Rattle.plan_model_tests.proofs.Words.{◌≡◌, ℕ, ◌<◌, [], ◌∷◌, arith, refl, pos, ◌-ℤ◌, ◌*ℤ◌, sum, ints, at_lattice, weighted, at, halves, small_triangle}
use Rattle.plan_model_tests.proofs.Words.{great_triangle, small_square, great_square, far_square, point_body, pillar, SharesPoint-meets}
use Rattle.plan_model_tests.proofs.ComputedMeetings.{met_by}
use Rattle.plan_model_tests.proofs.Decisions.{value_of}
use Rattle.plan_model_tests.proofs.ShortLists.{three, four}
use Rattle.plan_model_tests.proofs.Pillars.{apart_left, apart_above}
use Rattle.plan_model_tests.proofs.vectors.meetings.Goals as goal

-- each difference of an obstacle's and a body's point has coordinates that add up to 18 at least
beside_corner :
    (t a b c d e f : ℕ) → 0 < t → sum (a ∷ b ∷ c ∷ []) ≡ t → sum (d ∷ e ∷ f ∷ []) ≡ t
    → pos 1 *ℤ (weighted (λ v. v.x) (a ∷ b ∷ c ∷ []) great_triangle -ℤ weighted (λ v. v.x) (d ∷ e ∷ f ∷ []) small_triangle) ≡ pos t *ℤ pos 8
    → pos 1 *ℤ (weighted (λ v. v.y) (a ∷ b ∷ c ∷ []) great_triangle -ℤ weighted (λ v. v.y) (d ∷ e ∷ f ∷ []) small_triangle) ≡ pos t *ℤ pos 9 → ⊥
beside_corner t a b c d e f some obstacle body horizontal vertical = omega (arith, ints)

-- the same in halves of a step: the sum is 35 halves, and would have to be 36 at least
half_beside_corner :
    (t a b c d e f : ℕ) → 0 < t → sum (a ∷ b ∷ c ∷ []) ≡ t → sum (d ∷ e ∷ f ∷ []) ≡ t
    → pos 2 *ℤ (weighted (λ v. v.x) (a ∷ b ∷ c ∷ []) great_triangle -ℤ weighted (λ v. v.x) (d ∷ e ∷ f ∷ []) small_triangle) ≡ pos t *ℤ pos 17
    → pos 2 *ℤ (weighted (λ v. v.y) (a ∷ b ∷ c ∷ []) great_triangle -ℤ weighted (λ v. v.y) (d ∷ e ∷ f ∷ []) small_triangle) ≡ pos t *ℤ pos 18 → ⊥
half_beside_corner t a b c d e f some obstacle body horizontal vertical = omega (arith, ints)

-- each difference of an obstacle's and a body's point has an x of 8 at least
beside_edge :
    (t a b c d e f g h : ℕ) → 0 < t → sum (a ∷ b ∷ c ∷ d ∷ []) ≡ t → sum (e ∷ f ∷ g ∷ h ∷ []) ≡ t
    → pos 1 *ℤ (weighted (λ v. v.x) (a ∷ b ∷ c ∷ d ∷ []) great_square -ℤ weighted (λ v. v.x) (e ∷ f ∷ g ∷ h ∷ []) small_square) ≡ pos t *ℤ pos 7 → ⊥
beside_edge t a b c d e f g h some obstacle body horizontal = omega (arith, ints)

-- each difference of an obstacle's and a body's point has an x of 0 at most
beyond_far_edge :
    (t a b c d e f g h : ℕ) → 0 < t → sum (a ∷ b ∷ c ∷ d ∷ []) ≡ t → sum (e ∷ f ∷ g ∷ h ∷ []) ≡ t
    → pos 1 *ℤ (weighted (λ v. v.x) (a ∷ b ∷ c ∷ d ∷ []) great_square -ℤ weighted (λ v. v.x) (e ∷ f ∷ g ∷ h ∷ []) far_square) ≡ pos t *ℤ pos 1 → ⊥
beyond_far_edge t a b c d e f g h some obstacle body horizontal = omega (arith, ints)

pub returns : goal.returns
returns c = record {
  at_corner = value_of (met_by 0 small_triangle (at_lattice (at 9 9)) great_triangle (2 ∷ 0 ∷ 0 ∷ []) (0 ∷ 1 ∷ 1 ∷ [])) refl;
  beside_corner = λ meets.
      let m = SharesPoint-meets small_triangle great_triangle (at_lattice (at 8 9)) meets in
      let o = three m.on_obstacle m.obstacle_corners in
      let b = three m.on_body m.body_corners in
      beside_corner m.total o.first o.second o.third b.first b.second b.third m.some_weight (rw o.are at m.obstacle_total) (rw b.are at m.body_total)
      (rw (o.are, b.are) at m.horizontal) (rw (o.are, b.are) at m.vertical);
  at_corner_in_halves = value_of (met_by 0 small_triangle (halves (pos 18) (pos 18)) great_triangle (2 ∷ 0 ∷ 0 ∷ []) (0 ∷ 1 ∷ 1 ∷ [])) refl;
  half_beside_corner = λ meets.
      let m = SharesPoint-meets small_triangle great_triangle (halves (pos 17) (pos 18)) meets in
      let o = three m.on_obstacle m.obstacle_corners in
      let b = three m.on_body m.body_corners in
      half_beside_corner m.total o.first o.second o.third b.first b.second b.third m.some_weight (rw o.are at m.obstacle_total) (rw b.are at m.body_total)
      (rw (o.are, b.are) at m.horizontal) (rw (o.are, b.are) at m.vertical);
  inside = value_of (met_by 0 small_triangle (at_lattice (at 12 12)) great_triangle (6 ∷ 2 ∷ 2 ∷ []) (10 ∷ 0 ∷ 0 ∷ [])) refl;
  at_edge = value_of (met_by 0 small_square (at_lattice (at 8 3)) great_square (7 ∷ 0 ∷ 0 ∷ 3 ∷ []) (0 ∷ 10 ∷ 0 ∷ 0 ∷ [])) refl;
  beside_edge = λ meets.
      let m = SharesPoint-meets small_square great_square (at_lattice (at 7 3)) meets in
      let o = four m.on_obstacle m.obstacle_corners in
      let b = four m.on_body m.body_corners in
      beside_edge m.total o.first o.second o.third o.fourth b.first b.second b.third b.fourth m.some_weight (rw o.are at m.obstacle_total)
      (rw b.are at m.body_total) (rw (o.are, b.are) at m.horizontal);
  at_far_edge = value_of (met_by 0 far_square (at_lattice (at 0 3)) great_square (0 ∷ 7 ∷ 3 ∷ 0 ∷ []) (10 ∷ 0 ∷ 0 ∷ 0 ∷ [])) refl;
  beyond_far_edge = λ meets.
      let m = SharesPoint-meets far_square great_square (at_lattice (at 1 3)) meets in
      let o = four m.on_obstacle m.obstacle_corners in
      let b = four m.on_body m.body_corners in
      beyond_far_edge m.total o.first o.second o.third o.fourth b.first b.second b.third b.fourth m.some_weight (rw o.are at m.obstacle_total)
      (rw b.are at m.body_total) (rw (o.are, b.are) at m.horizontal);
  at_pillar = value_of (met_by 0 point_body (at_lattice (at 40 60)) pillar (0 ∷ 0 ∷ 0 ∷ 1 ∷ []) (1 ∷ [])) refl;
  beside_pillar = apart_left 0 39 60 1 _ (omega arith);
  at_clearance = value_of (met_by 5 point_body (at_lattice (at 35 65)) pillar (0 ∷ 0 ∷ 0 ∷ 1 ∷ []) (1 ∷ [])) refl;
  left_of_clearance = apart_left 5 34 65 1 _ (omega arith);
  left_of_clearance_and_above = apart_left 5 34 66 1 _ (omega arith);
  above_clearance = apart_above 5 35 66 1 _ (omega arith);
}
