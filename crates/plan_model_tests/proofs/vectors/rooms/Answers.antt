use Rattle.plan_model_tests.proofs.Words.{arith, ap, refl, [], ◌∷◌, pos, le_prop, ints, All-cons, All-nil, Vertex, Rational, at_lattice, moved_by}
use Rattle.plan_model_tests.proofs.Words.{IsBetweenWalls, InRoom, triangle, ten_by_ten, at, corner, halves}
use Rattle.plan_model_tests.proofs.vectors.rooms.Goals as goal

-- the triangle is in the room if its corners are
triangle_in_room :
    (q : Rational) → IsBetweenWalls (at 10 10) q → IsBetweenWalls (at 10 10) (moved_by q (corner 0 0)) → IsBetweenWalls (at 10 10) (moved_by q (corner 4 0))
    → IsBetweenWalls (at 10 10) (moved_by q (corner 0 4)) → InRoom (ten_by_ten triangle) q
triangle_in_room q here first second third =
    let P : Vertex → Type 0 = λ v. IsBetweenWalls (at 10 10) (moved_by q v) in
    record {
      here = here;
      corners = All-cons P (corner 0 0) (corner 4 0 ∷ corner 0 4 ∷ []) first
          (All-cons P (corner 4 0) (corner 0 4 ∷ []) second (All-cons P (corner 0 4) [] third (All-nil P)));
    }

pub returns : goal.returns
returns c = record {
  at_walls = triangle_in_room (at_lattice (at 6 6))
      (record { left = omega (arith, ints); right = omega (arith, ints); bottom = omega (arith, ints); top = omega (arith, ints) })
      (record { left = omega (arith, ints); right = omega (arith, ints); bottom = omega (arith, ints); top = omega (arith, ints) })
      (record { left = omega (arith, ints); right = omega (arith, ints); bottom = omega (arith, ints); top = omega (arith, ints) })
      (record { left = omega (arith, ints); right = omega (arith, ints); bottom = omega (arith, ints); top = omega (arith, ints) });
  past_wall = λ h. let right = (h.corners 1 (corner 0 0) (omega arith)).right in omega (arith, ints);
  at_walls_in_halves = triangle_in_room (halves (pos 12) (pos 12))
      (record { left = omega (arith, ints); right = omega (arith, ints); bottom = omega (arith, ints); top = omega (arith, ints) })
      (record { left = omega (arith, ints); right = omega (arith, ints); bottom = omega (arith, ints); top = omega (arith, ints) })
      (record { left = omega (arith, ints); right = omega (arith, ints); bottom = omega (arith, ints); top = omega (arith, ints) })
      (record { left = omega (arith, ints); right = omega (arith, ints); bottom = omega (arith, ints); top = omega (arith, ints) });
  past_right = λ h. let right = (h.corners 1 (corner 0 0) (omega arith)).right in omega (arith, ints);
  past_top = λ h. let top = (h.corners 2 (corner 0 0) (omega arith)).top in omega (arith, ints);
  past_left = λ h. let left = h.here.left in omega (arith, ints);
  past_bottom = λ h. let bottom = h.here.bottom in omega (arith, ints);
  origin_outside = λ h. let right = h.here.right in omega (arith, ints);
  first = refl;
  last = refl;
  halfway = refl;
  halfway_back = refl;
  doubled = ap (λ p. record { x = pos 6; y = pos 10; over = 2; positive = p }) (le_prop _ _);
}
