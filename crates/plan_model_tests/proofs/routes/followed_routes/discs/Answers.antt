use Rattle.plan_model_tests.proofs.Words.{[], ◌∷◌, arith, refl, pos, negsuc, le_refl, ints, Point, Setup, Meets, Rational, at_lattice, great_triangle}
use Rattle.plan_model_tests.proofs.Words.{point_body, small_square, at, HasClearDisc, HasClearDisc-far, IsNeither, wide_setup}
use Rattle.plan_model_tests.proofs.ComputedMeetings.{met_by}
use Rattle.plan_model_tests.proofs.Decisions.{value_of}
use Rattle.plan_model_tests.proofs.RouteExamples.WideTriangle.{KeepsBodyFar-wide}
use Rattle.plan_model_tests.proofs.routes.followed_routes.discs.Goals as goal

-- the body does not keep far enough away if the disc is not clear
IsNeither-disc : (setup : Setup) (a b : Point) → ¬ HasClearDisc setup a b → IsNeither setup a b
IsNeither-disc setup a b disc = record { disc = disc; body = λ far. disc (HasClearDisc-far setup a b far) }

-- one column to the left of the wall
past_wall : Rational
past_wall = record { x = negsuc 0; y = pos 15; over = 1; positive = le_refl 1 }

at_side : Meets 0 point_body (at_lattice (at 10 15)) great_triangle
at_side = value_of (met_by 0 point_body (at_lattice (at 10 15)) great_triangle (1 ∷ 0 ∷ 1 ∷ []) (2 ∷ [])) refl

one_beside_side : Meets 1 point_body (at_lattice (at 9 15)) great_triangle
one_beside_side = value_of (met_by 1 point_body (at_lattice (at 9 15)) great_triangle (1 ∷ 0 ∷ 1 ∷ []) (2 ∷ [])) refl

-- the middle of the body's lower side
wider_at_side : Meets 0 small_square (at_lattice (at 9 15)) great_triangle
wider_at_side = value_of (met_by 0 small_square (at_lattice (at 9 15)) great_triangle (1 ∷ 0 ∷ 1 ∷ []) (1 ∷ 1 ∷ 0 ∷ 0 ∷ [])) refl

pub returns : goal.returns
unfolding past_wall
returns c = record {
  beside = KeepsBodyFar-wide 3 6 (omega arith) (omega arith) (omega arith);
  to_triangle =
      IsNeither-disc (wide_setup point_body 0) (at 2 15) (at 6 15)
      (λ disc. (disc.clear (at_lattice (at 10 15)) (omega arith)).meets_none 0 great_triangle (omega arith) at_side);
  to_wall = KeepsBodyFar-wide 6 3 (omega arith) (omega arith) (omega arith);
  past_wall =
      IsNeither-disc (wide_setup point_body 0) (at 7 15) (at 3 15)
      (λ disc. (let outside = (disc.clear past_wall (omega arith)).in_room.here.left in omega (arith, ints, outside)));
  with_clearance =
      IsNeither-disc (wide_setup point_body 1) (at 3 15) (at 6 15)
      (λ disc. (disc.clear (at_lattice (at 9 15)) (omega arith)).meets_none 0 great_triangle (omega arith) one_beside_side);
  with_wider_body =
      IsNeither-disc (wide_setup small_square 0) (at 3 15) (at 6 15)
      (λ disc. (disc.clear (at_lattice (at 9 15)) (omega arith)).meets_none 0 great_triangle (omega arith) wider_at_side);
  one_too_long = IsNeither-disc (wide_setup point_body 0) (at 0 5) (at 5 5) (λ disc. omega (arith, disc.short));
}
