use Rattle.plan_model_tests.proofs.Words.{[], arith, refl, pos, negsuc, le_refl, ints, on_the_way, Rational, at, thin_triangle}
use Rattle.plan_model_tests.proofs.RouteExamples.OpenRoomLinks.{IsOpenLink-short}
use Rattle.plan_model_tests.proofs.RouteExamples.ThinTriangle.{ClearAt-near, blocked_from_below, blocked_from_beside, four_is_positive, meets_middle}
use Rattle.plan_model_tests.proofs.routes.followed_routes.open_links.Goals as goal

-- one column to the left of the wall
past_wall : Rational
past_wall = record { x = negsuc 0; y = pos 50; over = 1; positive = le_refl 1 }

pub returns : goal.returns
unfolding past_wall
returns c = record {
  along_wall = IsOpenLink-short [] (at 0 0) (at 0 50) (omega arith) (record { horizontal = omega arith; vertical = omega arith });
  disc_past_wall = λ disc.
      let outside = (disc.clear past_wall (omega arith)).in_room.here.left in
      omega (arith, ints, outside);
  one_too_long = λ link. omega (arith, link.short);
  lattice_points_clear = ClearAt-near;
  cut_by_corner = λ link. blocked_from_below (link.clear (at 5 3) (ClearAt-near (at 5 3) (omega arith)) (omega arith));
  disc_cut_by_corner = λ disc.
      (disc.clear (on_the_way (at 5 3) (at 5 5) 3 4 four_is_positive) (omega arith)).meets_none 0 thin_triangle (omega arith)
      (meets_middle (on_the_way (at 5 3) (at 5 5) 3 4 four_is_positive) refl refl);
  cut_on_other_side = λ link. blocked_from_beside (link.clear (at 5 4) (ClearAt-near (at 5 4) (omega arith)) (omega arith));
}
