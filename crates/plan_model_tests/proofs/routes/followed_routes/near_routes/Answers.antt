use Rattle.plan_model_tests.proofs.Words.{[], arith, refl, marks_to_rewire, open_setup, at, Clear-empty_room, IsInRoom-from_clear_at, IsNearLink}
use Rattle.plan_model_tests.proofs.ComputedCosts.{root-is}
use Rattle.plan_model_tests.proofs.Decisions.{is_at_most, refuted, shown}
use Rattle.plan_model_tests.specs.NarrowRuns.{narrow_setup}
use Rattle.plan_model_tests.proofs.RouteExamples.OpenRoomLinks.{IsOpenLink-short}
use Rattle.plan_model_tests.proofs.routes.followed_routes.near_routes.Goals as goal

-- links of the worked run
near_to_first : IsNearLink open_setup marks_to_rewire (at 0 0) (at 0 50)
near_to_first = record {
  open_link = IsOpenLink-short [] (at 0 0) (at 0 50) (omega arith) (record { horizontal = omega arith; vertical = omega arith });
  near = shown (is_at_most _ _) refl;
}

near_to_second : IsNearLink open_setup marks_to_rewire (at 0 50) (at 40 79)
near_to_second = record {
  open_link = IsOpenLink-short [] (at 0 50) (at 40 79) (omega arith) (record { horizontal = omega arith; vertical = omega arith });
  near = shown (is_at_most _ _) refl;
}

pub returns : goal.returns
returns c = record {
  at_three_nodes = refl;
  at_four_nodes = refl;
  near = record {
    open_link = record {
      short = omega arith;
      clear = λ p here near.
          Clear-empty_room (at 100 100) p (at 0 40) (IsInRoom-from_clear_at narrow_setup.space p here)
          (record { horizontal = omega arith; vertical = omega arith });
    };
    near = shown (is_at_most _ _) refl;
  };
  one_too_long = λ link. refuted (is_at_most _ _) refl link.near;
  one_mark_more = λ link. refuted (is_at_most _ _) refl link.near;
  route = record { rise = (omega arith, omega arith, (omega arith, omega arith, tt)); links = (near_to_first, (near_to_second, tt)) };
  cost = simp root-is;
  ends = refl;
  placed = (refl, tt);
  no_link = refl;
  at_start = refl;
  in_turn = (refl, (refl, (refl, tt)));
  first_two = λ h. (let e = h.0 in cc);
  last_two = λ h. (let e = h.1.1.0 in cc);
}
