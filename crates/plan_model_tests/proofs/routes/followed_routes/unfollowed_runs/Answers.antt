use Rattle.plan_model_tests.proofs.Words.{[], ◌∷◌, refl, arith, at, goal_at_start, no_node, open_setup, open_setup_to, placed_record, points_of, short_of_mark}
use Rattle.plan_model_tests.proofs.Words.{sum_of, MayBeCheaper-not_skipping, thin_setup, blocked_record, skipped_record, start_alone, Handles}
use Rattle.plan_model_tests.proofs.ComputedRuns.{IsTextbookRun-computed, is_free, is_nearest}
use Rattle.plan_model_tests.proofs.Decisions.{refuted, shown}
use Rattle.plan_model_tests.proofs.OrderDecisions.{is_clear, is_reached}
use Rattle.plan_model_tests.proofs.RouteExamples.OpenRoomLinks.{IsOpenLink-short}
use Rattle.plan_model_tests.proofs.RouteExamples.ThinTriangle.{blocked_from_below}
use Rattle.plan_model_tests.proofs.routes.followed_routes.unfollowed_runs.Goals as goal

is_blocked : Handles thin_setup (start_alone (at 5 3)) 0 (at 5 5) (blocked_record 0 0) (no_node (at 5 3))
is_blocked = record {
  worker = refl;
  turn = refl;
  ends = record {
    cheaper = MayBeCheaper-not_skipping thin_setup (sum_of (start_alone (at 5 3))) (points_of (start_alone (at 5 3))) (at 5 5) refl;
    point = at 5 5;
    steers = record { nearest = shown (is_nearest (points_of (start_alone (at 5 3))) (at 5 5) 0) refl; reached = refl };
    reaches = (record { free = shown (is_free (points_of (start_alone (at 5 3))) (at 5 5)) refl; blocked = blocked_from_below }, refl);
  };
}

pub returns : goal.returns
returns c = record {
  blocked = (no_node (at 5 3), is_blocked, refl);
  not_reached = refuted (is_reached (at 5 5 ∷ []) (points_of (no_node (at 5 3))) 0) refl;
  short = IsTextbookRun-computed open_setup (is_clear (at 100 100)) (at 0 51 ∷ []) short_of_mark (placed_record 0 0 0 12800 1 ∷ []) refl;
  not_quite = refuted (is_reached (at 0 51 ∷ []) (points_of short_of_mark) 0) refl;
  skipped =
      IsTextbookRun-computed (open_setup_to goal_at_start) (is_clear (at 100 100)) (at 0 50 ∷ []) (no_node (at 0 0)) (skipped_record 0 0 ∷ []) refl;
  open_link = IsOpenLink-short goal_at_start (at 0 0) (at 0 50) (omega arith) (record { horizontal = omega arith; vertical = omega arith });
  not_needed = refuted (is_reached (at 0 50 ∷ []) (points_of (no_node (at 0 0))) 0) refl;
  goal_node = (0, refl);
}
