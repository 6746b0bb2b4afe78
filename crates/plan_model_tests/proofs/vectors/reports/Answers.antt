use Rattle.plan_model_tests.proofs.Words.{refl, digits}
use Rattle.plan_model_tests.proofs.ComputedCosts.{root-is}
use Rattle.plan_model_tests.proofs.vectors.reports.Goals as goal

pub returns : goal.returns
unfolding digits
returns c = record {
  best = λ scene e. rw e refl;
  past_the_limit = λ scene e. rw e refl;
  report = λ scene e plain. rw (e, plain) (simp root-is);
  low_corner = refl;
  high_corner = refl;
  left_of_it = refl;
  above_it = refl;
  right_of_it = refl;
  below_it = refl;
  in_second_goal = refl;
  between_goals = refl;
  without_goals = refl;
  least_of_two_goals = simp root-is;
  second_goal_alone = refl;
  tied = λ scene e. rw e (simp root-is);
  none_reached = λ scene e. rw e refl;
  no_path = λ scene e plain. rw (e, plain) refl;
  start_in_goal = λ scene e plain. rw (e, plain) refl;
  in_full = λ scene e plain. rw (e, plain) (simp root-is);
  none_skipped = λ scene e informed. rw (e, informed) refl;
  skipped_in_full = λ scene e informed. rw (e, informed) refl;
}
