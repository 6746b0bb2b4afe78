use Rattle.plan_model_tests.proofs.Words.{refl, digits, goal_of_2, marks_to_skip, skipped_records, skipped_tree, at, open_setup_to}
use Rattle.plan_model_tests.proofs.ComputedCosts.{root-is}
use Rattle.plan_model_tests.proofs.ComputedRuns.{IsTextbookRun-computed}
use Rattle.plan_model_tests.proofs.OrderDecisions.{is_clear}
use Rattle.plan_model_tests.proofs.vectors.skipped_run.Goals as goal

pub returns : goal.returns
unfolding digits
returns c = record {
  run = IsTextbookRun-computed (open_setup_to goal_of_2) (is_clear (at 100 100)) marks_to_skip skipped_tree skipped_records refl;
  report = λ scene e informed. rw (e, informed) (simp root-is);
}
