use Rattle.plan_model_tests.proofs.Words.{refl, digits, at, kept_records, kept_tree, marks_to_keep, marks_to_rewire, open_setup, rewired_records, rewired_tree}
use Rattle.plan_model_tests.proofs.ComputedCosts.{root-is, sum-is}
use Rattle.plan_model_tests.proofs.ComputedRuns.{IsTextbookRun-computed}
use Rattle.plan_model_tests.proofs.OrderDecisions.{is_clear}
use Rattle.plan_model_tests.proofs.vectors.runs.Goals as goal

pub returns : goal.returns
unfolding digits
returns c = record {
  rewired = IsTextbookRun-computed open_setup (is_clear (at 100 100)) marks_to_rewire rewired_tree rewired_records refl;
  cost_of_rewired = sum-is rewired_tree 2;
  report_of_rewired = λ scene e plain. rw (e, plain) (simp root-is);
  kept = IsTextbookRun-computed open_setup (is_clear (at 100 100)) marks_to_keep kept_tree kept_records refl;
  cost_of_kept = sum-is kept_tree 2;
  report_of_kept = λ scene e plain. rw (e, plain) (simp root-is);
}
