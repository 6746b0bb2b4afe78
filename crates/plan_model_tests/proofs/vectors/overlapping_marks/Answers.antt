use Rattle.plan_model_tests.proofs.Words.{refl, marks_to_rewire, overlapped, overlapping_records}
use Rattle.plan_model_tests.proofs.ClosedDecisions.{closed}
use Rattle.plan_model_tests.proofs.vectors.overlapping_marks.Goals as goal

pub returns : goal.returns
returns c = record {
  closed = closed overlapped overlapping_records refl marks_to_rewire 3 refl;
  turns_before = refl;
  turns_after = refl;
  turns_of_other = refl;
  turns_of_none = refl;
}
