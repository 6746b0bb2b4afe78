use Rattle.plan_model_tests.proofs.Words.{◌≡◌, [], ◌∷◌, false, refl, ended_at_start, one_node_more, overlapped_with, start_below_a_node, IsClosed, Record, at}
use Rattle.plan_model_tests.proofs.Words.{early_record, marks_to_rewire, open_setup, overlapped, overlapping_records, same_record}
use Rattle.plan_model_tests.proofs.ClosedDecisions.{closed, closes, unclosed}
use Rattle.plan_model_tests.proofs.Decisions.{holds}
use Rattle.plan_model_tests.proofs.vectors.unclosed_runs.Goals as goal

-- with a second and a third record
unclosed_with : (second third : Record)
    → holds (closes (overlapped_with (early_record ∷ second ∷ third ∷ [])) (early_record ∷ second ∷ third ∷ []) refl marks_to_rewire 3) ≡ false
    → ¬ IsClosed open_setup marks_to_rewire 3 (overlapped_with (early_record ∷ second ∷ third ∷ []))
unclosed_with second third = unclosed (overlapped_with (early_record ∷ second ∷ third ∷ [])) (early_record ∷ second ∷ third ∷ []) refl marks_to_rewire 3

pub returns : goal.returns
returns c = record {
  turn_twice = unclosed_with _ _ refl;
  turn_left_out = unclosed_with _ _ refl;
  record_too_many = unclosed overlapped overlapping_records refl marks_to_rewire 2 refl;
  record_too_few = unclosed overlapped overlapping_records refl (at 0 50 ∷ at 40 79 ∷ at 40 30 ∷ at 9 9 ∷ []) 4 refl;
  worker_past_the_last = unclosed_with _ _ refl;
  record_not_lawful = unclosed_with _ _ refl;
  order_not_kept = unclosed start_below_a_node overlapping_records refl marks_to_rewire 3 refl;
  node_without_a_record = unclosed one_node_more overlapping_records refl marks_to_rewire 3 refl;
  one_mark = closed ended_at_start (same_record 0 0 0 ∷ []) refl (at 0 0 ∷ []) 1 refl;
  limit_past_the_marks = unclosed ended_at_start (same_record 0 0 0 ∷ []) refl [] 1 refl;
}
