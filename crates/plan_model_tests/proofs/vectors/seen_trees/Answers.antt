use Rattle.std.proofs.Common.{true, refl, inr}
use Rattle.plan_model_tests.proofs.SeenByOne.{KeepsSight-return, not_seen_4, IsLaterMoment-return}
use Rattle.plan_model_tests.proofs.SeenByOne.{swept_beside_node_1, swept_beside_node_0, found_before_6, none_after_8}
use Rattle.plan_model_tests.proofs.SeenByTwo.{true_now, true_before, not_true_yet, taken_over, later_for_one, more_for_other, not_later_for_other}
use Rattle.plan_model_tests.proofs.vectors.seen_trees.Goals as goal

pub returns : goal.returns
returns c = record {
  later = IsLaterMoment-return;
  keeps = KeepsSight-return;
  seen = inr (1, true, refl);
  without_point = λ h. cc;
  not_seen = not_seen_4;
  swept = swept_beside_node_1;
  swept_at_node = λ free. absurd (free 2 refl);
  found_before = found_before_6;
  found_in_earlier_call = swept_beside_node_0;
  last_step = none_after_8;
  true_now = true_now;
  true_before = true_before;
  not_true_yet = not_true_yet;
  taken_over = taken_over;
  later_for_one = later_for_one;
  more_for_other = more_for_other;
  not_later_for_other = not_later_for_other;
}
