use Rattle.plan_model_tests.proofs.Words.{ℕ, refl, IsLinkInOrder, at, late, late_records, low_setup, open_setup, overlapped, small_setup, overlapping_records}
use Rattle.plan_model_tests.proofs.Decisions.{refuted, shown}
use Rattle.plan_model_tests.proofs.OrderDecisions.{is_clear}
use Rattle.plan_model_tests.proofs.RouteExamples.ChainLinks.{is_link}
use Rattle.plan_model_tests.proofs.routes.chains.links.Goals as goal

abbrev linked : (i n : ℕ) → Dec (IsLinkInOrder open_setup overlapped i n)
linked i n = is_link open_setup (is_clear (at 100 100)) overlapped overlapping_records refl i n

pub returns : goal.returns
returns c = record {
  of_one_worker = shown (linked 1 3) refl;
  back = refuted (linked 3 1) refl;
  of_two_workers = refuted (linked 2 3) refl;
  from_start = shown (linked 0 2) refl;
  to_start = refuted (linked 1 0) refl;
  not_clear = refuted (is_link low_setup (is_clear (at 100 49)) overlapped overlapping_records refl 1 3) refl;
  not_placed = refuted (is_link small_setup (is_clear (at 10 10)) late late_records refl 2 5) refl;
}
