use Rattle.plan_model_tests.proofs.Words.{ℕ, List, [], ◌∷◌, refl, IsChain, IsChainInOrder, late, late_marks, late_records, late_tree, small_setup, at}
use Rattle.plan_model_tests.proofs.ComputedCosts.{root-is, sum-is}
use Rattle.plan_model_tests.proofs.ComputedRuns.{IsTextbookRun-computed}
use Rattle.plan_model_tests.proofs.Decisions.{refuted, shown}
use Rattle.plan_model_tests.proofs.OrderDecisions.{is_clear}
use Rattle.plan_model_tests.proofs.RouteExamples.ChainLinks.{is_chain, is_chain_in_order}
use Rattle.plan_model_tests.proofs.routes.chains.chains.Goals as goal

abbrev ordered : (nodes : List ℕ) → Dec (IsChainInOrder small_setup late nodes)
ordered nodes = is_chain_in_order small_setup (is_clear (at 10 10)) late late_records refl nodes

abbrev chained : (n : ℕ) (nodes : List ℕ) → Dec (IsChain small_setup late n nodes)
chained n nodes = is_chain small_setup (is_clear (at 10 10)) late late_records refl n nodes

pub returns : goal.returns
returns c = record {
  run = IsTextbookRun-computed small_setup (is_clear (at 10 10)) late_marks late_tree late_records refl;
  cost_of_moved = sum-is late_tree 2;
  cost_of_last = sum-is late_tree 3;
  in_order = shown (ordered (3 ∷ 1 ∷ 0 ∷ [])) refl;
  cost_in_order = simp root-is;
  longer_in_order = shown (ordered (3 ∷ 2 ∷ 1 ∷ 0 ∷ [])) refl;
  cost_of_longer = simp root-is;
  last_link_back = shown (chained 2 (4 ∷ 0 ∷ [])) refl;
  not_in_order = refuted (ordered (2 ∷ 4 ∷ 0 ∷ [])) refl;
  cost_of_way_back = simp root-is;
  out_of_order = refuted (chained 3 (2 ∷ 4 ∷ 0 ∷ [])) refl;
  cost_out_of_order = simp root-is;
  past_the_radius = refuted (chained 2 (0 ∷ [])) refl;
  cost_past_the_radius = simp root-is;
  start_alone = refl;
  begins_elsewhere = refuted (chained 3 (1 ∷ [])) refl;
}
