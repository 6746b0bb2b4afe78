-- The nodes of a sound tree with their kept costs: they are the same run as the nodes alone, each at its sum.
use Rattle.seq_planner.proofs.Words.{◌≡◌, ℕ, zero, suc, List, [], ◌∷◌, length, get_or, Some, None, arith, refl, sym, ap, ◌∙◌, subst, Point, Record, ClearAt}
use Rattle.seq_planner.proofs.Words.{IsClosed, IsPresent, point_at, IsOfTextbookRun, Nodes, Setup, IsTextbookRun, points_of, parent_of, without_costs}
use Rattle.seq_planner.proofs.Words.{TreeState, AreSameRuns, state_of, HandlesAll-length, AreSameRuns-trans, IsClosed-same_run, IsClosed-textbook, kept_cost_of}
use Rattle.seq_planner.proofs.Words.{state_of_lists, PlacedPoints, IsSound, with_costs}
use Rattle.seq_planner.proofs.SoundTrees.{kept_sum}

-- without the kept costs they are the nodes again
without_costs-with_costs : (nodes : Nodes) (costs : List ℕ) → length costs ≡ length nodes → without_costs (with_costs nodes costs) ≡ nodes
without_costs-with_costs [] costs e = refl
without_costs-with_costs (twig ∷ nodes) [] e = cc
without_costs-with_costs (None ∷ nodes) (cost ∷ costs) e = ap (λ rest. None ∷ rest) (without_costs-with_costs nodes costs (omega (arith, e)))
without_costs-with_costs (Some node ∷ nodes) (cost ∷ costs) e = ap (λ rest. Some node ∷ rest) (without_costs-with_costs nodes costs (omega (arith, e)))

-- and each present node has its own
kept_cost_of-with_costs :
    (nodes : Nodes) (costs : List ℕ) (n : ℕ) → length costs ≡ length nodes → IsPresent (points_of nodes) n
    → kept_cost_of (get_or (with_costs nodes costs) n None) ≡ get_or costs n 0
kept_cost_of-with_costs [] costs n e h = cc
kept_cost_of-with_costs (twig ∷ nodes) [] n e h = cc
kept_cost_of-with_costs (None ∷ nodes) (cost ∷ costs) zero e h = cc
kept_cost_of-with_costs (Some node ∷ nodes) (cost ∷ costs) zero e h = refl
kept_cost_of-with_costs (twig ∷ nodes) (cost ∷ costs) (suc n) e h = kept_cost_of-with_costs nodes costs n (omega (arith, e)) h

module _ (nodes : Nodes) (costs : List ℕ) (placed : PlacedPoints) (records : List Record) (sound : IsSound nodes costs placed) where
  AreSameRuns-with_costs : AreSameRuns (state_of nodes records) (state_of_lists (with_costs nodes costs) records)
  AreSameRuns-with_costs =
      let same = without_costs-with_costs nodes costs sound.cost_count in
      record {
        points = λ n. ap (λ (t : Nodes). point_at (points_of t) n) same;
        parents = λ n h. ap (λ (t : Nodes). parent_of t n) same;
        costs = λ n h. kept_cost_of-with_costs nodes costs n sound.cost_count h ∙ sym (kept_sum nodes costs placed n sound h);
        records = λ k. refl;
      }

  module _ (setup : Setup) (marks : List Point) (run : IsTextbookRun setup marks nodes records) where
    -- so if the nodes are those of a textbook run from a clear start, they are closed
    pub IsClosed-with_costs :
        ClearAt setup.space setup.start → IsClosed setup marks (length records) (state_of_lists (with_costs nodes costs) records)
    IsClosed-with_costs clear =
        let closed = IsClosed-textbook setup marks nodes records clear run in
        let here = IsClosed-same_run setup marks (length marks) (state_of nodes records) (state_of_lists (with_costs nodes costs) records) closed
        AreSameRuns-with_costs in
        let P : ℕ → Type 0 = λ limit. IsClosed setup marks limit (state_of_lists (with_costs nodes costs) records) in
        subst P (sym (HandlesAll-length setup 0 _ marks records nodes run)) here

    -- and whatever is the same run as they are is of the textbook run
    pub IsOfTextbookRun-with_costs :
        (state : TreeState) → AreSameRuns (state_of_lists (with_costs nodes costs) records) state → IsOfTextbookRun setup marks state
    IsOfTextbookRun-with_costs state same = record {
      nodes = nodes;
      records = records;
      run = run;
      same = AreSameRuns-trans (state_of nodes records) (state_of_lists (with_costs nodes costs) records) state AreSameRuns-with_costs same;
    }
