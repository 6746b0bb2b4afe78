-- Runs that are the same have the same chains and sums, and one is settled or closed if the other is, and has grown into it.
use Rattle.plan_model.proofs.Words.{length, ◌≡◌, ℕ, zero, suc, List, [], ◌∷◌, map, refl, sym, ap, ◌∙◌, is_some, unwrap_or, Point, IsPresent, point_of}
use Rattle.plan_model.proofs.Words.{node_count, chain_within, length_of_path, TreeState, recorded_or, first_cost_of, chain_in, sum_in, IsSettled, AreSameRuns}
use Rattle.plan_model.proofs.Words.{state_of, ClearAt, IsClosed, IsOfTextbookRun, KeepsOrder, Setup}
use Rattle.plan_model.proofs.NodeCounts.{node_count-same}
use Rattle.plan_model.proofs.LoweredCosts.{HaveSameTree}
use Rattle.plan_model.proofs.ClosedLaws.{IsClosed-same}
use Rattle.plan_model.proofs.TextbookRuns.{IsClosed-textbook}
use Rattle.plan_model.proofs.PlacedNodes.{record-of_present}

-- If one run is the same as another, and that is the same as a last one, the first is the same as the last.
pub AreSameRuns-trans : (one other last : TreeState) → AreSameRuns one other → AreSameRuns other last → AreSameRuns one last
AreSameRuns-trans one other last same again =
    let here : (n : ℕ) → IsPresent one.points n → IsPresent other.points n = λ n h. ap is_some (same.points n) ∙ h in
    record {
      points = λ n. again.points n ∙ same.points n;
      parents = λ n h. again.parents n (here n h) ∙ same.parents n h;
      costs = λ n h. again.costs n (here n h) ∙ same.costs n h;
      records = λ k. again.records k ∙ same.records k;
    }

-- If one run is the same as another, that is the same as it.
pub AreSameRuns-sym : (one other : TreeState) → AreSameRuns one other → AreSameRuns other one
AreSameRuns-sym one other same =
    let here : (n : ℕ) → IsPresent other.points n → IsPresent one.points n = λ n h. ap is_some (sym (same.points n)) ∙ h in
    record {
      points = λ n. sym (same.points n);
      parents = λ n h. sym (same.parents n (here n h));
      costs = λ n h. sym (same.costs n (here n h));
      records = λ k. sym (same.records k);
    }

-- functions with the same values give the same list
map-same : {A : Type 0} (f g : ℕ → A) → ((n : ℕ) → f n ≡ g n) → (ns : List ℕ) → map f ns ≡ map g ns
map-same f g same [] = refl
map-same f g same (n ∷ ns) = ap (λ a. a ∷ map f ns) (same n) ∙ ap (λ rest. g n ∷ rest) (map-same f g same ns)

module _ (setup : Setup) (one other : TreeState) (order : KeepsOrder setup one) (same : AreSameRuns one other) where
  chain_within-same : (most n : ℕ) → IsPresent one.points n → chain_within most other.parent n ≡ chain_within most one.parent n
  chain_within-same zero n h = refl
  chain_within-same (suc most) zero h = refl
  chain_within-same (suc most) (suc n) h =
      ap (λ m. suc n ∷ chain_within most other.parent m) (same.parents (suc n) h)
      ∙ ap (λ ns. suc n ∷ ns) (chain_within-same most (one.parent (suc n)) (order.hangs n h).present)

  pub chain_in-same : (n : ℕ) → IsPresent one.points n → chain_in other n ≡ chain_in one n
  chain_in-same n h =
      ap (λ most. chain_within most other.parent n) (node_count-same one.points other.points same.points)
      ∙ chain_within-same (node_count one.points) n h

  pub sum_in-same : (n : ℕ) → IsPresent one.points n → sum_in other n ≡ sum_in one n
  sum_in-same n h =
      ap (λ ns. length_of_path (map (point_of other.points) ns)) (chain_in-same n h)
      ∙ ap length_of_path
      (map-same (point_of other.points) (point_of one.points) (λ m. ap (λ p. unwrap_or p (record { x = 0; y = 0 })) (same.points m)) (chain_in one n))

  pub IsSettled-same : IsSettled one → IsSettled other
  IsSettled-same settled n h =
      let here : IsPresent one.points n = ap is_some (sym (same.points n)) ∙ h in
      same.costs n here ∙ settled n here ∙ sym (sum_in-same n here)

-- a run that is the same as a closed one has its tree, with the first costs
HaveSameTree-runs :
    (setup : Setup) (marks : List Point) (limit : ℕ) (one other : TreeState) → IsClosed setup marks limit one
    → AreSameRuns one other → HaveSameTree one other
HaveSameTree-runs setup marks limit one other closed same = record {
  still = record { points = same.points; first_costs = first_costs; records = λ k entry h. same.records k ∙ h };
  parents = same.parents;
  costs = same.costs;
}
  where
    first_costs : (n : ℕ) → IsPresent one.points n → first_cost_of other n ≡ first_cost_of one n
    first_costs zero h = refl
    first_costs (suc k) h =
        let own = record-of_present one closed.placed k h in
        ap (recorded_or (other.written_cost (suc k))) (same.records k ∙ own.1) ∙ sym (ap (recorded_or (one.written_cost (suc k))) own.1)

-- a run that is the same as a closed one is closed
pub IsClosed-same_run :
    (setup : Setup) (marks : List Point) (limit : ℕ) (one other : TreeState) → IsClosed setup marks limit one
    → AreSameRuns one other → IsClosed setup marks limit other
IsClosed-same_run setup marks limit one other closed same =
    IsClosed-same setup marks limit one other same.records closed (HaveSameTree-runs setup marks limit one other closed same)

-- ---- the textbook run

module _
    (setup : Setup) (marks : List Point) (state : TreeState) (clear : ClearAt setup.space setup.start)
    (of_run : IsOfTextbookRun setup marks state) where
  closed_run : IsClosed setup marks (length marks) (state_of of_run.nodes of_run.records)
  closed_run = IsClosed-textbook setup marks of_run.nodes of_run.records clear of_run.run

  -- the tree of a textbook run is closed at the number of its marks
  pub IsClosed-of_textbook : IsClosed setup marks (length marks) state
  IsClosed-of_textbook =
      IsClosed-same_run setup marks (length marks) (state_of of_run.nodes of_run.records) state closed_run of_run.same

  -- and settled
  pub IsSettled-of_textbook : IsSettled state
  IsSettled-of_textbook =
      IsSettled-same setup (state_of of_run.nodes of_run.records) state closed_run.order of_run.same (λ n h. refl)
