-- Decisions of the record law.
use Rattle.plan_model_tests.proofs.Words.{◌≡◌, ℕ, zero, suc, ◌+◌, ◌<◌, ◌≤◌, None, List, length, ap, ◌∙◌, arith, inl, inr, is_some, slice_get, cases_lt}
use Rattle.plan_model_tests.proofs.Words.{slice_get_past, Point, Record, cost_of, class_of, radius_of_class, most_cost_of, HangsLawfully, HasClass}
use Rattle.plan_model_tests.proofs.Words.{IsBlockedLawfully, IsChosenLawfully, IsEarlier, IsLawfulRecord, IsNeighbour, IsPlacedLawfully, IsSkippedLawfully}
use Rattle.plan_model_tests.proofs.Words.{IsSteeredLawfully, earlier_count, first_cost_through, is_earlier, Setup, mark_bound, IsGoalNode, is_goal_point}
use Rattle.plan_model_tests.proofs.Words.{IsNotAbove, distance_to, is_within, StandsAt, node_count, point_at, point_of, TreeState, first_cost_of, FirstHanging}
use Rattle.plan_model_tests.proofs.Words.{Reached, NewNode, SameNode, NoWay, Ending, Steered, SkippedBy, ending_of, HasLawfulEnding, ReachesLawfully}
use Rattle.plan_model_tests.proofs.Decisions.{are_equal, as_of, denied, each_of, given, implied, is_at_most, is_point, is_true}
use Rattle.plan_model_tests.proofs.OrderDecisions.{Clears, hangs}
use Rattle.plan_model_tests.proofs.ComputedCosts.{bound, bound-is, cost, cost-is, steered-is, steered_to}

-- a pair is not above another
abbrev pub is_not_above : (key : ℕ → ℕ) (m i : ℕ) → Dec (IsNotAbove key m i)
is_not_above key m i =
    given (is_at_most (key m) (key i)) (λ h. h.least) (λ a.
    given (implied (are_equal (key i) (key m)) (is_at_most m i)) (λ h. h.first) (λ b.
    yes (record { least = a; first = b })))

-- no number past those of the records is that of an earlier node
pub earlier-few : (state : TreeState) (entry : Record) (records : List Record) → state.record_of ≡ slice_get records
    → (i : ℕ) → IsEarlier state entry i → i < suc (length records)
earlier-few state entry records is zero h = omega arith
earlier-few state entry records is (suc k) h =
    elim (cases_lt k (length records)) [
      | inl below ↦ omega (arith, below)
      | inr past ↦ (let none : state.record_of k ≡ None = ap (λ f. f k) is ∙ slice_get_past records k past in cc)
    ]

module _ (setup : Setup) (clears : Clears setup.space) (state : TreeState) (records : List Record) (is : state.record_of ≡ slice_get records) where
  module _ (entry : Record) where
    -- what is said of each earlier node
    abbrev pub of_earlier : (P : ℕ → Type 0) → ((i : ℕ) → Dec (P i)) → Dec ((i : ℕ) → IsEarlier state entry i → P i)
    of_earlier P test =
        each_of (IsEarlier state entry) P (suc (length records)) (earlier-few state entry records is)
        (λ i. implied (is_true (is_earlier state entry i)) (test i))

    module _ (class : ℕ) (p : Point) where
      abbrev pub is_neighbour : (i : ℕ) → Dec (IsNeighbour setup state entry class p i)
      is_neighbour i =
          given (is_true (is_earlier state entry i)) (λ h. h.earlier) (λ a.
          given (is_true (is_within p (radius_of_class setup.step setup.gamma class) (point_at state.points i))) (λ h. h.near) (λ b.
          given (clears (point_of state.points i) p) (λ h. h.clear) (λ c.
          yes (record { earlier = a; near = b; clear = c }))))

      abbrev pub of_neighbours : (P : ℕ → Type 0) → ((i : ℕ) → Dec (P i)) → Dec ((i : ℕ) → IsNeighbour setup state entry class p i → P i)
      of_neighbours P test =
          each_of (IsNeighbour setup state entry class p) P (suc (length records)) (λ i h. earlier-few state entry records is i h.earlier)
          (λ i. implied (is_neighbour i) (test i))

    module _ (m : ℕ) (p : Point) where
      module _ (first : FirstHanging) where
        -- what the new node costs by way of a node, at most or at least
        abbrev pub is_at_most_through : (i : ℕ) → Dec (first.cost ≤ first_cost_through state p i)
        is_at_most_through i =
            as_of (λ c. first.cost ≤ first_cost_of state i + c) (cost-is (point_of state.points i) p)
            (is_at_most first.cost (first_cost_of state i + cost (point_of state.points i) p))

        abbrev pub is_rewired : (i : ℕ) → Dec (state.cost i ≤ first.cost + cost_of (point_of state.points i) p)
        is_rewired i =
            as_of (λ c. state.cost i ≤ first.cost + c) (cost-is (point_of state.points i) p)
            (is_at_most (state.cost i) (first.cost + cost (point_of state.points i) p))

        abbrev pub has_class : (nodes : ℕ) → Dec (HasClass state entry first.class nodes)
        has_class nodes =
            given (is_at_most (class_of (earlier_count state entry)) first.class) (λ h. h.low) (λ a.
            given (is_at_most first.class (class_of nodes)) (λ h. h.high) (λ b.
            yes (record { low = a; high = b })))

        abbrev pub is_chosen_lawfully : Dec (IsChosenLawfully setup state entry m first p (node_count state.points))
        is_chosen_lawfully =
            given (clears (point_of state.points m) p) (λ h. h.clear) (λ a.
            given (has_class (node_count state.points)) (λ h. h.of_class) (λ b.
            given (of_neighbours first.class p (λ i. first.cost ≤ first_cost_through state p i) is_at_most_through) (λ h. h.chosen) (λ c.
            given (of_neighbours first.class p (λ i. state.cost i ≤ first.cost + cost_of (point_of state.points i) p) is_rewired) (λ h. h.rewired) (λ d.
            yes (record { clear = a; of_class = b; chosen = c; rewired = d })))))

        abbrev pub hangs_lawfully : (k : ℕ) → Dec (HangsLawfully setup state k m first p)
        hangs_lawfully k =
            given (is_point (point_at state.points (suc k)) p) (λ h. h.stands) (λ a.
            given (hangs setup clears state (suc k) p first.parent first.cost) (λ h. h.hangs) (λ b.
            given (denied (are_equal m (suc k))) (λ h. h.nearest_other) (λ c.
            given (is_at_most_through first.parent) (λ h. h.below_first) (λ d.
            given (is_at_most_through m) (λ h. h.below_nearest) (λ e.
            given (is_at_most first.cost (most_cost_of setup (node_count state.points))) (λ h. h.bounded) (λ f.
            given (is_at_most (state.cost (suc k)) first.cost) (λ h. h.kept) (λ g.
            yes (record { stands = a; hangs = b; nearest_other = c; below_first = d; below_nearest = e; bounded = f; kept = g }))))))))

        abbrev pub is_placed_lawfully : (k : ℕ) → Dec (IsPlacedLawfully setup state k entry m first p)
        is_placed_lawfully k =
            given is_chosen_lawfully (λ h. h.by_worker) (λ a.
            given (hangs_lawfully k) (λ h. h.by_tree) (λ b.
            yes (record { by_worker = a; by_tree = b })))

      abbrev pub is_blocked_lawfully : Dec (IsBlockedLawfully setup state entry m p)
      is_blocked_lawfully =
          given (denied (clears (point_of state.points m) p)) (λ h. h.blocked) (λ a.
          given (of_earlier (λ i. ¬ StandsAt state.points i p) (λ i. denied (is_point (point_at state.points i) p))) (λ h. h.free) (λ b.
          yes (record { blocked = a; free = b })))

      abbrev pub reaches_lawfully : (k : ℕ) (reached : Reached) → Dec (ReachesLawfully setup state k entry m reached p)
      reaches_lawfully k (NewNode first) = is_placed_lawfully first k
      reaches_lawfully k (SameNode j) = is_point (point_at state.points j) p
      reaches_lawfully k NoWay = is_blocked_lawfully

    module _ (k : ℕ) (mark : Point) where
      abbrev pub is_steered_lawfully : (m : ℕ) (reached : Reached) → Dec (IsSteeredLawfully setup state k mark entry m reached)
      is_steered_lawfully m reached =
          given
          (of_earlier (λ i. IsGoalNode setup.goals state.points i → mark_bound setup mark < first_cost_of state i)
          (λ i. implied (is_true (is_goal_point setup.goals (point_at state.points i)))
          (as_of (λ b. b < first_cost_of state i) (bound-is setup.start setup.goals mark)
          (is_at_most (suc (bound setup.start setup.goals mark)) (first_cost_of state i))))) (λ h. h.cheaper) (λ a.
          given (is_true (is_some (point_at state.points m))) (λ h. h.present) (λ b.
          given (of_earlier (IsNotAbove (distance_to mark state.points) m) (is_not_above (distance_to mark state.points) m)) (λ h. h.nearest) (λ c.
          given
          (as_of (ReachesLawfully setup state k entry m reached) (steered-is (point_of state.points m) mark setup.step)
          (reaches_lawfully m (steered_to (point_of state.points m) mark setup.step) k reached)) (λ h. h.outcome) (λ d.
          yes (record { cheaper = a; present = b; nearest = c; outcome = d })))))

      abbrev pub is_skipped_lawfully : (g : ℕ) → Dec (IsSkippedLawfully setup state mark g)
      is_skipped_lawfully g =
          given (is_true (is_goal_point setup.goals (point_at state.points g))) (λ h. h.goal) (λ a.
          given
          (as_of (λ b. state.cost g ≤ b) (bound-is setup.start setup.goals mark)
          (is_at_most (state.cost g) (bound setup.start setup.goals mark))) (λ h. h.within) (λ b.
          yes (record { goal = a; within = b })))

      abbrev pub has_lawful_ending : (ending : Ending) → Dec (HasLawfulEnding setup state k mark entry ending)
      has_lawful_ending (Steered nearest reached) = is_steered_lawfully nearest reached
      has_lawful_ending (SkippedBy goal_node) = is_skipped_lawfully goal_node

  abbrev pub is_lawful_record : (k : ℕ) (mark : Point) (entry : Record) → Dec (IsLawfulRecord setup state k mark entry)
  is_lawful_record k mark entry = has_lawful_ending entry k mark (ending_of entry)
