-- A textbook run of given marks, computed with what shows that it is one. Which nodes are nearest and best is taken from records.
use Rattle.plan_model_tests.proofs.Words.{◌≡◌, ℕ, suc, ◌+◌, ◌<◌, ◌≤◌, Option, Some, None, List, [], ◌∷◌, ◌++◌, length, refl, sym, subst, inl, inr, Contains}
use Rattle.plan_model_tests.proofs.Words.{is_some, IsPresent-goal, IsPresent-below, Point, Record, class_of, Handles, HandlesAll, IsBestGoalNode, IsBestParent}
use Rattle.plan_model_tests.proofs.Words.{IsCandidate, IsCheaperThrough, IsTextbookRun, MayBeCheaper, Nodes, Rewires, RewiresOne, Setup, SteersTo, cost_through}
use Rattle.plan_model_tests.proofs.Words.{mark_bound, near_new, start_alone, with_parent, Clear, IsGoalNode, is_goal_point, IsFirstLeast, IsNotAbove, IsNearest}
use Rattle.plan_model_tests.proofs.Words.{distance_to, points_of, sum_of, IsFree, StandsAt, node_count, point_at, point_of, Reached, NewNode, SameNode, NoWay}
use Rattle.plan_model_tests.proofs.Words.{Ending, Steered, SkippedBy, ending_of, Ends, Reaches, same_Some, Goal, empty_room}
use Rattle.plan_model_tests.proofs.Decisions.{are_equal, as_of, contains, denied, each_member, each_of, given, if_so, if_there, implied}
use Rattle.plan_model_tests.proofs.Decisions.{is_at_most, is_point, is_true}
use Rattle.plan_model_tests.proofs.OrderDecisions.{Clears, StandsAt-below, is_clear, of_nodes}
use Rattle.plan_model_tests.proofs.RecordDecisions.{is_not_above}
use Rattle.plan_model_tests.proofs.ComputedCosts.{bound, bound-is, cost, cost-is, steered-is, steered_to, sum, sum-is}

pub IsGoalNode-few : (setup : Setup) (points : List (Option Point)) (i : ℕ) → IsGoalNode setup.goals points i → i < length points
IsGoalNode-few setup points i goal = IsPresent-below points i (IsPresent-goal setup.goals (point_at points i) goal)

-- ---- points
module _ (points : List (Option Point)) (p : Point) where
  abbrev pub is_nearest : (m : ℕ) → Dec (IsNearest points p m)
  is_nearest m =
      given (is_true (is_some (point_at points m))) (λ h. h.member) (λ a.
      given (of_nodes (IsNotAbove (distance_to p points) m) points (is_not_above (distance_to p points) m)) (λ h. h.not_above) (λ b.
      yes (record { member = a; not_above = b })))

  abbrev pub is_free : Dec (IsFree points p)
  is_free =
      each_of (λ j. StandsAt points j p) (λ j. ⊥) (length points) (λ j. StandsAt-below points j p) (λ j. denied (is_point (point_at points j) p))

-- ---- what nodes cost
-- what a point costs through each node
pub through-is : (tree : Nodes) (p : Point) → cost_through tree p ≡ (λ i. sum tree i + cost (point_of (points_of tree) i) p)
through-is tree p = λ j i. sum-is tree i j + cost-is (point_of (points_of tree) i) p j

module _ (setup : Setup) (clears : Clears setup.space) where
  -- ---- rewiring

  abbrev pub is_cheaper_through : (tree : Nodes) (n i : ℕ) → Dec (IsCheaperThrough setup.space tree n i)
  is_cheaper_through tree n i =
      let p = point_of (points_of tree) i in
      given
      (as_of (λ c. c n < sum_of tree i) (through-is tree p)
      (as_of (λ c. sum tree n + cost (point_of (points_of tree) n) p < c) (sum-is tree i)
      (is_at_most (suc (sum tree n + cost (point_of (points_of tree) n) p)) (sum tree i)))) (λ h. h.cheaper) (λ a.
      given (clears (point_of (points_of tree) n) p) (λ h. h.clear) (λ b.
      yes (record { cheaper = a; clear = b })))

  abbrev pub rewired_one : (tree : Nodes) (n i : ℕ) → Dec (IsCheaperThrough setup.space tree n i) → (after : Nodes) × RewiresOne setup.space tree n i after
  rewired_one tree n i (yes cheaper) = (with_parent tree i n, inl (cheaper, refl))
  rewired_one tree n i (no dearer) = (tree, inr (dearer, refl))

  abbrev pub rewired : (tree : Nodes) (n : ℕ) (near : List ℕ) → (after : Nodes) × Rewires setup.space tree n near after
  rewired tree n [] = (tree, refl)
  rewired tree n (i ∷ near) =
      let one = rewired_one tree n i (is_cheaper_through tree n i) in
      let rest = rewired one.0 n near in
      (rest.0, (one.0, one.1, rest.1))

  -- ---- one mark

  module _ (tree : Nodes) (k : ℕ) (mark : Point) where
    abbrev pub may_be_cheaper : Dec (MayBeCheaper setup (sum_of tree) (points_of tree) mark)
    may_be_cheaper =
        each_of (IsGoalNode setup.goals (points_of tree)) (λ i. mark_bound setup mark < sum_of tree i) (length (points_of tree))
        (IsGoalNode-few setup (points_of tree))
        (λ i. implied (is_true (is_goal_point setup.goals (point_at (points_of tree) i)))
        (as_of (λ b. b < sum_of tree i) (bound-is setup.start setup.goals mark)
        (as_of (λ c. bound setup.start setup.goals mark < c) (sum-is tree i) (is_at_most (suc (bound setup.start setup.goals mark)) (sum tree i)))))

    abbrev pub is_best_goal_node : (g : ℕ) → Dec (IsBestGoalNode setup tree g)
    is_best_goal_node g =
        as_of (λ key. IsFirstLeast key (IsGoalNode setup.goals (points_of tree)) g) (λ j i. sum-is tree i j)
        (given (is_true (is_goal_point setup.goals (point_at (points_of tree) g))) (λ h. h.member) (λ a.
        given
        (each_of (IsGoalNode setup.goals (points_of tree)) (IsNotAbove (sum tree) g) (length (points_of tree)) (IsGoalNode-few setup (points_of tree))
        (λ i. implied (is_true (is_goal_point setup.goals (point_at (points_of tree) i))) (is_not_above (sum tree) g i))) (λ h. h.not_above) (λ b.
        yes (record { member = a; not_above = b }))))

    abbrev pub skipped : (g : ℕ) → Option ((after : Nodes) × Ends setup tree k mark (SkippedBy g) after)
    skipped g =
        if_so (is_best_goal_node g) (λ a.
        if_so
        (as_of (λ c. c ≤ mark_bound setup mark) (sum-is tree g)
        (as_of (λ b. sum tree g ≤ b) (bound-is setup.start setup.goals mark) (is_at_most (sum tree g) (bound setup.start setup.goals mark)))) (λ b.
        Some (tree ++ None ∷ [], record { best = a; within = b; added = refl })))

    module _ (m : ℕ) where
      -- where node m steers to
      abbrev pub target : Point
      target = steered_to (point_of (points_of tree) m) mark setup.step

      pub SteersTo-target : IsNearest (points_of tree) mark m → SteersTo setup (points_of tree) mark m target
      SteersTo-target near = record { nearest = near; reached = sym (steered-is (point_of (points_of tree) m) mark setup.step) }

      abbrev pub candidates : List ℕ
      candidates = m ∷ near_new setup (points_of tree) target

      abbrev pub through : ℕ → ℕ
      through i = sum tree i + cost (point_of (points_of tree) i) target

      pub of-candidates : (P : ℕ → Type 0) → ((i : ℕ) → Contains candidates i → Clear setup.space (point_of (points_of tree) i) target → P i)
          → (i : ℕ) → IsCandidate setup (points_of tree) m target i → P i
      of-candidates P h i own = h i own.among own.clear

      abbrev pub is_best_parent : (f : ℕ) → Dec (IsBestParent setup tree m target f)
      is_best_parent f =
          as_of (λ key. IsFirstLeast key (IsCandidate setup (points_of tree) m target) f) (through-is tree target)
          (given
          (given (contains candidates f) (λ h. h.among) (λ a.
          given (clears (point_of (points_of tree) f) target) (λ h. h.clear) (λ b.
          yes (record { among = a; clear = b })))) (λ h. h.member) (λ a.
          given
          (each_member candidates (λ i. Clear setup.space (point_of (points_of tree) i) target → IsNotAbove through f i)
          (λ i. implied (clears (point_of (points_of tree) i) target) (is_not_above through f i)))
          (λ h i own clear. h.not_above i (record { among = own; clear = clear })) (λ b.
          yes (record { member = a; not_above = of-candidates (IsNotAbove through f) b }))))

      abbrev pub reaches : (reached : Reached) → Option ((after : Nodes) × Reaches setup tree k m target reached after)
      reaches (NewNode first) =
          if_so (is_free (points_of tree) target) (λ a.
          if_so (clears (point_of (points_of tree) m) target) (λ b.
          if_so (is_best_parent first.parent) (λ c.
          if_so (as_of (λ key. first.cost ≡ key first.parent) (through-is tree target) (are_equal first.cost (through first.parent))) (λ d.
          if_so (are_equal first.class (class_of (node_count (points_of tree)))) (λ e.
          let more = rewired (tree ++ Some (record { point = target; parent = first.parent }) ∷ []) (suc k) (near_new setup (points_of tree) target) in
          Some (more.0, record { free = a; clear = b; parent = c; cost = d; of_class = e; rewired = more.1 }))))))
      reaches (SameNode j) = if_so (is_point (point_at (points_of tree) j) target) (λ a. Some (tree ++ None ∷ [], (a, refl)))
      reaches NoWay =
          if_so (is_free (points_of tree) target) (λ a.
          if_so (denied (clears (point_of (points_of tree) m) target)) (λ b.
          Some (tree ++ None ∷ [], (record { free = a; blocked = b }, refl))))

    -- as its record says
    abbrev pub ended : (ending : Ending) → Option ((after : Nodes) × Ends setup tree k mark ending after)
    ended (Steered m reached) =
        if_so may_be_cheaper (λ a.
        if_so (is_nearest (points_of tree) mark m) (λ b.
        if_there (reaches m reached) (λ c.
        Some (c.0, record { cheaper = a; point = target m; steers = SteersTo-target m b; reaches = c.1 }))))
    ended (SkippedBy g) = skipped g

    abbrev pub handled : (entry : Record) → Option ((after : Nodes) × Handles setup tree k mark entry after)
    handled entry =
        if_so (are_equal entry.worker 0) (λ a.
        if_so (are_equal entry.turn k) (λ b.
        if_there (ended (ending_of entry)) (λ c.
        Some (c.0, record { worker = a; turn = b; ends = c.1 }))))

  -- ---- whole runs

  abbrev pub handled_all : (k : ℕ) (tree : Nodes) (marks : List Point) (entries : List Record)
      → Option ((after : Nodes) × HandlesAll setup k tree marks entries after)
  handled_all k tree [] [] = Some (tree, refl)
  handled_all k tree [] (entry ∷ entries) = None
  handled_all k tree (mark ∷ marks) [] = None
  handled_all k tree (mark ∷ marks) (entry ∷ entries) =
      if_there (handled tree k mark entry) (λ one.
      if_there (handled_all (k + 1) one.0 marks entries) (λ rest.
      Some (rest.0, (one.0, one.1, rest.1))))

  module _ (marks : List Point) (records : List Record) where
    abbrev pub last_tree : Option ((after : Nodes) × IsTextbookRun setup marks after records) → Option Nodes
    last_tree None = None
    last_tree (Some run) = Some run.0

    run-of_tree : (tree : Nodes) (run : Option ((after : Nodes) × IsTextbookRun setup marks after records)) → last_tree run ≡ Some tree
        → IsTextbookRun setup marks tree records
    run-of_tree tree None e = cc
    run-of_tree tree (Some run) e = subst (λ after. IsTextbookRun setup marks after records) (same_Some run.0 tree e) run.1

  pub IsTextbookRun-computed : (marks : List Point) (tree : Nodes) (records : List Record)
      → last_tree marks records (handled_all 0 (start_alone setup.start) marks records) ≡ Some tree → IsTextbookRun setup marks tree records
  IsTextbookRun-computed marks tree records e = run-of_tree marks records tree (handled_all 0 (start_alone setup.start) marks records) e

-- of setups in empty rooms
module _ (room start : Point) (step gamma : ℕ) (goals : List Goal) (marks : List Point) (tree : Nodes) (records : List Record) where
  abbrev pub in_room : Setup
  in_room = record { space = empty_room room; start = start; step = step; gamma = gamma; goals = goals }

  pub runs : last_tree in_room (is_clear room) marks records (handled_all in_room (is_clear room) 0 (start_alone start) marks records) ≡ Some tree
      → IsTextbookRun in_room marks tree records
  runs = IsTextbookRun-computed in_room (is_clear room) marks tree records
