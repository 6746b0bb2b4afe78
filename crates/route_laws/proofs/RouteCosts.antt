-- The end of a route of near links costs no more than the route, mark by mark: or a goal node does, by which a mark was skipped.
use Rattle.route_laws.proofs.Words.{◌≡◌, ◌⊎◌, inl, inr, ℕ, suc, ◌+◌, ◌*◌, ◌≤◌, Bool, true, false, List, [], ◌∷◌, length, map, Option, Some, arith, refl, sym}
use Rattle.route_laws.proofs.Words.{ap, ◌∙◌, subst, ◌&&◌, IsTrue, abs_diff, le_refl, true≢false, EndApart, IsNearLink, cost_of_route, end_of, ends_same}
use Rattle.route_laws.proofs.Words.{least_radius, AreLinks, IsRoute, Rise}
use Rattle.route_laws.proofs.Common.{Point, Outcome, Placed, Same, Blocked, Skipped, Record, cost_of, squared_distance, IsClosed, has_outcome, mark_at, is_same}
use Rattle.route_laws.proofs.Common.{HasLawfulEnding, ending_as, IsEarlier, IsOfTextbookRun, Ends, Setup, mark_bound, Clear, ClearAt, IsGoalNode, lies_in_goals}
use Rattle.route_laws.proofs.Common.{length_of_path, StandsAt, point_of, TreeState, recorded_or, cost_of-swap, bound_of-least, IsPresent-stands}
use Rattle.route_laws.proofs.Common.{point_of-stands, root_ceiling-zero, cost_of-triangle}
use Rattle.plan_model.specs.Geometry.Lengths.{root_ceiling}
use Rattle.route_laws.proofs.FollowedLinks.{ClearAt-node, ends_at, near}
use Rattle.route_laws.proofs.FollowedRoutes.{IsEarlier-below, closed, in_turn, record_there}
use Rattle.route_laws.proofs.NearNodePairs.{part_of_run}
use Rattle.route_laws.proofs.RouteNodes.{HasCome, cost-come, first_cost-placed, mark_is}

-- ---- ways of points

cost_of-alone : (p : Point) → cost_of p p ≡ 0
cost_of-alone p =
    let x : abs_diff p.x p.x ≡ 0 = omega arith in
    let y : abs_diff p.y p.y ≡ 0 = omega arith in
    let none : 65536 * squared_distance p p ≡ 0 = rw (x, y) refl in
    ap root_ceiling none ∙ root_ceiling-zero

-- a way costs no less than the edge between its ends
cost_of-end : (a : Point) (points : List Point) → cost_of a (end_of a points) ≤ length_of_path (a ∷ points)
cost_of-end a [] = omega (arith, cost_of-alone a)
cost_of-end a (b ∷ points) =
    omega (arith, cost_of-triangle a b (end_of b points), cost_of-end b points, cost_of-swap a b)

-- ---- how marks end

-- the same, by whether the mark before these ended at an older node
abbrev EndApartFrom : (ℕ → Option Record) → Bool → List ℕ → Type 0
EndApartFrom record_of before [] = Unit {0}
EndApartFrom record_of before (k ∷ numbers) = ((before && ends_same record_of k) ≡ false) × EndApartFrom record_of (ends_same record_of k) numbers

apart_from_first :
    (record_of : ℕ → Option Record) (k : ℕ) (numbers : List ℕ) → EndApart record_of (k ∷ numbers)
    → EndApartFrom record_of (ends_same record_of k) numbers
apart_from_first record_of k [] h = tt
apart_from_first record_of k (l ∷ numbers) h = (h.0, apart_from_first record_of l numbers h.1)

apart_from_start : (record_of : ℕ → Option Record) (numbers : List ℕ) → EndApart record_of numbers → EndApartFrom record_of false numbers
apart_from_start record_of [] h = tt
apart_from_start record_of (k ∷ numbers) h = (refl, apart_from_first record_of k numbers h)

module _
    (setup : Setup) (marks : List Point) (state : TreeState) (clear : ClearAt setup.space setup.start)
    (of_run : IsOfTextbookRun setup marks state) where
  abbrev least : ℕ
  least = least_radius setup marks

  is_closed : IsClosed setup marks (length marks) state
  is_closed = closed setup marks state clear of_run

  -- A node at z, or a goal node by which a mark was skipped, costs no more than this.
  pub record CostsWithin (z : Point) (total : ℕ) : Type 0 where
    pub node : ℕ
    pub place : StandsAt state.points node z ⊎ IsGoalNode setup.goals state.points node
    pub within : state.cost node ≤ total

  module _
      (first n k : ℕ) (a : Point) (sum : ℕ) (before : Bool) (entry : Record) (low : first ≤ k)
      (come : HasCome setup state least first n a sum before)
      (recorded : state.record_of k ≡ Some entry) (link : IsNearLink setup marks a (mark_at marks k)) where
    abbrev b : Point
    b = mark_at marks k

    earlier : IsEarlier state entry n
    earlier =
        IsEarlier-below setup marks state clear of_run n k entry (IsPresent-stands state.points n a come.stands) recorded (omega (arith, come.low, low))

    -- the segment of the link is clear
    open_way : Clear setup.space a b
    open_way =
        let here = ClearAt-node setup marks (length marks) state is_closed n (IsPresent-stands state.points n a come.stands) in
        link.open_link.clear a (subst (ClearAt setup.space) (point_of-stands state.points n a come.stands) here) (le_refl (squared_distance a b))

    from_start : cost_of setup.start b ≤ sum + cost_of a b
    from_start = omega (arith, cost_of-triangle setup.start a b, come.from_start)

    -- the route has come to the mark, or the mark was skipped
    abbrev ComesOn : Type 0
    ComesOn =
        ((m : ℕ) × HasCome setup state least (suc k) m b (sum + cost_of a b) (ends_same state.record_of k))
        ⊎ (IsGoalNode setup.goals state.points entry.nearest × (state.cost entry.nearest ≤ mark_bound setup b))

    comes_placed : entry.outcome ≡ Placed → StandsAt state.points (suc k) b
        → HasCome setup state least (suc k) (suc k) b (sum + cost_of a b) (ends_same state.record_of k)
    comes_placed e stands =
        let part = part_of_run setup marks state clear of_run least (le_refl least) k entry recorded in
        let ends = subst (λ o. Ends setup part.tree (0 + k) part.mark (ending_as entry o) part.after) e part.handled.ends in
        let placed =
        first_cost-placed setup marks state clear of_run k entry part least (le_refl least) first n a sum before
        low come b (sym (mark_is setup marks state clear of_run k entry part)) link.open_link.short link.near open_way ends in
        let first_cost = ap (recorded_or (state.written_cost (suc k))) recorded in
        record { low = le_refl (suc k); stands = stands; from_start = from_start; known = inl (omega (arith, placed, first_cost)) }

    -- a mark at an older node comes after one that was placed
    comes_same : (j : ℕ) → entry.outcome ≡ Same j → StandsAt state.points j b → (before && ends_same state.record_of k) ≡ false
        → HasCome setup state least (suc k) j b (sum + cost_of a b) (ends_same state.record_of k)
    comes_same j e stands apart =
        let ended : ends_same state.record_of k ≡ true = ap (has_outcome is_same) recorded ∙ ap is_same e in
        let stood = (in_turn setup marks state clear of_run k entry recorded).stood j e in
        elim (come.known) [
          | inl fresh ↦ record {
            low = omega (arith, stood);
            stands = stands;
            from_start = from_start;
            known = inr (record {
              followed = ended;
              other = n;
              begin = a;
              part = sum;
              low = omega (arith, come.low, low);
              stands = come.stands;
              first_cost = fresh;
              sum_is = le_refl (sum + cost_of a b);
              near = link.near;
              clear = open_way;
            });
          }
          | inr older ↦ (
              let both : (before && ends_same state.record_of k) ≡ true = ap (λ t. t && ends_same state.record_of k) older.followed ∙ ended in
              absurd (true≢false (sym both ∙ apart)))
        ]

    comes_on : (outcome : Outcome) → entry.outcome ≡ outcome → HasLawfulEnding setup state k b entry (ending_as entry outcome)
        → (before && ends_same state.record_of k) ≡ false → ComesOn
    comes_on Placed e h apart =
        inl (
          suc k,
          comes_placed e (ends_at setup marks (length marks) state is_closed k n a b entry come.stands earlier link.open_link _ h).by_tree.stands,
        )
    comes_on (Same j) e h apart =
        inl (j, comes_same j e (ends_at setup marks (length marks) state is_closed k n a b entry come.stands earlier link.open_link _ h) apart)
    comes_on Blocked e h apart =
        let blocked = (ends_at setup marks (length marks) state is_closed k n a b entry come.stands earlier link.open_link _ h).blocked in
        let closest = near setup marks (length marks) state is_closed k n a b entry come.stands earlier link.open_link _ h in
        absurd (blocked (link.open_link.clear (point_of state.points entry.nearest)
        (ClearAt-node setup marks (length marks) state is_closed entry.nearest h.present) closest))
    comes_on Skipped e h apart = inr (h.goal, h.within)

  -- ---- the whole route

  module _ (z : Point) (in_goal : (g : ℕ) → IsGoalNode setup.goals state.points g → IsTrue (lies_in_goals setup.goals z)) where
    -- a goal node by which the mark of b is skipped
    skipped_within :
        (g : ℕ) (b : Point) (sum : ℕ) (points : List Point) → z ≡ end_of b points → cost_of setup.start b ≤ sum → IsGoalNode setup.goals state.points g
        → state.cost g ≤ mark_bound setup b → CostsWithin z (sum + length_of_path (b ∷ points))
    skipped_within g b sum points e from_start goal within =
        let least_way = bound_of-least setup.start setup.goals b z (in_goal g goal) in
        let rest : cost_of b z ≤ length_of_path (b ∷ points) = subst (λ p. cost_of b p ≤ length_of_path (b ∷ points)) (sym e) (cost_of-end b points) in
        record { node = g; place = inr goal; within = omega (arith, within, least_way, rest, from_start) }

    walks :
        (numbers : List ℕ) (first n : ℕ) (a : Point) (sum : ℕ) (before : Bool) → HasCome setup state least first n a sum before
        → Rise first (length marks) numbers → AreLinks (IsNearLink setup marks) a (map (mark_at marks) numbers)
        → EndApartFrom state.record_of before numbers → z ≡ end_of a (map (mark_at marks) numbers)
        → CostsWithin z (sum + length_of_path (a ∷ map (mark_at marks) numbers))
    walks [] first n a sum before come rise links apart e =
        let cost = cost-come setup marks state clear of_run least (le_refl least) first n a sum before come in
        record { node = n; place = inl (come.stands ∙ ap Some (sym e)); within = omega (arith, cost) }
    walks (k ∷ numbers) first n a sum before come rise links apart e =
        let own = record_there (state.record_of k) (is_closed.records.recorded k rise.1) in
        let b : Point = mark_at marks k in
        let points : List Point = map (mark_at marks) numbers in
        let total : (sum + cost_of a b) + length_of_path (b ∷ points) ≡ sum + length_of_path (a ∷ b ∷ points) = omega (arith, cost_of-swap a b) in
        let lawful = is_closed.lawful k own.0 own.1 in
        subst (CostsWithin z) total (elim (comes_on first n k a sum before own.0 rise.0 come own.1 links.0 own.0.outcome refl lawful apart.0) [
          | inl on ↦ walks numbers (suc k) on.0 b (sum + cost_of a b) (ends_same state.record_of k) on.1 rise.2 links.1 apart.1 e
          | inr skipped ↦ skipped_within own.0.nearest b (sum + cost_of a b) points e
              (from_start first n k a sum before own.0 rise.0 come own.1 links.0) skipped.0 skipped.1
        ])

  pub CostsWithin-route :
      (numbers : List ℕ) → IsRoute setup marks (IsNearLink setup marks) numbers → EndApart state.record_of numbers
      → ((g : ℕ) → IsGoalNode setup.goals state.points g → IsTrue (lies_in_goals setup.goals (end_of setup.start (map (mark_at marks) numbers))))
      → CostsWithin (end_of setup.start (map (mark_at marks) numbers)) (cost_of_route setup marks numbers)
  CostsWithin-route numbers route apart in_goal =
      let begin : HasCome setup state least 0 0 setup.start 0 false =
      record {
        low = omega arith;
        stands = is_closed.order.start_stands;
        from_start = omega (arith, cost_of-alone setup.start);
        known = inl (omega arith);
      } in
      let whole = walks (end_of setup.start (map (mark_at marks) numbers)) in_goal numbers 0 0 setup.start 0 false begin route.rise route.links
      (apart_from_start state.record_of numbers apart) refl in
      subst (CostsWithin (end_of setup.start (map (mark_at marks) numbers))) (omega arith) whole
