-- Two nodes of a textbook run at the ends of a near link: the one costs no more than the other was placed at and the edge, whichever of
-- them was placed first.
use Rattle.route_laws.proofs.Words.{◌≡◌, inl, inr, ℕ, zero, suc, ◌+◌, ◌*◌, ◌<◌, ◌≤◌, List, ◌∷◌, length, Some, arith, sym, ap, ◌∙◌, subst, IsTrue, slice_get}
use Rattle.route_laws.proofs.Words.{cases_order, le-leb, range_with_len, length-append, length-range_with_len, count_by-le-length, mul-le, least_radius}
use Rattle.route_laws.proofs.Common.{Point, Placed, Record, cost_of, squared_distance, radius_of, radius_of_class, IsClosed, has_outcome}
use Rattle.route_laws.proofs.Common.{is_placed, ending_as, first_hanging, IsNeighbour, IsPlacedLawfully, IsOfTextbookRun, Ends, Setup}
use Rattle.route_laws.proofs.Common.{start_alone, Clear, ClearAt, is_within, points_of, StandsAt, node_count, TreeState, first_cost_of, recorded_or}
use Rattle.route_laws.proofs.Common.{state_of, KeepsFirstCosts-closed, IsPlacedLawfully-closed, node_count-closed, cost_of-swap, squared_distance-swap}
use Rattle.route_laws.proofs.Common.{IsPresent-stands, StandsAt-unique, node_count-some, point_of-stands, record-of_present, Clear-back, IsClosed-textbook}
use Rattle.route_laws.proofs.FallingRadii.{radius_of-falls}
use Rattle.route_laws.proofs.FollowedRoutes.{IsEarlier-below, closed}
use Rattle.route_laws.proofs.PartsOfRuns.{ComesTo, ComesTo-each}

-- a point within a shorter radius is within a longer one
pub within_more : (p q : Point) (r s : ℕ) → squared_distance q p ≤ r * r → r ≤ s → IsTrue (is_within p s (Some q))
within_more p q r s near h = le-leb (squared_distance q p) (s * s) (omega (arith, near, mul-le r r s s h h))

module _
    (setup : Setup) (marks : List Point) (state : TreeState) (clear : ClearAt setup.space setup.start) (of_run : IsOfTextbookRun setup marks state)
    (least : ℕ) (lowest : least ≤ least_radius setup marks) where
  is_closed : IsClosed setup marks (length marks) state
  is_closed = closed setup marks state clear of_run

  -- the run comes to each mark with a record
  pub part_of_run : (k : ℕ) (entry : Record) → state.record_of k ≡ Some entry
      → ComesTo setup 0 (start_alone setup.start) marks of_run.records of_run.nodes k entry
  part_of_run k entry h =
      ComesTo-each setup 0 (start_alone setup.start) marks of_run.records of_run.nodes of_run.run k entry (sym (of_run.same.records k) ∙ h)

  -- there the radius is no less
  pub radius_in_part :
      (k : ℕ) (entry : Record) (part : ComesTo setup 0 (start_alone setup.start) marks of_run.records of_run.nodes k entry)
      → least ≤ radius_of setup.step setup.gamma (node_count (points_of part.tree))
  radius_in_part k entry part =
      let so_far = IsClosed-textbook setup part.done part.tree part.records clear part.run in
      let some = node_count-some (points_of part.tree) 0 (IsPresent-stands (points_of part.tree) 0 setup.start so_far.order.start_stands) in
      let nodes = node_count-closed setup part.done (length part.done) (state_of part.tree part.records) so_far in
      let placed = count_by-le-length (λ j. has_outcome is_placed (slice_get part.records j)) (range_with_len 0 (length part.done)) in
      let so_many = length-range_with_len 0 (length part.done) in
      let fewer = ap length part.marks_are ∙ length-append part.done (part.mark ∷ part.rest) in
      let many : node_count (points_of part.tree) ≤ suc (length marks) = omega (arith, nodes, placed, so_many, fewer) in
      omega (arith, lowest, radius_of-falls setup.step setup.gamma (node_count (points_of part.tree)) (suc (length marks)) some many)

  -- so is that of the class of a placed mark
  radius_of_mark : (k : ℕ) (entry : Record) → state.record_of k ≡ Some entry → entry.outcome ≡ Placed
      → least ≤ radius_of_class setup.step setup.gamma entry.class
  radius_of_mark k entry h placed =
      let part = part_of_run k entry h in
      let ends = subst (λ o. Ends setup part.tree (0 + k) part.mark (ending_as entry o) part.after) placed part.handled.ends in
      subst (λ c. least ≤ radius_of_class setup.step setup.gamma c) (sym ends.reaches.of_class) (radius_in_part k entry part)

  -- the record of the mark that gave a node
  record PlacesAt (j : ℕ) (p : Point) : Type 0 where
    entry : Record
    recorded : state.record_of j ≡ Some entry
    placed : entry.outcome ≡ Placed
    lawful : IsPlacedLawfully setup state j entry entry.nearest (first_hanging entry) p

  PlacesAt-stands : (j : ℕ) (p : Point) → StandsAt state.points (suc j) p → PlacesAt j p
  PlacesAt-stands j p stands =
      let own = record-of_present state is_closed.placed j (IsPresent-stands state.points (suc j) p stands) in
      let lawful = IsPlacedLawfully-closed setup marks (length marks) state is_closed j own.0 own.1 own.2 in
      let here = StandsAt-unique state.points (suc j) _ p lawful.by_tree.stands stands in
      let law : Point → Type 0 = IsPlacedLawfully setup state j own.0 own.0.nearest (first_hanging own.0) in
      record { entry = own.0; recorded = own.1; placed = own.2; lawful = subst law here lawful }

  -- an earlier node that is near is a neighbour
  IsNeighbour-near :
      (j i : ℕ) (p q : Point) (places : PlacesAt j p) → StandsAt state.points i q → i ≤ j → squared_distance q p ≤ least * least → Clear setup.space q p
      → IsNeighbour setup state places.entry places.entry.class p i
  IsNeighbour-near j i p q places stands low near open_way = record {
    earlier = IsEarlier-below setup marks state clear of_run i j places.entry (IsPresent-stands state.points i q stands) places.recorded low;
    near =
        subst (λ o. IsTrue (is_within p (radius_of_class setup.step setup.gamma places.entry.class) o)) (sym stands)
        (within_more p q least (radius_of_class setup.step setup.gamma places.entry.class) near
        (radius_of_mark j places.entry places.recorded places.placed));
    clear = subst (λ a. Clear setup.space a p) (sym (point_of-stands state.points i q stands)) open_way;
  }

  -- Node n costs no more than node m was placed at and the edge.
  pub cost-near :
      (m n : ℕ) (z a : Point) → StandsAt state.points m z → StandsAt state.points n a → squared_distance z a ≤ least * least → Clear setup.space z a
      → state.cost n ≤ first_cost_of state m + cost_of z a
  cost-near m n z a at_m at_n near open_way =
      elim (cases_order m n) [
        | inl e ↦ (
            let kept = (KeepsFirstCosts-closed setup marks (length marks) state is_closed).kept n (IsPresent-stands state.points n a at_n) in
            omega (arith, kept, ap (first_cost_of state) e))
        | inr (inl less) ↦ later m n z a at_m at_n near open_way less
        | inr (inr more) ↦ sooner m n z a at_m at_n near open_way more
      ]
    where
      later : (m n : ℕ) (z a : Point) → StandsAt state.points m z → StandsAt state.points n a → squared_distance z a ≤ least * least → Clear setup.space z a
          → m < n → state.cost n ≤ first_cost_of state m + cost_of z a
      later m zero z a at_m at_n near open_way less = absurd (omega (arith, less))
      later m (suc j) z a at_m at_n near open_way less =
          let places = PlacesAt-stands j a at_n in
          let chosen = places.lawful.by_worker.chosen m (IsNeighbour-near j m a z places at_m (omega (arith, less)) near open_way) in
          let here = ap (λ p. cost_of p a) (point_of-stands state.points m z at_m) in
          omega (arith, chosen, here, places.lawful.by_tree.kept)

      sooner : (m n : ℕ) (z a : Point) → StandsAt state.points m z → StandsAt state.points n a → squared_distance z a ≤ least * least → Clear setup.space z a
          → n < m → state.cost n ≤ first_cost_of state m + cost_of z a
      sooner zero n z a at_m at_n near open_way less = absurd (omega (arith, less))
      sooner (suc j) n z a at_m at_n near open_way less =
          let places = PlacesAt-stands j z at_m in
          let short : squared_distance a z ≤ least * least = omega (arith, near, squared_distance-swap a z) in
          let rewired =
          places.lawful.by_worker.rewired n (IsNeighbour-near j n z a places at_n (omega (arith, less)) short (Clear-back setup.space z a open_way)) in
          let here = ap (λ p. cost_of p z) (point_of-stands state.points n a at_n) ∙ cost_of-swap a z in
          let first = ap (recorded_or (state.written_cost (suc j))) places.recorded in
          omega (arith, rewired, here, first)
