-- A node at a point of a route costs no more than the route up to there, in the run and where the run comes to a later mark.
use Rattle.route_laws.proofs.Words.{◌≡◌, ◌⊎◌, inl, inr, ℕ, zero, suc, ◌+◌, ◌*◌, ◌<◌, ◌≤◌, Bool, true, List, ◌∷◌, ◌++◌, length, Option, Some, None, arith, refl}
use Rattle.route_laws.proofs.Words.{sym, ap, ◌∙◌, subst, IsTrue, option_map, get_or-append_seam, get_or_append_left, length-append, length-map, least_radius}
use Rattle.route_laws.proofs.Common.{HandlesAll-nodes, Point, Record, Twig, cost_of, squared_distance, radius_of, mark_at, IsOfTextbookRun, EndsSteered}
use Rattle.route_laws.proofs.Common.{NewNode, first_hanging, IsCandidate, Setup, near_new, start_alone, Clear, ClearAt, is_within, points_of, sum_of, StandsAt}
use Rattle.route_laws.proofs.Common.{node_count, point_at, point_of, TreeState, first_cost_of, recorded_or, state_of, KeepsFirstCosts-closed, Contains-after}
use Rattle.route_laws.proofs.Common.{Contains-near, IsPresent-stands, point_of-stands, record-of_present, steered-near, IsClosed-textbook}
use Rattle.route_laws.proofs.FallingRadii.{radius_of-falls}
use Rattle.route_laws.proofs.FollowedRoutes.{closed}
use Rattle.route_laws.proofs.NearNodePairs.{cost-near, radius_in_part, within_more}
use Rattle.route_laws.proofs.PartsOfRuns.{ComesTo}

-- The mark of a ended at an older node, and some node stands where a near link to a begins, which was placed at no more than the sum without
-- that link.
pub record IsOlder (setup : Setup) (state : TreeState) (least first : ℕ) (a : Point) (sum : ℕ) (before : Bool) : Type 0 where
  pub followed : before ≡ true
  pub other : ℕ
  pub begin : Point
  pub part : ℕ
  pub low : other ≤ first
  pub stands : StandsAt state.points other begin
  pub first_cost : first_cost_of state other ≤ part
  pub sum_is : part + cost_of begin a ≤ sum
  pub near : squared_distance begin a ≤ least * least
  pub clear : Clear setup.space begin a

-- Node n stands at a, where the route so far ends, which costs this sum: it was placed at no more, or its mark ended at an older node.
pub record HasCome (setup : Setup) (state : TreeState) (least first n : ℕ) (a : Point) (sum : ℕ) (before : Bool) : Type 0 where
  pub low : n ≤ first
  pub stands : StandsAt state.points n a
  pub from_start : cost_of setup.start a ≤ sum
  pub known : (first_cost_of state n ≤ sum) ⊎ IsOlder setup state least first a sum before

-- ---- in a textbook run

module _
    (setup : Setup) (marks : List Point) (state : TreeState) (clear : ClearAt setup.space setup.start) (of_run : IsOfTextbookRun setup marks state)
    (least : ℕ) (lowest : least ≤ least_radius setup marks) (first n : ℕ) (a : Point) (sum : ℕ) (before : Bool) where
  pub cost-come : HasCome setup state least first n a sum before → state.cost n ≤ sum
  cost-come come =
      elim (come.known) [
        | inl fresh ↦ (
            let kept =
            (KeepsFirstCosts-closed setup marks (length marks) state (closed setup marks state clear of_run)).kept n
            (IsPresent-stands state.points n a come.stands) in
            omega (arith, kept, fresh))
        | inr older ↦ (
            let near = cost-near setup marks state clear of_run least lowest older.other n older.begin a older.stands come.stands older.near older.clear in
            omega (arith, near, older.first_cost, older.sum_is))
      ]

-- ---- where the run comes to a mark

module _
    (setup : Setup) (marks : List Point) (state : TreeState) (clear : ClearAt setup.space setup.start) (of_run : IsOfTextbookRun setup marks state)
    (k : ℕ) (entry : Record) (part : ComesTo setup 0 (start_alone setup.start) marks of_run.records of_run.nodes k entry) where
  pub of_part : IsOfTextbookRun setup part.done (state_of part.tree part.records)
  of_part = record {
    nodes = part.tree;
    records = part.records;
    run = part.run;
    same = record { points = λ n. refl; parents = λ n h. refl; costs = λ n h. refl; records = λ j. refl };
  }

  -- the mark is mark k
  pub mark_is : part.mark ≡ mark_at marks k
  mark_is =
      sym (ap (λ ms. mark_at ms k) part.marks_are ∙ sym (ap (mark_at (part.done ++ part.mark ∷ part.rest)) part.so_many)
      ∙ get_or-append_seam part.done part.mark part.rest (record { x = 0; y = 0 }))

  -- a node with no later number stands there already
  pub StandsAt-there : (n : ℕ) (p : Point) → n ≤ k → StandsAt state.points n p → StandsAt (points_of part.tree) n p
  StandsAt-there n p low stands =
      let long = HandlesAll-nodes setup 0 (start_alone setup.start) part.done part.records part.tree part.run in
      let below : n < length (points_of part.tree) = omega (arith, length-map part.tree (option_map (λ (node : Twig). node.point)), long, part.so_many, low) in
      sym (get_or_append_left (points_of part.tree) part.points.0 None n below)
      ∙ sym (ap (λ points. point_at points n) part.points.1)
      ∙ sym (of_run.same.points n) ∙ stands

  -- and was placed at the same cost
  pub first_cost-there : (n : ℕ) (p : Point) → StandsAt (points_of part.tree) n p → first_cost_of (state_of part.tree part.records) n ≡ first_cost_of state n
  first_cost-there zero p stands = refl
  first_cost-there (suc j) p stands =
      let so_far = IsClosed-textbook setup part.done part.tree part.records clear part.run in
      let own = record-of_present (state_of part.tree part.records) so_far.placed j (IsPresent-stands (points_of part.tree) (suc j) p stands) in
      let later : state.record_of j ≡ Some own.0 = of_run.same.records j ∙ part.recorded j own.0 own.1 in
      ap (recorded_or 0) own.1 ∙ sym (ap (recorded_or (state.written_cost (suc j))) later)

  module _
      (least : ℕ) (lowest : least ≤ least_radius setup marks) (first n : ℕ) (a : Point) (sum : ℕ) (before : Bool) (low : first ≤ k)
      (come : HasCome setup state least first n a sum before) where
    lowest_there : least ≤ least_radius setup part.done
    lowest_there =
        let fewer = ap length part.marks_are ∙ length-append part.done (part.mark ∷ part.rest) in
        omega (
          arith,
          lowest,
          radius_of-falls setup.step setup.gamma (suc (length part.done)) (suc (length marks)) (omega arith) (omega (arith, fewer)),
        )

    -- the route so far has come as far there
    come_there : HasCome setup (state_of part.tree part.records) least first n a sum before
    come_there =
        let here = StandsAt-there n a (omega (arith, come.low, low)) come.stands in
        record {
          low = come.low;
          stands = here;
          from_start = come.from_start;
          known = elim (come.known) [
            | inl fresh ↦ inl (omega (arith, fresh, first_cost-there n a here))
            | inr older ↦ (
                let other_here = StandsAt-there older.other older.begin (omega (arith, older.low, low)) older.stands in
                inr (record {
                  followed = older.followed;
                  other = older.other;
                  begin = older.begin;
                  part = older.part;
                  low = older.low;
                  stands = other_here;
                  first_cost = omega (arith, older.first_cost, first_cost-there older.other older.begin other_here);
                  sum_is = older.sum_is;
                  near = older.near;
                  clear = older.clear;
                }))
          ];
        }

    cost_there : sum_of part.tree n ≤ sum
    cost_there =
        cost-come setup part.done (state_of part.tree part.records) clear of_part least lowest_there first n a sum before come_there

    -- if the mark is placed at the end of a near link, it is so at no more than the route up to there
    pub first_cost-placed :
        (b : Point) → b ≡ part.mark → squared_distance a b ≤ setup.step * setup.step → squared_distance a b ≤ least * least → Clear setup.space a b
        → EndsSteered setup part.tree (0 + k) part.mark entry.nearest (NewNode (first_hanging entry)) part.after → entry.first_cost ≤ sum + cost_of a b
    first_cost-placed b is short near open_way ends =
        let points : List (Option Point) = points_of part.tree in
        let here : StandsAt points n a = StandsAt-there n a (omega (arith, come.low, low)) come.stands in
        let place : point_of points n ≡ a = point_of-stands points n a here in
        let closest = (ends.steers.nearest.not_above n (IsPresent-stands points n a here)).least in
        let distance : squared_distance (point_of points n) part.mark ≡ squared_distance a b =
        ap (λ p. squared_distance p part.mark) place ∙ ap (squared_distance a) (sym is) in
        let at_mark : ends.point ≡ b =
        ends.steers.reached ∙ steered-near (point_of points entry.nearest) part.mark setup.step (omega (arith, closest, distance, short)) ∙ sym is in
        let radius : ℕ = radius_of setup.step setup.gamma (node_count points) in
        let within = within_more b a least radius near (radius_in_part setup marks state clear of_run least lowest k entry part) in
        let is_near = Contains-near points b radius n (subst (λ o. IsTrue (is_within b radius o)) (sym here) within) in
        let among = Contains-after entry.nearest (near_new setup points b) n is_near in
        let candidate : IsCandidate setup points entry.nearest b n =
        record { among = among; clear = subst (λ p. Clear setup.space p b) (sym place) open_way } in
        let best = (ends.reaches.parent.not_above n (subst (λ p. IsCandidate setup points entry.nearest p n) (sym at_mark) candidate)).least in
        let edge : cost_of (point_of points n) ends.point ≡ cost_of a b = ap (λ p. cost_of p ends.point) place ∙ ap (cost_of a) at_mark in
        omega (arith, best, ends.reaches.cost, edge, cost_there)
