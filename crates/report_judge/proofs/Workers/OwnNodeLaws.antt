-- The nodes of a worker that stood before a turn, and searches among them by their places.
use Rattle.report_judge.proofs.Words.{◌≡◌, ℕ, zero, suc, ◌+◌, ◌*◌, ◌<◌, ◌≤◌, Bool, true, eqb, ltb, List, [], ◌∷◌, ◌++◌, length, Option, Some, None, arith, refl}
use Rattle.report_judge.proofs.Words.{sym, ap, ◌∙◌, subst, inl, inr, ◌&&◌, ◌⊎◌, Contains, slice_get, slice_index_or, IsPermutation, abs_diff, and_parts}
use Rattle.report_judge.proofs.Words.{cases_eq, cases_lt, eqb-true, le-leb, leb-true, ltb-true, get_or_default, All-push, Contains-append_left, Contains-push}
use Rattle.report_judge.proofs.Words.{All-permutation, Contains-permutation, ConfigurationSpace, Point, Record, Knot, Judged, IsJudged, run_of, IsBounded}
use Rattle.report_judge.proofs.Words.{cost_of, squared_distance, is_placed, IsEarlier, Clear, distance_to, is_within, StandsAt, point_at, point_of, TreeState}
use Rattle.report_judge.proofs.Words.{first_cost_of, same-from_distance, StandsAt-present, point_of-stands, state_of_lists, IsWithin, numbered_at, nowhere}
use Rattle.report_judge.proofs.Words.{HasNoneBetween, IsStretchAfter, Numbered, Stretch, AreNodesBefore, HasNo, HasOne, IsPassedOverAt, IsNearerAt}
use Rattle.report_judge.proofs.Words.{IsNodeBefore, IsPlacedAt, IsUnlawfulAt, IsNearestOfEarlier, IsTaken, KeepsNear, HaveOwnTurns, IsMarkOfTurn, is_before}
use Rattle.report_judge.proofs.Words.{places_before, AreStandings, place_of, standing_at, standing_of, turns_to, NearerSearch, NeighbourSearch, Standing}
use Rattle.report_judge.proofs.Words.{FitsEdges, nat_tests}
use Rattle.report_judge.proofs.Laws.ListedNodes.{none-stands, same-listed}
use Rattle.report_judge.proofs.Workers.SeenLaws.{is_before-earlier}

-- ---- before a turn

-- a record of a mark that the worker placed before a turn
pub record IsPlacedBefore (worker turn : ℕ) (o : Option Record) : Type 0 where
  pub entry : Record
  pub is : o ≡ Some entry
  pub placed : is_placed entry.outcome ≡ true
  pub mine : entry.worker ≡ worker
  pub low : entry.turn < turn

pub placed_before : (worker turn : ℕ) (o : Option Record) → places_before worker turn o ≡ true → IsPlacedBefore worker turn o
placed_before worker turn None h = absurd (cc)
placed_before worker turn (Some entry) h =
    let parts = and_parts (is_placed entry.outcome) (eqb entry.worker worker && ltb entry.turn turn) h in
    let own = and_parts (eqb entry.worker worker) (ltb entry.turn turn) parts.1 in
    record { entry = entry; is = refl; placed = parts.0; mine = eqb-true entry.worker worker own.0; low = ltb-true entry.turn turn own.1 }

before_placed : (worker turn : ℕ) (entry : Record) → is_placed entry.outcome ≡ true → entry.worker ≡ worker → entry.turn < turn
    → places_before worker turn (Some entry) ≡ true
before_placed worker turn entry placed mine low = grind (arith, nat_tests)

pub is_before-placed : (worker turn : ℕ) (record_of : ℕ → Option Record) (k : ℕ) (entry : Record) → record_of k ≡ Some entry
    → is_placed entry.outcome ≡ true → entry.worker ≡ worker → entry.turn < turn → is_before worker turn record_of (suc k) ≡ true
is_before-placed worker turn record_of k entry is placed mine low =
    ap (places_before worker turn) is ∙ before_placed worker turn entry placed mine low

pub is_before-later : (worker turn later : ℕ) (record_of : ℕ → Option Record) (n : ℕ) → turn ≤ later → is_before worker turn record_of n ≡ true
    → is_before worker later record_of n ≡ true
is_before-later worker turn later record_of zero up before = refl
is_before-later worker turn later record_of (suc k) up before =
    let own = placed_before worker turn (record_of k) before in
    is_before-placed worker later record_of k own.entry own.is own.placed own.mine (omega (arith, own.low, up))

pub place_low : (worker turn : ℕ) (record_of : ℕ → Option Record) (n : ℕ) → is_before worker turn record_of n ≡ true → place_of record_of n ≤ turn
place_low worker turn record_of zero before = omega arith
place_low worker turn record_of (suc k) before =
    let own = placed_before worker turn (record_of k) before in
    omega (arith, own.low, ap turns_to own.is)

before_earlier : (state : TreeState) (entry : Record) (turn n : ℕ) → is_before entry.worker turn state.record_of n ≡ true
    → place_of state.record_of n ≤ entry.turn → IsEarlier state entry n
before_earlier state entry turn zero before low = refl
before_earlier state entry turn (suc k) before low =
    let own = placed_before entry.worker turn (state.record_of k) before in
    is_before-earlier state entry (suc k)
    ∙ is_before-placed entry.worker entry.turn state.record_of k own.entry own.is own.placed own.mine (omega (arith, low, ap turns_to own.is))

-- the standings of the nodes before a turn are also those before an earlier one
pub AreStandings-earlier : (state : TreeState) (worker turn later : ℕ) (standings : List Standing) → turn ≤ later
    → AreStandings state worker later standings → AreStandings state worker turn standings
AreStandings-earlier state worker turn later standings up h = record {
  long = omega (arith, up, h.long);
  each = λ n before. h.each n (is_before-later worker turn later state.record_of n up before);
}

-- ---- the list, turn by turn

module _ (knots : List (Option Knot)) (records : List Record) (worker : ℕ) where
  abbrev run : TreeState
  run = state_of_lists knots records

  abbrev Before : ℕ → List Numbered → Type 0
  Before turn nodes = AreNodesBefore run worker turn nodes

  -- before the first turn stands the start, if it is present
  start_alone : (n : ℕ) (p : Point) → is_before worker 0 (slice_get records) n ≡ true → n ≡ 0
  start_alone zero p before = refl
  start_alone (suc k) p before = let own = placed_before worker 0 (slice_get records k) before in absurd (omega (arith, own.low))

  pub AreNodesBefore-start : (p : Point) → StandsAt run.points 0 p → Before 0 (record { point = p; number = 0 } ∷ [])
  AreNodesBefore-start p stands =
      let start : Numbered = record { point = p; number = 0 } in
      record {
        stand =
            All-push (IsNodeBefore run worker 0) [] start (λ i d low. absurd (omega (arith, low)))
            (record { node = 0; before = refl; place = refl; stands = stands });
        each = λ n q before here.
            let e = start_alone n q before in
            let there : StandsAt run.points 0 q = subst (λ m. StandsAt run.points m q) e here in
            let both : Some p ≡ Some q = sym stands ∙ there in
            let point : p ≡ q = cc in
            let place : 0 ≡ place_of (slice_get records) n = ap (place_of (slice_get records)) (sym e) in
            let same : ◌≡◌ {A = Numbered} start (record { point = q; number = place_of (slice_get records) n }) =
            λ i. record { point = point i; number = place i } in
            subst (Contains (start ∷ [])) same (Contains-push [] start);
      }

  pub AreNodesBefore-none : ((p : Point) → ¬ StandsAt run.points 0 p) → Before 0 []
  AreNodesBefore-none none = record {
    stand = λ i d low. absurd (omega (arith, low));
    each = λ n q before here. absurd (none q (subst (λ m. StandsAt run.points m q) (start_alone n q before) here));
  }

  module _ (own_turns : HaveOwnTurns records) (turn : ℕ) where
    still : (m : Numbered) → IsNodeBefore run worker turn m → IsNodeBefore run worker (suc turn) m
    still m h = record {
      node = h.node;
      before = is_before-later worker turn (suc turn) (slice_get records) h.node (omega arith) h.before;
      place = h.place;
      stands = h.stands;
    }

    -- what stands before the next turn stood before this one, or was placed in this one
    pub record IsNew (n : ℕ) : Type 0 where
      pub mark : ℕ
      pub number : n ≡ suc mark
      pub entry : Record
      pub at : slice_get records mark ≡ Some entry
      pub placed : is_placed entry.outcome ≡ true
      pub mine : entry.worker ≡ worker
      pub now : entry.turn ≡ turn

    old_or_new : (n : ℕ) → is_before worker (suc turn) (slice_get records) n ≡ true
        → (is_before worker turn (slice_get records) n ≡ true) ⊎ IsNew n
    old_or_new zero before = inl refl
    old_or_new (suc k) before =
        let own = placed_before worker (suc turn) (slice_get records k) before in
        elim (cases_lt own.entry.turn turn) [
          | inl low ↦ inl (is_before-placed worker turn (slice_get records) k own.entry own.is own.placed own.mine low)
          | inr past ↦
              inr (record {
                mark = k;
                number = refl;
                entry = own.entry;
                at = own.is;
                placed = own.placed;
                mine = own.mine;
                now = omega (arith, own.low, past);
              })
        ]

    -- a new node is that of the mark of the turn
    same_mark : (n k : ℕ) → IsMarkOfTurn records worker turn (Some k) → (new : IsNew n) → new.mark ≡ k
    same_mark n k told new =
        own_turns new.mark k new.entry told.0 new.at told.1 (new.mine ∙ sym told.2.worker) (new.now ∙ sym told.2.turn)

    pub AreNodesBefore-placed : (nodes : List Numbered) (o : Option ℕ) (p : Point) → Before turn nodes → IsMarkOfTurn records worker turn o
        → IsPlacedAt knots records o (Some p) → Before (suc turn) (nodes ++ record { point = p; number = suc turn } ∷ [])
    AreNodesBefore-placed nodes None p h told placed = absurd placed
    AreNodesBefore-placed nodes (Some k) p h told placed =
        let own : Numbered = record { point = p; number = suc turn } in
        let both : Some placed.entry ≡ Some told.0 = sym placed.at ∙ told.1 in
        let entry : placed.entry ≡ told.0 = cc in
        let now : placed.entry.turn ≡ turn = ap (λ (r : Record). r.turn) entry ∙ told.2.turn in
        let mine : placed.entry.worker ≡ worker = ap (λ (r : Record). r.worker) entry ∙ told.2.worker in
        record {
          stand =
              All-push (IsNodeBefore run worker (suc turn)) nodes own (λ i d low. still _ (h.stand i d low))
              (record {
                node = suc k;
                before =
                    is_before-placed worker (suc turn) (slice_get records) k placed.entry placed.at placed.placed mine (omega (arith, now));
                place = ap turns_to placed.at ∙ ap suc now;
                stands = placed.stands;
              });
          each = λ n q before here.
              elim (old_or_new n before) [
                | inl old ↦ Contains-append_left nodes (own ∷ []) (record { point = q; number = place_of (slice_get records) n }) (h.each n q old here)
                | inr new ↦ (
                    let number : n ≡ suc k = new.number ∙ ap suc (same_mark n k told new) in
                    let there : StandsAt run.points (suc k) q = subst (λ m. StandsAt run.points m q) number here in
                    let points : Some p ≡ Some q = sym placed.stands ∙ there in
                    let point : p ≡ q = cc in
                    let place : suc turn ≡ place_of (slice_get records) n =
                    sym (ap (place_of (slice_get records)) number ∙ ap turns_to placed.at ∙ ap suc now) in
                    let same : ◌≡◌ {A = Numbered} own (record { point = q; number = place_of (slice_get records) n }) =
                    λ i. record { point = point i; number = place i } in
                    subst (Contains (nodes ++ own ∷ [])) same (Contains-push nodes own))
              ];
        }

    no_new : (o : Option ℕ) → IsMarkOfTurn records worker turn o → IsPlacedAt knots records o None → (bounded : (n : ℕ) (p : Point)
        → StandsAt run.points n p → IsBounded p) → (n : ℕ) (q : Point) → IsNew n → ¬ StandsAt run.points n q
    no_new None told none bounded n q new here = told new.mark new.entry new.at (record { worker = new.mine; turn = new.now })
    no_new (Some k) told none bounded n q new here =
        let mark = same_mark n k told new in
        let there : StandsAt run.points (suc k) q = subst (λ m. StandsAt run.points m q) (new.number ∙ ap suc mark) here in
        none q (record {
          entry = new.entry;
          at = sym (ap (slice_get records) mark) ∙ new.at;
          placed = new.placed;
          stands = there;
          bounded = bounded (suc k) q there;
        })

    pub AreNodesBefore-unplaced : (nodes : List Numbered) (o : Option ℕ) → Before turn nodes → IsMarkOfTurn records worker turn o
        → IsPlacedAt knots records o None → ((n : ℕ) (p : Point) → StandsAt run.points n p → IsBounded p) → Before (suc turn) nodes
    AreNodesBefore-unplaced nodes o h told none bounded = record {
      stand = λ i d low. still _ (h.stand i d low);
      each = λ n q before here.
          elim (old_or_new n before) [
            | inl old ↦ h.each n q old here
            | inr new ↦ absurd (no_new o told none bounded n q new here)
          ];
    }

-- in another order
pub AreNodesBefore-sorted : (state : TreeState) (worker turn : ℕ) (nodes sorted : List Numbered) → AreNodesBefore state worker turn nodes
    → IsPermutation nodes sorted → AreNodesBefore state worker turn sorted
AreNodesBefore-sorted state worker turn nodes sorted h same = record {
  stand = All-permutation (IsNodeBefore state worker turn) nodes sorted same h.stand;
  each = λ n p before here.
      Contains-permutation nodes sorted (record { point = p; number = place_of state.record_of n }) same (h.each n p before here);
}

-- ---- walks by stretches

module _ (Such : Numbered → Type 0) (center : Point) (square : ℕ) (within : (m : Numbered) → Such m → IsWithin center square m.point)
    (nodes : List Numbered) where
  pub HasNo-on : (at : ℕ) (stretch : Stretch) → HasNo Such nodes 0 at → IsStretchAfter center square nodes at stretch
      → HasNo Such nodes stretch.start stretch.end → HasNo Such nodes 0 stretch.end
  HasNo-on at stretch before next inside = λ j from below such.
      elim (cases_lt j at) [
        | inl passed ↦ before j from passed such
        | inr past ↦
            elim (cases_lt j stretch.start) [
              | inl skipped ↦ next.skipped j past skipped (within (numbered_at nodes j) such)
              | inr reached ↦ inside j reached below such
            ]
      ]

  pub HasNo-end : (at : ℕ) → HasNo Such nodes 0 at → HasNoneBetween center square nodes at (length nodes) → HasNo Such nodes 0 (length nodes)
  HasNo-end at before none = λ j from below such.
      elim (cases_lt j at) [
        | inl passed ↦ before j from passed such
        | inr past ↦ none j past below (within (numbered_at nodes j) such)
      ]

  pub HasOne-on : (at : ℕ) (stretch : Stretch) → IsStretchAfter center square nodes at stretch → HasOne Such nodes stretch.start stretch.end
      → HasOne Such nodes 0 (length nodes)
  HasOne-on at stretch next one = record {
    position = one.position;
    past = omega arith;
    before = omega (arith, one.before, next.inside);
    such = one.such;
  }

-- a node of a search lies in its disc
pub nearer_within : {standings : List Standing} {search : NearerSearch} {center : Point} {square : ℕ} → center ≡ search.point
    → square ≡ search.distance → (m : Numbered) → IsNearerAt standings search m → IsWithin center square m.point
nearer_within {search} {center} here is m h =
    let away : squared_distance m.point center ≡ squared_distance m.point search.point = ap (squared_distance m.point) here in
    elim h.nearer [
      | inl less ↦ omega (arith, away, is, less)
      | inr same ↦ omega (arith, away, is, same.0)
    ]

pub unlawful_within : {space : ConfigurationSpace} {standings : List Standing} {search : NeighbourSearch} {center : Point} {square : ℕ}
    → center ≡ search.nearer.point → square ≡ search.square → search.nearer.distance ≤ search.square → (m : Numbered)
    → IsUnlawfulAt space standings search m → IsWithin center square m.point
unlawful_within {search} {center} here is low m unlawful =
    let away : squared_distance m.point center ≡ squared_distance m.point search.nearer.point = ap (squared_distance m.point) here in
    elim unlawful [
      | inr bad ↦ omega (arith, away, is, bad.cheaper.within)
      | inl near ↦ omega (arith, away, low, nearer_within here refl m near, is)
    ]

-- no node is nearer than at no distance
pub none_nearer : {standings : List Standing} {turn : ℕ} {p : Point} {m : Numbered}
    → ¬ IsNearerAt standings (record { point = p; distance = 0; number = 0; turn = turn }) m
none_nearer near =
    elim near.nearer [
      | inl less ↦ omega (arith, less)
      | inr same ↦ omega (arith, same.1)
    ]

-- two points with the same coordinates
pub same_point : (p q : Point) (test : Bool) → test ≡ (eqb p.x q.x && eqb p.y q.y) → test ≡ true → p ≡ q
same_point p q test is passes =
    let both = and_parts (eqb p.x q.x) (eqb p.y q.y) (sym is ∙ passes) in
    let x : p.x ≡ q.x = eqb-true p.x q.x both.0 in
    let y : p.y ≡ q.y = eqb-true p.y q.y both.1 in
    λ i. record { x = x i; y = y i }

-- one position more
pub HasNo-more : (Such : Numbered → Type 0) (nodes : List Numbered) (from at : ℕ) → HasNo Such nodes from at → ¬ Such (numbered_at nodes at)
    → HasNo Such nodes from (at + 1)
HasNo-more Such nodes from at before fine = λ j past below bad.
    elim (cases_eq j at) [
      | inl e ↦ fine (subst (λ i. Such (numbered_at nodes i)) e bad)
      | inr apart ↦ before j past (omega (arith, below, apart)) bad
    ]

-- ---- earlier nodes by place

-- what is so of an earlier node, if no node of the list is such
record IsOther (judged : Judged) (entry : Record) (Such : Numbered → Type 0) (n : ℕ) (p : Point) : Type 0 where
  early : place_of (run_of judged).record_of n ≤ entry.turn
  standing : standing_at judged.standings.now (place_of (run_of judged).record_of n) ≡ standing_of (run_of judged) n
  other : ¬ Such (record { point = p; number = place_of (run_of judged).record_of n })

-- which earlier node stands at a position of the list
record IsNode (judged : Judged) (entry : Record) (m : Numbered) : Type 0 where
  node : ℕ
  earlier : IsEarlier (run_of judged) entry node
  stands : StandsAt (run_of judged).points node m.point
  standing : standing_at judged.standings.now m.number ≡ standing_of (run_of judged) node

zero_distance : (p : Point) → squared_distance p p ≡ 0
zero_distance p =
    let x : abs_diff p.x p.x ≡ 0 = omega arith in
    let y : abs_diff p.y p.y ≡ 0 = omega arith in
    omega (arith, ap (λ (g : ℕ). g * g) x, ap (λ (g : ℕ). g * g) y)

module _ {judged : Judged} (entry : Record) (is : IsJudged entry.worker judged) (low : entry.turn ≤ judged.turns) where
  abbrev state : TreeState
  state = run_of judged

  abbrev nodes : List Numbered
  nodes = judged.own.now

  other_than : (Such : Numbered → Type 0) → HasNo Such nodes 0 (length nodes) → (n : ℕ) (p : Point) → IsEarlier state entry n
      → StandsAt state.points n p → IsOther judged entry Such n p
  other_than Such none n p earlier stands =
      let now = sym (is_before-earlier state entry n) ∙ earlier in
      let before = is_before-later entry.worker entry.turn judged.turns state.record_of n low now in
      let node : Numbered = record { point = p; number = place_of state.record_of n } in
      let there = is.own.each n p before stands in
      let here = get_or_default nodes there.0 nowhere node there.1 ∙ there.2 in
      record {
        early = place_low entry.worker entry.turn state.record_of n now;
        standing = is.standings.each n before;
        other = λ bad. none there.0 (omega arith) there.1 (subst Such (sym here) bad);
      }

  node_at : (position : ℕ) → position < length nodes → (numbered_at nodes position).number ≤ entry.turn
      → IsNode judged entry (numbered_at nodes position)
  node_at position inside early =
      let there = is.own.stand position nowhere inside in
      record {
        node = there.node;
        earlier = before_earlier state entry judged.turns there.node there.before (omega (arith, there.place, early));
        stands = there.stands;
        standing = ap (standing_at judged.standings.now) (sym there.place) ∙ is.standings.each there.node there.before;
      }

  abbrev Nearer : Point → ℕ → ℕ → Numbered → Type 0
  Nearer p distance number = IsNearerAt judged.standings.now (record { point = p; distance = distance; number = number; turn = entry.turn })

  module _ (mark : Point) {distance : ℕ} (far : distance ≡ distance_to mark state.points entry.nearest) where
    pub is_nearest_of_all : HasNo (Nearer mark distance entry.nearest) nodes 0 (length nodes) → IsNearestOfEarlier state entry mark
    is_nearest_of_all none i earlier =
        let p : Point = point_of state.points i in
        let own = other_than (Nearer mark distance entry.nearest) none i p earlier (StandsAt-present state.points i (is.present entry i earlier)) in
        let node : (standing_at judged.standings.now (place_of state.record_of i)).node ≡ i = ap (λ (s : Standing). s.node) own.standing in
        elim (cases_lt (squared_distance p mark) distance) [
          | inl less ↦ absurd (own.other (record { earlier = own.early; nearer = inl less }))
          | inr more ↦ record {
            least = omega (arith, far, more);
            first = λ e. elim (cases_lt i entry.nearest) [
              | inl lower ↦ absurd (own.other (record { earlier = own.early; nearer = inr (omega (arith, far, e), omega (arith, node, lower)) }))
              | inr above ↦ above
            ];
          }
        ]

    pub is_not_nearest : (position : ℕ) → position < length nodes → Nearer mark distance entry.nearest (numbered_at nodes position)
        → ¬ IsNearestOfEarlier state entry mark
    is_not_nearest position inside such all =
        let m = numbered_at nodes position in
        let there = node_at position inside such.earlier in
        let node : (standing_at judged.standings.now m.number).node ≡ there.node = ap (λ (s : Standing). s.node) there.standing in
        let here : distance_to mark state.points there.node ≡ squared_distance m.point mark =
        ap (λ p. squared_distance p mark) (point_of-stands state.points there.node m.point there.stands) in
        let above = all there.node there.earlier in
        elim such.nearer [
          | inl less ↦ omega (arith, far, here, less, above.least)
          | inr same ↦ omega (arith, node, same.1, above.first (omega (arith, far, here, same.0)))
        ]

  module _ (p : Point) (number : ℕ) where
    pub is_free : ((n : ℕ) (q : Point) → StandsAt state.points n q → n < number) → HasNo (Nearer p 0 number) nodes 0 (length nodes)
        → (i : ℕ) → IsEarlier state entry i → ¬ StandsAt state.points i p
    is_free above none i earlier stands =
        let own = other_than (Nearer p 0 number) none i p earlier stands in
        let node : (standing_at judged.standings.now (place_of state.record_of i)).node ≡ i = ap (λ (s : Standing). s.node) own.standing in
        own.other (record { earlier = own.early; nearer = inr (zero_distance p, omega (arith, node, above i p stands)) })

    pub is_taken_by : HasOne (Nearer p 0 number) nodes 0 (length nodes) → IsTaken state entry p
    is_taken_by one =
        let m = numbered_at nodes one.position in
        let there = node_at one.position one.before one.such.earlier in
        let here : squared_distance m.point p ≤ 0 =
        elim one.such.nearer [
          | inl less ↦ absurd (omega (arith, less))
          | inr same ↦ omega (arith, same.0)
        ] in
        record { node = there.node; earlier = there.earlier; stands = there.stands ∙ ap Some (same-from_distance m.point p here) }

  module _ (space : ConfigurationSpace) (p : Point) (radius : ℕ) {square : ℕ} (distance number : ℕ) (whole : square ≡ radius * radius) where
    abbrev PassedOver : Numbered → Type 0
    PassedOver =
        let nearer : NearerSearch = record { point = p; distance = distance; number = number; turn = entry.turn } in
        IsPassedOverAt space judged.standings.now (record { nearer = nearer; square = square; first_cost = entry.first_cost })

    pub keeps_all_near : HasNo PassedOver nodes 0 (length nodes) → KeepsNear space state entry p radius
    keeps_all_near none i earlier within clear =
        let q : Point = point_of state.points i in
        let stands = StandsAt-present state.points i (is.present entry i earlier) in
        let near : squared_distance q p ≤ radius * radius =
        leb-true (squared_distance q p) (radius * radius) (sym (ap (is_within p radius) stands) ∙ within) in
        let own = other_than PassedOver none i q earlier stands in
        let here : Standing = standing_at judged.standings.now (place_of state.record_of i) in
        let first : here.first_cost ≡ first_cost_of state i = ap (λ (s : Standing). s.first_cost) own.standing in
        let cost : here.cost ≡ state.cost i = ap (λ (s : Standing). s.cost) own.standing in
        let fine = λ (bad : (here.first_cost + cost_of q p < entry.first_cost) ⊎ (entry.first_cost + cost_of q p < here.cost)).
        own.other (record { cheaper = record { earlier = own.early; within = omega (arith, whole, near); cheaper = bad }; clear = clear }) in
        record {
          chosen = elim (cases_lt (here.first_cost + cost_of q p) entry.first_cost) [
            | inl less ↦ absurd (fine (inl less))
            | inr more ↦ omega (arith, first, more)
          ];
          rewired = elim (cases_lt (entry.first_cost + cost_of q p) here.cost) [
            | inl less ↦ absurd (fine (inr less))
            | inr more ↦ omega (arith, cost, more)
          ];
        }

    pub keeps_not_near : (position : ℕ) → position < length nodes → PassedOver (numbered_at nodes position) → ¬ KeepsNear space state entry p radius
    keeps_not_near position inside such kept =
        let m = numbered_at nodes position in
        let there = node_at position inside such.cheaper.earlier in
        let standing : Standing = standing_at judged.standings.now m.number in
        let first : standing.first_cost ≡ first_cost_of state there.node = ap (λ (s : Standing). s.first_cost) there.standing in
        let cost : standing.cost ≡ state.cost there.node = ap (λ (s : Standing). s.cost) there.standing in
        let here : point_of state.points there.node ≡ m.point = point_of-stands state.points there.node m.point there.stands in
        let edge : cost_of (point_of state.points there.node) p ≡ cost_of m.point p = ap (λ a. cost_of a p) here in
        let near : is_within p radius (point_at state.points there.node) ≡ true =
        ap (is_within p radius) there.stands
        ∙ le-leb (squared_distance m.point p) (radius * radius) (omega (arith, whole, such.cheaper.within)) in
        let both = kept there.node there.earlier near (subst (λ a. Clear space a p) (sym here) such.clear) in
        elim such.cheaper.cheaper [
          | inl less ↦ omega (arith, less, first, edge, both.chosen)
          | inr less ↦ omega (arith, less, cost, edge, both.rewired)
        ]

-- ---- the mark's own node

pub bounded_placed : (knots : List (Option Knot)) (records : List Record) (o : Option ℕ) (p : Point) → IsPlacedAt knots records o (Some p) → IsBounded p
bounded_placed knots records None p placed = absurd placed
bounded_placed knots records (Some k) p placed = placed.bounded

-- each node stands within bounds
pub bounded_points : (knots : List (Option Knot)) (records : List Record)
    → ((n : ℕ) (other : Knot) → slice_index_or knots n None ≡ Some other → FitsEdges other) → (n : ℕ) (p : Point)
    → StandsAt (state_of_lists knots records).points n p → IsBounded p
bounded_points knots records fit n p stands = by_knot (slice_index_or knots n None) refl
  where
    by_knot : (o : Option Knot) → slice_index_or knots n None ≡ o → IsBounded p
    by_knot None is = absurd (none-stands knots records n p is stands)
    by_knot (Some knot) is = subst IsBounded (same-listed knots records n knot p is stands) (fit n knot is).point
