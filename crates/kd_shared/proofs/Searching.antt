-- A search of a kd-tree: which points are met, which wait at a node that is still to be visited, and what each stage does to that.
use Rattle.kd_shared.proofs.Words.{◌≡◌, ◌⊎◌, ℕ, suc, ◌*◌, ◌<◌, ◌≤◌, Bool, false, not, List, [], ◌∷◌, Some, arith, refl, sym, ap, ◌∙◌, subst, inl, inr, ◌≢◌}
use Rattle.kd_shared.proofs.Words.{Contains, Contains-append_left, Contains-push, Contains-push_cases, Point, squared_distance, StandsAt, IsSeen, EndsSince}
use Rattle.kd_shared.proofs.Words.{IsLaterMoment, KeepsSight, Sight, goes_right, IsOnWay, begins, goes_on, same_or_other, IsSeen-more, EndsSince-later}
use Rattle.kd_shared.proofs.Words.{IsLaterMoment-trans, goes_right_by, is_by_rows, Contains-after, goes_right-by, is_by_rows-next, two_sides, FindsEmpty, Opens}
use Rattle.kd_shared.proofs.Words.{Puts, side_distance, Spot, Contains-cases, Contains-none, IsOnWay-later}
use Rattle.kd_shared.proofs.SideDistances.{side_distance-le}

-- ---- where a point is

-- The way of q comes to the node of a spot.
pub record WaitsAt (now : Sight) (spot : Spot) (q : Point) : Type 0 where
  pub depth : ℕ
  pub by_rows : spot.by_rows ≡ is_by_rows depth
  pub on_way : IsOnWay now.seen.child now.seen.points q depth spot.node

abbrev pub Waits : Sight → List Spot → Point → Type 0
Waits now spots q = (spot : Spot) × Contains spots spot × WaitsAt now spot q

-- the way of q goes on below the node of a spot, which is at p
pub record GoesBelow (now : Sight) (spot : Spot) (p q : Point) : Type 0 where
  pub waits : WaitsAt now spot q
  pub other : p ≢ q

-- and to this side of it
abbrev pub GoesTo : Sight → Spot → Point → Bool → Point → Type 0
GoesTo now spot p side q = GoesBelow now spot p q × (goes_right_by spot.by_rows p q ≡ side)

-- A node is seen at q that the search has taken, or the way of q has ended.
abbrev pub IsMet : Sight → Sight → (ℕ → Point → Type 0) → Point → Type 0
IsMet before now Taken q = ((n : ℕ) × StandsAt now.seen.points n q × Taken n q) ⊎ EndsSince now before.steps q

abbrev pub Nothing : Point → Type 0
Nothing q = ⊥

-- Each point whose squared distance is within the bound is met, waits, or is left to do in this stage.
pub record IsSearch (before now : Sight) (target : Point) (bound : ℕ) (Taken : ℕ → Point → Type 0) (spots : List Spot) (Left : Point → Type 0)
    : Type 0 where
  pub later : IsLaterMoment before now
  pub seen : (spot : Spot) → Contains spots spot → IsSeen now.seen spot.node
  pub all : (q : Point) → squared_distance q target ≤ bound → IsMet before now Taken q ⊎ (Waits now spots q ⊎ Left q)

-- ---- later moments

module _ (now after : Sight) (later : IsLaterMoment now after) where
  pub WaitsAt-later : (spot : Spot) (q : Point) → WaitsAt now spot q → WaitsAt after spot q
  WaitsAt-later spot q h = record {
    depth = h.depth;
    by_rows = h.by_rows;
    on_way = IsOnWay-later now after later q h.depth spot.node h.on_way;
  }

  pub GoesBelow-later : (spot : Spot) (p q : Point) → GoesBelow now spot p q → GoesBelow after spot p q
  GoesBelow-later spot p q h = record { waits = WaitsAt-later spot q h.waits; other = h.other }

  module _ (before : Sight) (target : Point) (keeps : KeepsSight now) (bound : ℕ) (Taken : ℕ → Point → Type 0) where
    IsMet-later : (q : Point) → IsMet before now Taken q → IsMet before after Taken q
    IsMet-later q (inl (n, stands, own)) = inl (n, later.seen.places.nodes n q stands, own)
    IsMet-later q (inr ends) = inr (EndsSince-later now after later keeps before.steps q ends)

    pub IsSearch-later : (spots : List Spot) (Left Still : Point → Type 0)
        → ((q : Point) → squared_distance q target ≤ bound → Left q → Still q)
        → IsSearch before now target bound Taken spots Left → IsSearch before after target bound Taken spots Still
    IsSearch-later spots Left Still still h = record {
      later = IsLaterMoment-trans before now after h.later later;
      seen = λ spot k. IsSeen-more now.seen after.seen later.seen spot.node (h.seen spot k);
      all = λ q close. elim (h.all q close) [
        | inl met ↦ inl (IsMet-later q met)
        | inr (inl (spot, k, waits)) ↦ inr (inl (spot, k, WaitsAt-later spot q waits))
        | inr (inr left) ↦ inr (inr (still q close left))
      ];
    }

-- ---- it begins, and takes what waits

module _ (before now : Sight) (target : Point) (bound : ℕ) (Taken : ℕ → Point → Type 0) where
  -- At first all points wait at node 0.
  pub IsSearch-begins : (spot : Spot) → IsLaterMoment before now → spot.node ≡ 0 → spot.by_rows ≡ false
      → IsSearch before now target bound Taken (spot ∷ []) Nothing
  IsSearch-begins spot later node by_rows = record {
    later = later;
    seen = λ other k. elim (Contains-cases spot other [] k) [
      | inl is ↦ inl (ap (λ (s : Spot). s.node) (sym is) ∙ node)
      | inr none ↦ absurd (Contains-none other none)
    ];
    all = λ q close. inr (inl (
      spot,
      (0, omega arith, refl),
      record {
        depth = 0;
        by_rows = by_rows;
        on_way = subst (IsOnWay now.seen.child now.seen.points q 0) (sym node) begins;
      },
    ));
  }

  -- The first of those that wait is taken,
  pub IsSearch-takes : (spot : Spot) (spots rest : List Spot) → spots ≡ spot ∷ rest → IsSearch before now target bound Taken spots Nothing
      → IsSearch before now target bound Taken rest (WaitsAt now spot)
  IsSearch-takes spot spots rest is h = record {
    later = h.later;
    seen = λ other k. h.seen other (subst (λ xs. Contains xs other) (sym is) (Contains-after spot rest other k));
    all = λ q close. elim (h.all q close) [
      | inl met ↦ inl met
      | inr (inl (other, k, waits)) ↦ elim (Contains-cases spot other rest (subst (λ xs. Contains xs other) is k)) [
        | inl same ↦ inr (inr (subst (λ s. WaitsAt now s q) (sym same) waits))
        | inr old ↦ inr (inl (other, old, waits))
      ]
      | inr (inr left) ↦ absurd left
    ];
  }

  -- and its node is visited, and taken if it is within the bound, which may have fallen.
  pub IsSearch-visits : (spot : Spot) (rest : List Spot) (p : Point) (less : ℕ) (Now : ℕ → Point → Type 0) → StandsAt now.seen.points spot.node p
      → less ≤ bound → ((n : ℕ) (q : Point) → Taken n q → Now n q) → (squared_distance p target ≤ less → Now spot.node p)
      → IsSearch before now target bound Taken rest (WaitsAt now spot)
      → IsSearch before now target less Now rest (GoesBelow now spot p)
  IsSearch-visits spot rest p less Now stands falls still here h = record {
    later = h.later;
    seen = h.seen;
    all = λ q close. elim (h.all q (omega (arith, falls, close))) [
      | inl (inl (n, own, taken)) ↦ inl (inl (n, own, still n q taken))
      | inl (inr ends) ↦ inl (inr ends)
      | inr (inl waits) ↦ inr (inl waits)
      | inr (inr left) ↦ elim (same_or_other p q) [
        | inl same ↦ inl (inl (
          spot.node,
          stands ∙ ap Some same,
          subst (Now spot.node) same (here (subst (λ r. squared_distance r target ≤ less) (sym same) close)),
        ))
        | inr other ↦ inr (inr (record { waits = left; other = other }))
      ]
    ];
  }

  -- When nothing waits, all points within the bound are met.
  pub IsSearch-ends : (spots : List Spot) → spots ≡ [] → IsSearch before now target bound Taken spots Nothing
      → (q : Point) → squared_distance q target ≤ bound → IsMet before now Taken q
  IsSearch-ends spots none h q close =
      elim (h.all q close) [
        | inl met ↦ met
        | inr (inl (spot, k, waits)) ↦ absurd (Contains-none spot (subst (λ xs. Contains xs spot) none k))
        | inr (inr left) ↦ absurd left
      ]

-- ---- one stage of a search

-- Each point that waited, or was left to do, is met, waits or is still left. The bound may have fallen.
pub IsSearch-shifts : (before now after : Sight) (target : Point) (bound less : ℕ) (Taken Now : ℕ → Point → Type 0) → IsLaterMoment now after
    → KeepsSight now → (spots put : List Spot) (Left Still : Point → Type 0) → less ≤ bound → ((n : ℕ) (q : Point) → Taken n q → Now n q)
    → ((spot : Spot) → Contains put spot → IsSeen after.seen spot.node)
    → ((q : Point) → squared_distance q target ≤ less → Waits now spots q ⊎ Left q → IsMet before after Now q ⊎ (Waits after put q ⊎ Still q))
    → IsSearch before now target bound Taken spots Left → IsSearch before after target less Now put Still
IsSearch-shifts before now after target bound less Taken Now later keeps spots put Left Still falls still seen goes h = record {
  later = IsLaterMoment-trans before now after h.later later;
  seen = seen;
  all = λ q close. elim (h.all q (omega (arith, falls, close))) [
    | inl (inl (n, own, taken)) ↦ inl (inl (n, later.seen.places.nodes n q own, still n q taken))
    | inl (inr ends) ↦ inl (inr (EndsSince-later now after later keeps before.steps q ends))
    | inr left ↦ goes q close left
  ];
}

-- ---- the children of a visited node are loaded

module _
    (before now after : Sight) (spot : Spot) (p : Point) (stands : StandsAt now.seen.points spot.node p) (later : IsLaterMoment now after) where
  -- the way of a point that goes to this side
  side_is : (side : Bool) (q : Point) (h : GoesTo now spot p side q) → goes_right h.0.waits.depth p q ≡ side
  side_is side q (below, goes) =
      goes_right-by below.waits.depth p q ∙ ap (λ b. goes_right_by b p q) (sym below.waits.by_rows) ∙ goes

  -- ends if there is no child,
  pub ends_here : (side : Bool) (q : Point) → before.steps ≤ now.steps → FindsEmpty now after spot.node side → GoesTo now spot p side q
      → EndsSince after before.steps q
  ends_here side q past empty goes =
      let below = goes.0 in
      record {
        depth = below.waits.depth;
        node = spot.node;
        point = p;
        on_way = IsOnWay-later now after later q below.waits.depth spot.node below.waits.on_way;
        stands = later.seen.places.nodes spot.node p stands;
        other = below.other;
        empty = subst (λ b. before.steps < after.found_empty spot.node b) (sym (side_is side q goes)) (omega (arith, past, empty));
      }

  -- and else comes to the child
  pub waits_at_child : (spots put : List Spot) (side : Bool) (h : Puts after spots put spot side) (q : Point) → GoesTo now spot p side q
      → WaitsAt after h.child q
  waits_at_child spots put side h q goes =
      let below = goes.0 in
      record {
        depth = suc below.waits.depth;
        by_rows = h.by_rows ∙ ap not below.waits.by_rows ∙ sym (is_by_rows-next below.waits.depth);
        on_way = goes_on below.waits.depth spot.node h.child.node p
            (IsOnWay-later now after later q below.waits.depth spot.node below.waits.on_way)
            (later.seen.places.nodes spot.node p stands) below.other (ap (after.seen.child spot.node) (side_is side q goes) ∙ h.link);
      }

module _
    (before now after : Sight) (target : Point) (bound : ℕ) (Taken : ℕ → Point → Type 0) (spot : Spot) (p : Point)
    (stands : StandsAt now.seen.points spot.node p) (later : IsLaterMoment now after) (keeps : KeepsSight now) where
  -- what is left before and after the child on one side was loaded
  abbrev Splits : (Left Still : Point → Type 0) → Bool → Type 0
  Splits Left Still side = (q : Point) → squared_distance q target ≤ bound → Left q → Still q ⊎ GoesTo now spot p side q

  -- A child is loaded: the points that go there are met, or wait at it.
  pub IsSearch-opens : (spots put : List Spot) (side : Bool) (Left Still : Point → Type 0) → Opens now after spots put spot side
      → Splits Left Still side → IsSearch before now target bound Taken spots Left → IsSearch before after target bound Taken put Still
  IsSearch-opens spots put side Left Still (inl (empty, same)) splits h =
      let old = IsSearch-later now after later before target keeps bound Taken spots Left Left (λ q close left. left) h in
      record {
        later = old.later;
        seen = λ other k. old.seen other (subst (λ xs. Contains xs other) same k);
        all = λ q close. elim (old.all q close) [
          | inl met ↦ inl met
          | inr (inl (other, k, waits)) ↦ inr (inl (other, subst (λ xs. Contains xs other) (sym same) k, waits))
          | inr (inr left) ↦ elim (splits q close left) [
            | inl still ↦ inr (inr still)
            | inr goes ↦ inl (inr (ends_here before now after spot p stands later side q h.later.steps empty goes))
          ]
        ];
      }
  IsSearch-opens spots put side Left Still (inr new) splits h =
      let old = IsSearch-later now after later before target keeps bound Taken spots Left Left (λ q close left. left) h in
      record {
        later = old.later;
        seen = λ other k. elim (Contains-push_cases spots new.child other (subst (λ xs. Contains xs other) new.last k)) [
          | inl before ↦ old.seen other before
          | inr is ↦ subst (λ (s : Spot). IsSeen after.seen s.node) is (inr (spot.node, side, new.link))
        ];
        all = λ q close. elim (old.all q close) [
          | inl met ↦ inl met
          | inr (inl (other, k, waits)) ↦
              inr (inl (other, subst (λ xs. Contains xs other) (sym new.last) (Contains-append_left spots (new.child ∷ []) other k), waits))
          | inr (inr left) ↦ elim (splits q close left) [
            | inl still ↦ inr (inr still)
            | inr goes ↦ inr (inl (
              new.child,
              subst (λ xs. Contains xs new.child) (sym new.last) (Contains-push spots new.child),
              waits_at_child before now after spot p stands later spots put side new q goes,
            ))
          ]
        ];
      }

  module _ (right : Bool) where
    -- First the child of one side is loaded,
    pub IsSearch-opens_first : (spots put : List Spot) → Opens now after spots put spot (not right)
        → IsSearch before now target bound Taken spots (GoesBelow now spot p)
        → IsSearch before after target bound Taken put (GoesTo after spot p right)
    IsSearch-opens_first spots put opens =
        IsSearch-opens spots put (not right) (GoesBelow now spot p) (GoesTo after spot p right) opens
        (λ q close below. elim (two_sides (goes_right_by spot.by_rows p q) right) [
          | inl goes ↦ inl (GoesBelow-later now after later spot p q below, goes)
          | inr goes ↦ inr (below, goes)
        ])

    -- or left out as that side is beyond the bound;
    pub IsSearch-leaves_first : (spots : List Spot)
        → bound < side_distance spot.by_rows p target (not right) * side_distance spot.by_rows p target (not right)
        → IsSearch before now target bound Taken spots (GoesBelow now spot p)
        → IsSearch before after target bound Taken spots (GoesTo after spot p right)
    IsSearch-leaves_first spots too_far =
        IsSearch-later now after later before target keeps bound Taken spots (GoesBelow now spot p) (GoesTo after spot p right)
        (λ q close below. elim (two_sides (goes_right_by spot.by_rows p q) right) [
          | inl goes ↦ (GoesBelow-later now after later spot p q below, goes)
          | inr goes ↦ absurd (omega (arith, side_distance-le spot.by_rows p q target (not right) goes, close, too_far))
        ])

    -- then that of the other side,
    pub IsSearch-opens_last : (spots put : List Spot) → Opens now after spots put spot right
        → IsSearch before now target bound Taken spots (GoesTo now spot p right) → IsSearch before after target bound Taken put Nothing
    IsSearch-opens_last spots put opens =
        IsSearch-opens spots put right (GoesTo now spot p right) Nothing opens (λ q close goes. inr goes)

    -- or it is left out.
    pub IsSearch-leaves_last : (spots : List Spot)
        → bound < side_distance spot.by_rows p target right * side_distance spot.by_rows p target right
        → IsSearch before now target bound Taken spots (GoesTo now spot p right) → IsSearch before after target bound Taken spots Nothing
    IsSearch-leaves_last spots too_far =
        IsSearch-later now after later before target keeps bound Taken spots (GoesTo now spot p right) Nothing
        (λ q close goes. absurd (omega (arith, side_distance-le spot.by_rows p q target right goes.1, close, too_far)))
