-- The walk to the nearest node: the nearest so far, and the points that are left.
use Rattle.kd_shared.proofs.Words.{◌≡◌, ◌⊎◌, ℕ, suc, ◌≤◌, false, Some, None, List, [], ◌∷◌, ◌++◌, arith, refl, sym, ap, ◌∙◌, subst, inl, inr, Contains}
use Rattle.kd_shared.proofs.Words.{cases_eq, cases_lt, Contains-append_cases, Contains-append_left, Contains-append_right, Contains-push, Contains-push_cases}
use Rattle.kd_shared.proofs.Words.{Point, squared_distance, IsNotAbove, IsPairNotAbove, distance_to, point_of, AreDistinct, StandsAt, IsSeen, IsLaterMoment}
use Rattle.kd_shared.proofs.Words.{KeepsSight, Sight, Contains-first, IsPresent-stands, point_of-stands, StandsAt-present, StandsAt-unique, same_or_other}
use Rattle.kd_shared.proofs.Words.{IsFree-ends, IsLaterMoment-trans, goes_right_by, IsNearerOf, split_distance-le, two_sides, point_of_spot, Spot, MeasuredNode}
use Rattle.kd_shared.proofs.Words.{Contains-cases, Contains-none, far_side, IsChildSpot, IsFinished, LoadsSpot, near_side, PopsFar, StacksFar, WalksOn}
use Rattle.kd_shared.proofs.Words.{LoadsPoint, IsNearestSeen, Puts}
use Rattle.kd_shared.proofs.Searching.{ends_here, GoesBelow, GoesBelow-later, GoesTo, IsMet, IsSearch, IsSearch-begins, IsSearch-ends, IsSearch-shifts}
use Rattle.kd_shared.proofs.Searching.{Nothing, Waits, WaitsAt, waits_at_child}
use Rattle.kd_shared.proofs.WalkedOnce.{IsWalking, IsWalking-begins, IsWalking-far, IsWalking-near}

-- ---- the nearest so far

-- node best is seen at this squared distance
pub record IsBest (now : Sight) (target : Point) (distance best : ℕ) : Type 0 where
  pub point : Point
  pub stands : StandsAt now.seen.points best point
  pub distance_is : distance ≡ squared_distance point target

-- of the nearest so far and one more node the nearer one stays
pub record IsNearer (distance best here node less nearer : ℕ) : Type 0 where
  pub one_of : ((less ≡ distance) × (nearer ≡ best)) ⊎ ((less ≡ here) × (nearer ≡ node))
  pub before : IsPairNotAbove less nearer distance best
  pub one_more : IsPairNotAbove less nearer here node

pub IsNearer-of : (one other nearer : MeasuredNode) → IsNearerOf one other nearer
    → IsNearer one.distance one.node other.distance other.node nearer.distance nearer.node
IsNearer-of one other nearer h = record { one_of = by_one h.one_of; before = h.before; one_more = h.one_more }
  where
    by_one : (nearer ≡ one) ⊎ (nearer ≡ other)
        → ((nearer.distance ≡ one.distance) × (nearer.node ≡ one.node)) ⊎ ((nearer.distance ≡ other.distance) × (nearer.node ≡ other.node))
    by_one (inl is) = inl (ap (λ (m : MeasuredNode). m.distance) is, ap (λ (m : MeasuredNode). m.node) is)
    by_one (inr is) = inr (ap (λ (m : MeasuredNode). m.distance) is, ap (λ (m : MeasuredNode). m.node) is)

-- node n, at q, is not nearer
abbrev pub IsOutdone : Point → ℕ → ℕ → ℕ → Point → Type 0
IsOutdone target distance best n q = IsPairNotAbove distance best (squared_distance q target) n

IsPairNotAbove-trans : (a i b j c k : ℕ) → IsPairNotAbove a i b j → IsPairNotAbove b j c k → IsPairNotAbove a i c k
IsPairNotAbove-trans a i b j c k one two = record {
  least = omega (arith, one.least, two.least);
  first = λ e.
      let one_key : b ≡ a = omega (arith, one.least, two.least, e) in
      let other_key : c ≡ b = omega (arith, one.least, two.least, e) in
      omega (arith, one.first one_key, two.first other_key);
}

-- ---- what is left

-- the way of q goes to the far side of a node on the stack
abbrev pub IsLeft : Sight → Point → List Spot → Point → Type 0
IsLeft now target stack q = (spot : Spot) × Contains stack spot × GoesTo now spot (point_of_spot spot) (far_side spot target) q

-- the points of these nodes are seen
abbrev pub AreStanding : Sight → List Spot → Type 0
AreStanding now spots = (spot : Spot) → Contains spots spot → StandsAt now.seen.points spot.node (point_of_spot spot)

-- The nearest so far is seen. Points that are not met wait at the next node, or on the far side of one on the stack. Nodes whose points were
-- seen since the walk began are not nearer, but the next one may be.
pub record IsSeeking (before now : Sight) (target : Point) (distance best : ℕ) (here : Spot) (stack : List Spot) (visits : ℕ) : Type 0 where
  pub best_is : IsBest now target distance best
  pub search : IsSearch before now target distance (IsOutdone target distance best) (here ∷ []) (IsLeft now target stack)
  pub stands : StandsAt now.seen.points here.node (point_of_spot here)
  pub stack_stands : AreStanding now stack
  pub fresh : (n : ℕ) (q : Point) → StandsAt now.seen.points n q
      → (StandsAt before.seen.points n q ⊎ IsOutdone target distance best n q) ⊎ (n ≡ here.node)
  pub walking : IsWalking now target (here ∷ []) stack visits

-- It is over: nothing is left.
pub record HasSought (before now : Sight) (target : Point) (distance best : ℕ) : Type 0 where
  pub best_is : IsBest now target distance best
  pub search : IsSearch before now target distance (IsOutdone target distance best) [] Nothing
  pub fresh : (n : ℕ) (q : Point) → StandsAt now.seen.points n q → StandsAt before.seen.points n q ⊎ IsOutdone target distance best n q

-- It begins at node 0.
pub IsSeeking-begins : (before now : Sight) (target : Point) (distance : ℕ) (here : Spot) → LoadsPoint before now 0 (point_of_spot here)
    → distance ≡ squared_distance (point_of_spot here) target → here.node ≡ 0 → here.by_rows ≡ false → IsSeeking before now target distance 0 here [] 0
IsSeeking-begins before now target distance here load is node by_rows =
    let begun = IsSearch-begins before now target distance (IsOutdone target distance 0) here load.later node by_rows in
    record {
      best_is = record { point = point_of_spot here; stands = load.stands; distance_is = is };
      search = record {
        later = begun.later;
        seen = begun.seen;
        all = λ q close. elim (begun.all q close) [
          | inl met ↦ inl met
          | inr (inl waits) ↦ inr (inl waits)
          | inr (inr left) ↦ absurd left
        ];
      };
      stands = subst (λ n. StandsAt now.seen.points n (point_of_spot here)) (sym node) load.stands;
      stack_stands = λ spot k. absurd (Contains-none spot k);
      fresh = λ n q own. elim (cases_eq n 0) [
        | inl start ↦ inr (start ∙ sym node)
        | inr apart ↦ inl (inl (sym (load.others n apart) ∙ own))
      ];
      walking = IsWalking-begins now target here node;
    }

-- ---- one visit

module _ {before now half : Sight} {target : Point} {distance best less nearer : ℕ} {here : Spot} {stack put : List Spot} {visits : ℕ}
    (h : IsSeeking before now target distance best here stack visits) (keeps : KeepsSight now)
    (nearest : IsNearer distance best (squared_distance (point_of_spot here) target) here.node less nearer)
    (stacks : StacksFar now half target less stack put here) where
  still_outdone : (n : ℕ) (q : Point) → IsOutdone target distance best n q → IsOutdone target less nearer n q
  still_outdone n q = IsPairNotAbove-trans less nearer distance best (squared_distance q target) n nearest.before

  best_half : IsBest half target less nearer
  best_half =
      elim nearest.one_of [
        | inl (same, as_before) ↦ record {
          point = h.best_is.point;
          stands = stacks.later.seen.places.nodes nearer h.best_is.point
              (subst (λ n. StandsAt now.seen.points n h.best_is.point) (sym as_before) h.best_is.stands);
          distance_is = same ∙ h.best_is.distance_is;
        }
        | inr (is, node) ↦ record {
          point = (point_of_spot here);
          stands = stacks.later.seen.places.nodes nearer (point_of_spot here)
              (subst (λ n. StandsAt now.seen.points n (point_of_spot here)) (sym node) h.stands);
          distance_is = is;
        }
      ]

  stack_cases : (put ≡ stack) ⊎ (put ≡ stack ++ here ∷ [])
  stack_cases =
      elim stacks.stacks [
        | inl (finished, same) ↦ inl same
        | inr last ↦ inr last
      ]

  in_put : (spot : Spot) → Contains stack spot → Contains put spot
  in_put spot k =
      elim stack_cases [
        | inl same ↦ subst (λ xs. Contains xs spot) (sym same) k
        | inr last ↦ subst (λ xs. Contains xs spot) (sym last) (Contains-append_left stack (here ∷ []) spot k)
      ]

  here_half : StandsAt half.seen.points here.node (point_of_spot here)
  here_half = stacks.later.seen.places.nodes here.node (point_of_spot here) h.stands

  -- (the points of those on the stack are seen)
  pub stands_half : AreStanding half put
  stands_half spot k =
      elim stack_cases [
        | inl same ↦
            stacks.later.seen.places.nodes spot.node (point_of_spot spot) (h.stack_stands spot (subst (λ xs. Contains xs spot) same k))
        | inr last ↦ elim (Contains-push_cases stack here spot (subst (λ xs. Contains xs spot) last k)) [
          | inl old ↦ stacks.later.seen.places.nodes spot.node (point_of_spot spot) (h.stack_stands spot old)
          | inr is ↦ subst (λ (s : Spot). StandsAt half.seen.points s.node (point_of_spot s)) is here_half
        ]
      ]

  fresh_half : (n : ℕ) (q : Point) → StandsAt half.seen.points n q → StandsAt before.seen.points n q ⊎ IsOutdone target less nearer n q
  fresh_half n q stands =
      let there : StandsAt now.seen.points n q = sym (stacks.points n) ∙ stands in
      elim (h.fresh n q there) [
        | inl (inl entry) ↦ inl entry
        | inl (inr outdone) ↦ inr (still_outdone n q outdone)
        | inr node ↦ (
            let same : q ≡ (point_of_spot here) =
            StandsAt-unique now.seen.points here.node q (point_of_spot here) (subst (λ m. StandsAt now.seen.points m q) node there) h.stands in
            inr (subst (IsOutdone target less nearer n) (sym same)
            (subst (λ m. IsOutdone target less nearer m (point_of_spot here)) (sym node) nearest.one_more)))
      ]

  -- to the near side of the node, or to a far side
  abbrev LeftHalf : Point → Type 0
  LeftHalf q = GoesTo half here (point_of_spot here) (near_side here target) q ⊎ IsLeft half target put q

  left_here : (q : Point) → squared_distance q target ≤ less → WaitsAt now here q
      → IsMet before half (IsOutdone target less nearer) q ⊎ (Waits half [] q ⊎ LeftHalf q)
  left_here q close waits =
      elim (same_or_other (point_of_spot here) q) [
        | inl same ↦ inl (inl (
          here.node,
          here_half ∙ ap Some same,
          subst (λ r. IsOutdone target less nearer here.node r) same nearest.one_more,
        ))
        | inr other ↦ (
            let below : GoesBelow now here (point_of_spot here) q = record { waits = waits; other = other } in
            elim (two_sides (goes_right_by here.by_rows (point_of_spot here) q) (near_side here target)) [
              | inl goes ↦ inr (inr (inl (GoesBelow-later now half stacks.later here (point_of_spot here) q below, goes)))
              | inr goes ↦ elim stacks.stacks [
                | inl (inl empty, same) ↦
                    inl (inr (ends_here before now half here (point_of_spot here) h.stands stacks.later (far_side here target) q
                    h.search.later.steps empty (below, goes)))
                | inl (inr too_far, same) ↦ absurd (omega (arith, split_distance-le here.by_rows (point_of_spot here) q target goes, close, too_far))
                | inr last ↦ inr (inr (inr (
                  here,
                  subst (λ xs. Contains xs here) (sym last) (Contains-push stack here),
                  (GoesBelow-later now half stacks.later here (point_of_spot here) q below, goes),
                )))
              ]
            ])
      ]

  search_half : IsSearch before half target less (IsOutdone target less nearer) [] LeftHalf
  search_half =
      IsSearch-shifts before now half target distance less (IsOutdone target distance best) (IsOutdone target less nearer) stacks.later keeps
      (here ∷ []) [] (IsLeft now target stack) LeftHalf nearest.before.least still_outdone (λ spot k. absurd (Contains-none spot k))
      (λ q close left. elim left [
        | inl (spot, k, waits) ↦ elim (Contains-cases here spot [] k) [
          | inl is ↦ left_here q close (subst (λ s. WaitsAt now s q) (sym is) waits)
          | inr none ↦ absurd (Contains-none spot none)
        ]
        | inr (spot, k, goes) ↦
            inr (inr (inr (spot, in_put spot k, (GoesBelow-later now half stacks.later spot (point_of_spot spot) q goes.0, goes.1))))
      ])
      h.search

  best_later : (after : Sight) → IsLaterMoment half after → IsBest after target less nearer
  best_later after later = record {
    point = best_half.point;
    stands = later.seen.places.nodes nearer best_half.point best_half.stands;
    distance_is = best_half.distance_is;
  }

  -- ---- the child on the near side is next

  module _ (after : Sight) (child : Spot) (load : LoadsSpot half after here (near_side here target) (Some child)) where
    abbrev puts_near : Puts after [] (child ∷ []) here (near_side here target)
    puts_near = record { child = child; link = load.finds.link; by_rows = load.finds.by_rows; last = refl }

    search_near : IsSearch before after target less (IsOutdone target less nearer) (child ∷ []) (IsLeft after target put)
    search_near =
        IsSearch-shifts before half after target less less (IsOutdone target less nearer) (IsOutdone target less nearer) load.later stacks.keeps
        [] (child ∷ []) LeftHalf (IsLeft after target put) (omega arith) (λ n q own. own)
        (λ spot k. elim (Contains-cases child spot [] k) [
          | inl is ↦ subst (λ (s : Spot). IsSeen after.seen s.node) is (inr (here.node, near_side here target, load.finds.link))
          | inr none ↦ absurd (Contains-none spot none)
        ])
        (λ q close left. elim left [
          | inl (spot, k, waits) ↦ absurd (Contains-none spot k)
          | inr (inl goes) ↦ inr (inl (
            child,
            Contains-first child [],
            waits_at_child before half after here (point_of_spot here) here_half load.later [] (child ∷ []) (near_side here target) puts_near q goes,
          ))
          | inr (inr (spot, k, goes)) ↦ inr (inr (spot, k, (GoesBelow-later half after load.later spot (point_of_spot spot) q goes.0, goes.1)))
        ])
        search_half

    pub IsSeeking-near : IsSeeking before after target less nearer child put (suc visits)
    IsSeeking-near = record {
      best_is = best_later after load.later;
      search = search_near;
      stands = load.finds.stands;
      stack_stands = λ spot k. load.later.seen.places.nodes spot.node (point_of_spot spot) (stands_half spot k);
      fresh = λ n q stands. elim (cases_eq n child.node) [
        | inl is ↦ inr is
        | inr apart ↦ inl (fresh_half n q (sym (load.finds.others n apart) ∙ stands))
      ];
      walking = IsWalking-near now target here stack visits h.walking put stack_cases half after stacks.later load.later load.keeps child puts_near;
    }

  -- ---- or there is none, and nodes are popped

  module _ (mid after : Sight) (near : LoadsSpot half mid here (near_side here target) None) (rest : List Spot) where
    stands_mid : AreStanding mid put
    stands_mid spot k = near.later.seen.places.nodes spot.node (point_of_spot spot) (stands_half spot k)

    search_mid : IsSearch before mid target less (IsOutdone target less nearer) [] (IsLeft mid target put)
    search_mid =
        IsSearch-shifts before half mid target less less (IsOutdone target less nearer) (IsOutdone target less nearer) near.later stacks.keeps
        [] [] LeftHalf (IsLeft mid target put) (omega arith) (λ n q own. own) (λ spot k. absurd (Contains-none spot k))
        (λ q close left. elim left [
          | inl (spot, k, waits) ↦ absurd (Contains-none spot k)
          | inr (inl goes) ↦ inl (inr (ends_here before half mid here (point_of_spot here) here_half near.later (near_side here target) q
              search_half.later.steps near.finds.0 goes))
          | inr (inr (spot, k, goes)) ↦ inr (inr (spot, k, (GoesBelow-later half mid near.later spot (point_of_spot spot) q goes.0, goes.1)))
        ])
        search_half

    -- a far side that is finished
    met_far : IsLaterMoment mid after → (spot : Spot) → Contains put spot → IsFinished mid after target less spot → (q : Point)
        → squared_distance q target ≤ less → GoesTo mid spot (point_of_spot spot) (far_side spot target) q → IsMet before after (IsOutdone target less nearer) q
    met_far later spot k (inl empty) q close goes =
        inr (ends_here before mid after spot (point_of_spot spot) (stands_mid spot k) later (far_side spot target) q search_mid.later.steps empty goes)
    met_far later spot k (inr too_far) q close goes =
        absurd (omega (arith, split_distance-le spot.by_rows (point_of_spot spot) q target goes.1, close, too_far))

    fresh_mid : (n : ℕ) (q : Point) → StandsAt mid.seen.points n q → StandsAt before.seen.points n q ⊎ IsOutdone target less nearer n q
    fresh_mid n q stands = fresh_half n q (sym (near.finds.1 n) ∙ stands)

    -- None has a child.
    pub HasSought-popped : PopsFar mid after target less put rest None → HasSought before after target less nearer
    HasSought-popped pops = record {
      best_is = best_later after (IsLaterMoment-trans half mid after near.later pops.later);
      search = IsSearch-shifts before mid after target less less (IsOutdone target less nearer) (IsOutdone target less nearer) pops.later near.keeps
          [] [] (IsLeft mid target put) Nothing (omega arith) (λ n q own. own) (λ spot k. absurd (Contains-none spot k))
          (λ q close left. elim left [
            | inl (spot, k, waits) ↦ absurd (Contains-none spot k)
            | inr (spot, k, goes) ↦ inl (met_far pops.later spot k
                (pops.finished spot (subst (λ xs. Contains xs spot) pops.found.1 k)) q close goes)
          ])
          search_mid;
      fresh = λ n q stands. fresh_mid n q (sym (pops.found.2 n) ∙ stands);
    }

    -- One has.
    module _ (child : Spot) (pops : PopsFar mid after target less put rest (Some child)) where
      abbrev above : Spot
      above = pops.found.0

      child_is : IsChildSpot mid after above (far_side above target) child
      child_is = pops.found.2

      abbrev puts_far : Puts after [] (child ∷ []) above (far_side above target)
      puts_far = record { child = child; link = child_is.link; by_rows = child_is.by_rows; last = refl }

      in_all : (spot : Spot) → Contains rest spot → Contains put spot
      in_all spot k = subst (λ xs. Contains xs spot) (sym pops.found.1) (Contains-append_left rest (above ∷ pops.popped) spot k)

      above_in : Contains put above
      above_in =
          subst (λ xs. Contains xs above) (sym pops.found.1)
          (Contains-append_right rest (above ∷ pops.popped) above (Contains-first above pops.popped))

      left_far : (q : Point) → squared_distance q target ≤ less → (spot : Spot) → Contains put spot
          → GoesTo mid spot (point_of_spot spot) (far_side spot target) q
          → IsMet before after (IsOutdone target less nearer) q ⊎ (Waits after (child ∷ []) q ⊎ IsLeft after target rest q)
      left_far q close spot k goes =
          elim (Contains-append_cases rest (above ∷ pops.popped) spot (subst (λ xs. Contains xs spot) pops.found.1 k)) [
            | inl kept ↦ inr (inr (spot, kept, (GoesBelow-later mid after pops.later spot (point_of_spot spot) q goes.0, goes.1)))
            | inr more ↦ elim (Contains-cases above spot pops.popped more) [
              | inl is ↦ inr (inl (
                child,
                Contains-first child [],
                waits_at_child before mid after above (point_of_spot above) (stands_mid above above_in) pops.later [] (child ∷ [])
                    (far_side above target) puts_far q
                    (subst (λ s. GoesTo mid s (point_of_spot s) (far_side s target) q) (sym is) goes),
              ))
              | inr popped ↦ inl (met_far pops.later spot k (pops.finished spot popped) q close goes)
            ]
          ]

      search_far : IsSearch before after target less (IsOutdone target less nearer) (child ∷ []) (IsLeft after target rest)
      search_far =
          IsSearch-shifts before mid after target less less (IsOutdone target less nearer) (IsOutdone target less nearer) pops.later near.keeps
          [] (child ∷ []) (IsLeft mid target put) (IsLeft after target rest) (omega arith) (λ n q own. own)
          (λ spot k. elim (Contains-cases child spot [] k) [
            | inl is ↦ subst (λ (s : Spot). IsSeen after.seen s.node) is (inr (above.node, far_side above target, child_is.link))
            | inr none ↦ absurd (Contains-none spot none)
          ])
          (λ q close left. elim left [
            | inl (spot, k, waits) ↦ absurd (Contains-none spot k)
            | inr (spot, k, goes) ↦ left_far q close spot k goes
          ])
          search_mid

      pub IsSeeking-far : IsSeeking before after target less nearer child rest (suc visits)
      IsSeeking-far =
          let later = IsLaterMoment-trans half mid after near.later pops.later in
          record {
            best_is = best_later after later;
            search = search_far;
            stands = child_is.stands;
            stack_stands = λ spot k. pops.later.seen.places.nodes spot.node (point_of_spot spot) (stands_mid spot (in_all spot k));
            fresh = λ n q stands. elim (cases_eq n child.node) [
              | inl is ↦ inr is
              | inr apart ↦ inl (fresh_mid n q (sym (child_is.others n apart) ∙ stands))
            ];
            walking = IsWalking-far now target here stack visits h.walking put stack_cases half after stacks.later later pops.keeps child above rest
                pops.popped pops.found.1 puts_far;
          }

  -- So the walk goes on, or is over.
  pub IsSeeking-walks : (after : Sight) (rest : List Spot) (child : Spot) → WalksOn half after target less here put rest (Some child)
      → IsSeeking before after target less nearer child rest (suc visits)
  IsSeeking-walks after rest child (inl (c, is, same, load)) =
      subst (λ xs. IsSeeking before after target less nearer child xs (suc visits)) (sym same)
      (IsSeeking-near after child (subst (λ s. LoadsSpot half after here (near_side here target) s) (sym is) load))
  IsSeeking-walks after rest child (inr (mid, near, pops)) = IsSeeking-far mid after near rest child pops

  pub HasSought-walks : (after : Sight) (rest : List Spot) → WalksOn half after target less here put rest None → HasSought before after target less nearer
  HasSought-walks after rest (inl (c, is, same, load)) = cc
  HasSought-walks after rest (inr (mid, near, pops)) = HasSought-popped mid after near rest pops

-- ---- it is over

module _ (before now : Sight) (target : Point) (distance best : ℕ) (h : HasSought before now target distance best)
    (sight : KeepsSight before) (keeps : KeepsSight now) (distinct : AreDistinct now.seen.points) where
  met : (q : Point) → squared_distance q target ≤ distance → IsMet before now (IsOutdone target distance best) q
  met = IsSearch-ends before now target distance (IsOutdone target distance best) [] refl h.search

  entry_outdone : (n : ℕ) (q : Point) → StandsAt before.seen.points n q → IsOutdone target distance best n q
  entry_outdone n q stands =
      elim (cases_lt distance (squared_distance q target)) [
        | inl further ↦ record { least = omega (arith, further); first = λ e. absurd (omega (arith, further, e)) }
        | inr close ↦ elim (met q close) [
          | inl (m, own, outdone) ↦
              subst (λ k. IsOutdone target distance best k q) (distinct m n q own (h.search.later.seen.places.nodes n q stands)) outdone
          | inr ends ↦ absurd (IsFree-ends before now h.search.later sight keeps q ends n stands)
        ]
      ]

  distance_of : distance_to target now.seen.points best ≡ distance
  distance_of =
      ap (λ r. squared_distance r target) (point_of-stands now.seen.points best h.best_is.point h.best_is.stands) ∙ sym h.best_is.distance_is

  not_above : (n : ℕ) (q : Point) → StandsAt now.seen.points n q → IsOutdone target distance best n q
      → IsNotAbove (distance_to target now.seen.points) best n
  not_above n q stands outdone =
      let there : distance_to target now.seen.points n ≡ squared_distance q target =
      ap (λ r. squared_distance r target) (point_of-stands now.seen.points n q stands) in
      record {
        least = omega (arith, distance_of, there, outdone.least);
        first = λ e. outdone.first (sym there ∙ e ∙ distance_of);
      }

  pub HasSought-nearest : IsNearestSeen before now target best
  HasSought-nearest = record {
    nearest = record {
      member = IsPresent-stands now.seen.points best h.best_is.point h.best_is.stands;
      not_above = λ n present.
          let q : Point = point_of now.seen.points n in
          let stands = StandsAt-present now.seen.points n present in
          elim (h.fresh n q stands) [
            | inl entry ↦ not_above n q stands (entry_outdone n q entry)
            | inr outdone ↦ not_above n q stands outdone
          ];
    };
    not_above = λ n present.
        let q : Point = point_of before.seen.points n in
        let stands = StandsAt-present before.seen.points n present in
        not_above n q (h.search.later.seen.places.nodes n q stands) (entry_outdone n q stands);
    swept = λ q close free. elim (met q (omega (arith, close, distance_of))) [
      | inl (m, own, outdone) ↦ absurd (free m own)
      | inr ends ↦ ends
    ];
  }
