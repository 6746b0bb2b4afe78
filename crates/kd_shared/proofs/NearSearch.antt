-- The search for all near nodes, by a queue whose front is visited: the nodes found, and the points that wait.
use Rattle.kd_shared.proofs.Words.{◌≡◌, ◌⊎◌, ℕ, suc, ◌+◌, ◌*◌, ◌<◌, ◌≤◌, Bool, false, not, List, [], ◌∷◌, ◌++◌, length, arith, refl, sym, ap, ◌∙◌, subst, inl}
use Rattle.kd_shared.proofs.Words.{inr, Contains, IsFalse, cases_eq, append-nil, length-map, map-append, Contains-append_left, Contains-push}
use Rattle.kd_shared.proofs.Words.{Contains-push_cases, Point, squared_distance, point_at, AreDistinct, StandsAt, IsSeen, IsLaterMoment, KeepsSight, Sight}
use Rattle.kd_shared.proofs.Words.{StandsAt-unique, IsFree-ends, IsLaterMoment-trans, Contains-after, Contains-first, KeepsPoints, LoadsPoint, AreGathered}
use Rattle.kd_shared.proofs.Words.{LeavesChild, Opens, QueuesChild, QueuesWithin, side_distance, noted, numbers_of, point_of_spot, Found, Spot}
use Rattle.kd_shared.proofs.Words.{AreDifferent, AreDifferent-few, AreDifferent-within, Contains-cases, IsDistinct-from_different, Contains-none}
use Rattle.kd_shared.proofs.Words.{length-one_more}
use Rattle.kd_shared.proofs.Searching.{GoesBelow, GoesTo, IsMet, IsSearch, IsSearch-begins, IsSearch-ends, IsSearch-leaves_first, IsSearch-leaves_last}
use Rattle.kd_shared.proofs.Searching.{IsSearch-opens_first, IsSearch-opens_last, IsSearch-takes, IsSearch-visits, Nothing}
use Rattle.kd_shared.proofs.SideDistances.{beyond_radius}
use Rattle.kd_shared.proofs.SortedNear.{is_within-close}
use Rattle.kd_shared.proofs.VisitedOnce.{AreOnce, AreOnce-few, AreOnce-leaves_first, AreOnce-leaves_last, AreOnce-low, AreOnce-opens_first}
use Rattle.kd_shared.proofs.VisitedOnce.{AreOnce-opens_last, AreOnce-takes}
use Rattle.kd_shared.proofs.VisitedOnce.{IsDone, IsDoneOrAt, is_not_done, IsVisiting, IsVisiting-begins}

-- ---- the points of what waits, and of what is found

QueuesChild-opens : (before after : Sight) (queue put : List Spot) (spot : Spot) (side : Bool) → QueuesChild before after queue put spot side
    → Opens before after queue put spot side
QueuesChild-opens before after queue put spot side h =
    elim h.queues [
      | inl (empty, same, points) ↦ inl (empty, same)
      | inr (new, stands, others) ↦ inr new
    ]

-- the points of the spots that wait are seen
abbrev pub AreSeenSpots : Sight → List Spot → Type 0
AreSeenSpots now spots = (spot : Spot) → Contains spots spot → StandsAt now.seen.points spot.node (point_of_spot spot)

-- node n is found, or waits
abbrev pub IsFoundOrWaits : List ℕ → List Spot → ℕ → Type 0
IsFoundOrWaits found spots n = Contains found n ⊎ ((spot : Spot) × Contains spots spot × (spot.node ≡ n))

-- each near node whose point was seen since the search began is found, or waits
abbrev pub AreFreshFound : Sight → Sight → Point → ℕ → List ℕ → List Spot → Type 0
AreFreshFound before now target bound found spots =
    (n : ℕ) (q : Point) → StandsAt now.seen.points n q → squared_distance q target ≤ bound
    → StandsAt before.seen.points n q ⊎ IsFoundOrWaits found spots n

module _ (now after : Sight) (later : IsLaterMoment now after) (queue put : List Spot) (same : put ≡ queue) (points : KeepsPoints now after) where
  AreSeenSpots-same : AreSeenSpots now queue → AreSeenSpots after put
  AreSeenSpots-same h spot k = later.seen.places.nodes spot.node (point_of_spot spot) (h spot (subst (λ xs. Contains xs spot) same k))

  AreFreshFound-same : (before : Sight) (target : Point) (bound : ℕ) (found : List ℕ) → AreFreshFound before now target bound found queue
      → AreFreshFound before after target bound found put
  AreFreshFound-same before target bound found h n q stands close =
      subst (λ xs. StandsAt before.seen.points n q ⊎ IsFoundOrWaits found xs n) (sym same) (h n q (sym (points n) ∙ stands) close)

module _ (now after : Sight) (queue put : List Spot) (spot : Spot) (side : Bool) (h : QueuesChild now after queue put spot side) where
  QueuesChild-stands : AreSeenSpots now queue → AreSeenSpots after put
  QueuesChild-stands old =
      elim h.queues [
        | inl (empty, same, points) ↦ AreSeenSpots-same now after h.later queue put same points old
        | inr (new, stands, others) ↦ (
            λ other k. elim (Contains-push_cases queue new.child other (subst (λ xs. Contains xs other) new.last k)) [
              | inl before ↦ h.later.seen.places.nodes other.node (point_of_spot other) (old other before)
              | inr is ↦ subst (λ (s : Spot). StandsAt after.seen.points s.node (point_of_spot s)) is stands
            ])
      ]

  QueuesChild-fresh : (before : Sight) (target : Point) (bound : ℕ) (found : List ℕ)
      → AreFreshFound before now target bound found queue → AreFreshFound before after target bound found put
  QueuesChild-fresh before target bound found old =
      elim h.queues [
        | inl (empty, same, points) ↦
            AreFreshFound-same now after h.later queue put same points before target bound found old
        | inr (new, stands, others) ↦ (
            λ n q own close. elim (cases_eq n new.child.node) [
              | inl child ↦
                  inr (inr (new.child, subst (λ xs. Contains xs new.child) (sym new.last) (Contains-push queue new.child), sym child))
              | inr apart ↦ elim (old n q (sym (others n apart) ∙ own) close) [
                | inl entry ↦ inl entry
                | inr (inl k) ↦ inr (inl k)
                | inr (inr (other, k, is)) ↦ inr (inr (
                  other,
                  subst (λ xs. Contains xs other) (sym new.last) (Contains-append_left queue (new.child ∷ []) other k),
                  is,
                ))
              ]
            ])
      ]

-- ---- a node is noted, if it is near

-- the node of a spot at this squared distance is noted, if that is within the bound
abbrev pub Notes : List Found → List Found → Spot → ℕ → ℕ → Type 0
Notes found after spot distance bound =
    ((distance ≤ bound) × (after ≡ found ++ noted spot.node distance ∷ [])) ⊎ ((bound < distance) × (after ≡ found))

numbers_of-push : (found : List Found) (n distance : ℕ) → numbers_of (found ++ noted n distance ∷ []) ≡ numbers_of found ++ n ∷ []
numbers_of-push found n distance = map-append (λ (f : Found). f.node) found (noted n distance ∷ [])

module _ (found after : List Found) (spot : Spot) (distance bound : ℕ) (notes : Notes found after spot distance bound) where
  Notes-old : (n : ℕ) → Contains (numbers_of found) n → Contains (numbers_of after) n
  Notes-old n k =
      elim notes [
        | inl (near, is) ↦ subst (λ ns. Contains ns n) (sym (ap numbers_of is ∙ numbers_of-push found spot.node distance))
            (Contains-append_left (numbers_of found) (spot.node ∷ []) n k)
        | inr (far, is) ↦ subst (λ fs. Contains (numbers_of fs) n) (sym is) k
      ]

  Notes-new : distance ≤ bound → Contains (numbers_of after) spot.node
  Notes-new close =
      elim notes [
        | inl (near, is) ↦ subst (λ ns. Contains ns spot.node) (sym (ap numbers_of is ∙ numbers_of-push found spot.node distance))
            (Contains-push (numbers_of found) spot.node)
        | inr (far, is) ↦ absurd (omega (arith, close, far))
      ]

  Notes-cases : (n : ℕ) → Contains (numbers_of after) n → Contains (numbers_of found) n ⊎ (spot.node ≡ n)
  Notes-cases n k =
      elim notes [
        | inl (near, is) ↦ Contains-push_cases (numbers_of found) spot.node n
            (subst (λ ns. Contains ns n) (ap numbers_of is ∙ numbers_of-push found spot.node distance) k)
        | inr (far, is) ↦ inl (subst (λ fs. Contains (numbers_of fs) n) is k)
      ]

  Notes-spots : (f : Found) → Contains after f → Contains found f ⊎ ((noted spot.node distance ≡ f) × (distance ≤ bound))
  Notes-spots f k =
      elim notes [
        | inl (near, is) ↦ elim (Contains-push_cases found (noted spot.node distance) f (subst (λ fs. Contains fs f) is k)) [
          | inl old ↦ inl old
          | inr same ↦ inr (same, near)
        ]
        | inr (far, is) ↦ inl (subst (λ fs. Contains fs f) is k)
      ]

  Notes-different : AreDifferent (numbers_of found) → ¬ Contains (numbers_of found) spot.node → AreDifferent (numbers_of after)
  Notes-different h new =
      elim notes [
        | inl (near, is) ↦ (
            let whole : numbers_of found ++ [] ≡ numbers_of found = append-nil (numbers_of found) in
            subst AreDifferent (sym (ap numbers_of is ∙ numbers_of-push found spot.node distance))
            (AreDifferent-within spot.node (numbers_of found) [] (subst AreDifferent (sym whole) h)
            (λ k. new (subst (λ ns. Contains ns spot.node) whole k))))
        | inr (far, is) ↦ subst (λ fs. AreDifferent (numbers_of fs)) (sym is) h
      ]

-- ---- the search

-- So many spots were visited, and those of the queue wait with their points. The nodes found are visited ones, different, and near, and
-- each near node whose point was seen since the search began is found, or waits.
pub record IsGathering (before now : Sight) (target : Point) (r : ℕ) (queue : List Spot) (found : List Found) (visits : ℕ) : Type 0 where
  pub search : IsSearch before now target (r * r) (λ n q. Contains (numbers_of found) n) queue Nothing
  pub visiting : IsVisiting now queue visits
  pub stand : AreSeenSpots now queue
  pub different : AreDifferent (numbers_of found)
  pub among : (n : ℕ) → Contains (numbers_of found) n → Contains visiting.done n
  pub only : (f : Found) → Contains found f → (at : Point) × StandsAt now.seen.points f.node at × (f.distance ≡ squared_distance at target)
      × (f.distance ≤ r * r) × (f.edge ≡ 0)
  pub fresh : AreFreshFound before now target (r * r) (numbers_of found) queue

-- After one side of a node: it is noted, and the child on that side is left out or waits.
pub record IsHalfWay (before now half : Sight) (target : Point) (bound : ℕ) (mid : List Spot) (numbers done : List ℕ) (spot : Spot) (right : Bool)
    : Type 0 where
  pub later : IsLaterMoment now half
  pub keeps : KeepsSight half
  pub search : IsSearch before half target bound (λ n q. Contains numbers n) mid (GoesTo half spot (point_of_spot spot) right)
  pub once : AreOnce half mid (spot.node ∷ done) (IsDoneOrAt done spot.node (not right))
  pub stand : AreSeenSpots half mid
  pub fresh : AreFreshFound before half target bound numbers mid

-- It begins at node 0.
pub IsGathering-begins : (before now : Sight) (target : Point) (r : ℕ) (spot : Spot) → LoadsPoint before now 0 (point_of_spot spot) → spot.node ≡ 0
    → spot.by_rows ≡ false → IsGathering before now target r (spot ∷ []) [] 0
IsGathering-begins before now target r spot load node by_rows = record {
  search = IsSearch-begins before now target (r * r) (λ n q. Contains {X = ℕ} [] n) spot load.later node by_rows;
  visiting = IsVisiting-begins now spot node;
  stand = λ other k. elim (Contains-cases spot other [] k) [
    | inl is ↦
        subst (λ (s : Spot). StandsAt now.seen.points s.node (point_of_spot s)) is
        (subst (λ n. StandsAt now.seen.points n (point_of_spot spot)) (sym node) load.stands)
    | inr more ↦ absurd (Contains-none other more)
  ];
  different = tt;
  among = λ n k. absurd (Contains-none n k);
  only = λ f k. absurd (Contains-none f k);
  fresh = λ n q own close. elim (cases_eq n 0) [
    | inl start ↦ inr (inr (spot, Contains-first spot [], node ∙ sym start))
    | inr apart ↦ inl (sym (load.others n apart) ∙ own)
  ];
}

module _ {before now : Sight} {target : Point} {r : ℕ} {queue : List Spot} {found : List Found} {visits : ℕ}
    (h : IsGathering before now target r queue found visits) where
  -- The first spot that waits is taken,
  module _ {spot : Spot} {rest : List Spot} (first_waits : queue ≡ spot ∷ rest) where
    first_in : Contains queue spot
    first_in = subst (λ xs. Contains xs spot) (sym first_waits) (Contains-first spot rest)

    -- and its node is seen, with its point.
    pub IsGathering-seen : IsSeen now.seen spot.node
    IsGathering-seen = h.search.seen spot first_in

    pub IsGathering-stands : StandsAt now.seen.points spot.node (point_of_spot spot)
    IsGathering-stands = h.stand spot first_in

    abbrev done : List ℕ
    done = h.visiting.done

    taken : AreOnce now rest (spot.node ∷ done) (IsDone done)
    taken = AreOnce-takes now spot queue rest done h.visiting.once first_waits

    not_found : ¬ Contains (numbers_of found) spot.node
    not_found k = is_not_done now rest spot.node done (IsDone done) taken (h.among spot.node k)

    -- Those that are visited, with it, and those that wait are no more than there are nodes.
    pub IsGathering-room_first : (marks : ℕ) → ((n : ℕ) → IsSeen now.seen n → n ≤ marks) → suc visits + length rest ≤ suc marks
    IsGathering-room_first marks within =
        let few = AreOnce-few now marks within rest (spot.node ∷ done) (IsDone done) taken in
        omega (arith, few, h.visiting.count, length-one_more spot.node done)

    -- ---- one visit

    module _ (half : Sight) (mid : List Spot) (more_found : List Found) (right first_within : Bool) (keeps : KeepsSight now)
        (notes : Notes found more_found spot (squared_distance (point_of_spot spot) target) (r * r))
        (first_is : IsFalse first_within → r < side_distance spot.by_rows (point_of_spot spot) target (not right))
        (first_side : QueuesWithin now half rest mid spot (not right) first_within) where
      visited : IsSearch before now target (r * r) (λ n q. Contains (numbers_of more_found) n) rest (GoesBelow now spot (point_of_spot spot))
      visited =
          IsSearch-visits before now target (r * r) (λ n q. Contains (numbers_of found) n) spot rest (point_of_spot spot) (r * r)
          (λ n q. Contains (numbers_of more_found) n)
          IsGathering-stands (omega arith) (λ n q. Notes-old found more_found spot (squared_distance (point_of_spot spot) target) (r * r) notes n)
          (Notes-new found more_found spot (squared_distance (point_of_spot spot) target) (r * r) notes)
          (IsSearch-takes before now target (r * r) (λ n q. Contains (numbers_of found) n) spot queue rest first_waits h.search)

      stand_rest : AreSeenSpots now rest
      stand_rest other k = h.stand other (subst (λ xs. Contains xs other) (sym first_waits) (Contains-after spot rest other k))

      fresh_noted : AreFreshFound before now target (r * r) (numbers_of more_found) rest
      fresh_noted n q stands close =
          elim (cases_eq n spot.node) [
            | inl here ↦ (
                let same : q ≡ (point_of_spot spot) =
                StandsAt-unique now.seen.points spot.node q (point_of_spot spot) (subst (λ m. StandsAt now.seen.points m q) here stands) IsGathering-stands in
                let near : squared_distance (point_of_spot spot) target ≤ r * r = subst (λ p. squared_distance p target ≤ r * r) same close in
                inr (inl (subst (Contains (numbers_of more_found)) (sym here)
                (Notes-new found more_found spot (squared_distance (point_of_spot spot) target) (r * r) notes near))))
            | inr apart ↦ elim (h.fresh n q stands close) [
              | inl entry ↦ inl entry
              | inr (inl k) ↦ inr (inl (Notes-old found more_found spot (squared_distance (point_of_spot spot) target) (r * r) notes n k))
              | inr (inr (other, k, is)) ↦ elim (Contains-cases spot other rest (subst (λ xs. Contains xs other) first_waits k)) [
                | inl first ↦ absurd (apart (sym is ∙ ap (λ (s : Spot). s.node) (sym first)))
                | inr later ↦ inr (inr (other, later, is))
              ]
            ]
          ]

      half_way-leaves : r * r < side_distance spot.by_rows (point_of_spot spot) target (not right)
          * side_distance spot.by_rows (point_of_spot spot) target (not right) → LeavesChild now half rest mid
          → IsHalfWay before now half target (r * r) mid (numbers_of more_found) done spot right
      half_way-leaves beyond leaves =
          record {
            later = leaves.later;
            keeps = leaves.keeps;
            search = subst
                (λ xs. IsSearch before half target (r * r) (λ n q. Contains (numbers_of more_found) n) xs (GoesTo half spot (point_of_spot spot) right))
                (sym leaves.same)
                (IsSearch-leaves_first before now half target (r * r) (λ n q. Contains (numbers_of more_found) n) spot (point_of_spot spot)
                IsGathering-stands leaves.later keeps right rest beyond visited);
            once = subst (λ xs. AreOnce half xs (spot.node ∷ done) (IsDoneOrAt done spot.node (not right))) (sym leaves.same)
                (AreOnce-leaves_first now half leaves.later rest spot done (not right) taken);
            stand = AreSeenSpots-same now half leaves.later rest mid leaves.same leaves.points stand_rest;
            fresh = AreFreshFound-same now half leaves.later rest mid leaves.same leaves.points before target (r * r) (numbers_of more_found) fresh_noted;
          }

      half_way-queues : QueuesChild now half rest mid spot (not right)
          → IsHalfWay before now half target (r * r) mid (numbers_of more_found) done spot right
      half_way-queues queues =
          let opens = QueuesChild-opens now half rest mid spot (not right) queues in
          record {
            later = queues.later;
            keeps = queues.keeps;
            search = IsSearch-opens_first before now half target (r * r) (λ n q. Contains (numbers_of more_found) n) spot (point_of_spot spot)
                IsGathering-stands queues.later keeps
                right rest mid opens visited;
            once = AreOnce-opens_first now half queues.later rest spot done queues.keeps mid (not right) taken opens;
            stand = QueuesChild-stands now half rest mid spot (not right) queues stand_rest;
            fresh = QueuesChild-fresh now half rest mid spot (not right) queues before target (r * r) (numbers_of more_found) fresh_noted;
          }

      half_way : IsHalfWay before now half target (r * r) mid (numbers_of more_found) done spot right
      half_way =
          elim first_side [
            | inl (out, leaves) ↦ half_way-leaves
                (beyond_radius (side_distance spot.by_rows (point_of_spot spot) target (not right)) r first_within first_is out) leaves
            | inr queues ↦ half_way-queues queues
          ]

      -- There is room for a child of the other side, too.
      pub IsGathering-room_last : (marks : ℕ) → ((n : ℕ) → IsSeen half.seen n → n ≤ marks) → suc visits + length mid ≤ suc marks
      IsGathering-room_last marks within =
          let few = AreOnce-few half marks within mid (spot.node ∷ done) (IsDoneOrAt done spot.node (not right)) half_way.once in
          omega (arith, few, h.visiting.count, length-one_more spot.node done)

      module _ (after : Sight) (put : List Spot) (next : ℕ) (more : next ≡ suc visits) where
        -- The node is noted, and both sides are done.
        visited_all : IsLaterMoment half after → IsSearch before after target (r * r) (λ n q. Contains (numbers_of more_found) n) put Nothing
            → AreOnce after put (spot.node ∷ done) (IsDone (spot.node ∷ done)) → AreSeenSpots after put
            → AreFreshFound before after target (r * r) (numbers_of more_found) put → IsGathering before after target r put more_found next
        visited_all last search once stand fresh =
            let later = IsLaterMoment-trans now half after half_way.later last in
            let distance : ℕ = squared_distance (point_of_spot spot) target in
            record {
              search = search;
              visiting = record { done = spot.node ∷ done; count = ap suc h.visiting.count ∙ sym more; once = once };
              stand = stand;
              different = Notes-different found more_found spot distance (r * r) notes h.different not_found;
              among = λ n k. elim (Notes-cases found more_found spot distance (r * r) notes n k) [
                | inl old ↦ Contains-after spot.node done n (h.among n old)
                | inr same ↦ (0, omega arith, same)
              ];
              only = λ f k. elim (Notes-spots found more_found spot distance (r * r) notes f k) [
                | inl old ↦ (let own = h.only f old in (own.0, later.seen.places.nodes f.node own.0 own.1, own.2, own.3, own.4))
                | inr (same, near) ↦ subst
                    (λ (g : Found). (at : Point) × StandsAt after.seen.points g.node at × (g.distance ≡ squared_distance at target)
                    × (g.distance ≤ r * r) × (g.edge ≡ 0))
                    same (point_of_spot spot, later.seen.places.nodes spot.node (point_of_spot spot) IsGathering-stands, refl, near, refl)
              ];
              fresh = fresh;
            }

        stands_half : StandsAt half.seen.points spot.node (point_of_spot spot)
        stands_half = half_way.later.seen.places.nodes spot.node (point_of_spot spot) IsGathering-stands

        visited-queues : QueuesChild half after mid put spot right → IsGathering before after target r put more_found next
        visited-queues queues =
            let opens = QueuesChild-opens half after mid put spot right queues in
            visited_all queues.later
            (IsSearch-opens_last before half after target (r * r) (λ n q. Contains (numbers_of more_found) n) spot (point_of_spot spot)
            stands_half queues.later half_way.keeps right mid put opens half_way.search)
            (AreOnce-opens_last half after queues.later mid spot done queues.keeps put right half_way.once opens)
            (QueuesChild-stands half after mid put spot right queues half_way.stand)
            (QueuesChild-fresh half after mid put spot right queues before target (r * r) (numbers_of more_found) half_way.fresh)

        visited-leaves : r * r < side_distance spot.by_rows (point_of_spot spot) target right * side_distance spot.by_rows (point_of_spot spot) target right
            → LeavesChild half after mid put → IsGathering before after target r put more_found next
        visited-leaves beyond leaves =
            visited_all leaves.later
            (subst (λ xs. IsSearch before after target (r * r) (λ n q. Contains (numbers_of more_found) n) xs Nothing) (sym leaves.same)
            (IsSearch-leaves_last before half after target (r * r) (λ n q. Contains (numbers_of more_found) n) spot (point_of_spot spot)
            stands_half leaves.later half_way.keeps right mid beyond half_way.search))
            (subst (λ xs. AreOnce after xs (spot.node ∷ done) (IsDone (spot.node ∷ done))) (sym leaves.same)
            (AreOnce-leaves_last half after leaves.later mid spot done right half_way.once))
            (AreSeenSpots-same half after leaves.later mid put leaves.same leaves.points half_way.stand)
            (AreFreshFound-same half after leaves.later mid put leaves.same leaves.points before target (r * r) (numbers_of more_found) half_way.fresh)

        -- The child on the other side is queued, or left out.
        pub IsGathering-visits : (last_within : Bool)
            → (IsFalse last_within → r < side_distance spot.by_rows (point_of_spot spot) target right)
            → QueuesWithin half after mid put spot right last_within → IsGathering before after target r put more_found next
        IsGathering-visits last_within last_is last_side =
            elim last_side [
              | inl (out, leaves) ↦ visited-leaves
                  (beyond_radius (side_distance spot.by_rows (point_of_spot spot) target right) r last_within last_is out) leaves
              | inr queues ↦ visited-queues queues
            ]

  -- Nor are more found.
  pub IsGathering-few_found : (marks : ℕ) → ((n : ℕ) → IsSeen now.seen n → n ≤ marks) → length found ≤ suc marks
  IsGathering-few_found marks within =
      omega (
        arith,
        AreDifferent-few (numbers_of found) marks h.different low,
        length-map found (λ (f : Found). f.node),
      )
    where
      low : (n : ℕ) → Contains (numbers_of found) n → n ≤ marks
      low n k = AreOnce-low now marks within queue h.visiting.done (IsDone h.visiting.done) h.visiting.once n (h.among n k)

  -- It ends when nothing waits: the near nodes are found.
  module _ (none_waits : queue ≡ []) (sight : KeepsSight before) (keeps : KeepsSight now) (distinct : AreDistinct now.seen.points) where
    met : (q : Point) → squared_distance q target ≤ r * r → IsMet before now (λ n p. Contains (numbers_of found) n) q
    met = IsSearch-ends before now target (r * r) (λ n q. Contains (numbers_of found) n) queue none_waits h.search

    all_found : (n : ℕ) (q : Point) → StandsAt now.seen.points n q → squared_distance q target ≤ r * r → Contains (numbers_of found) n
    all_found n q stands close =
        elim (h.fresh n q stands close) [
          | inl entry ↦ elim (met q close) [
            | inl (m, own, k) ↦ subst (Contains (numbers_of found)) (distinct m n q own stands) k
            | inr ends ↦ absurd (IsFree-ends before now h.search.later sight keeps q ends n entry)
          ]
          | inr (inl k) ↦ k
          | inr (inr (spot, k, is)) ↦ absurd (Contains-none spot (subst (λ xs. Contains xs spot) none_waits k))
        ]

    pub IsGathering-ends : AreGathered before now target r found
    IsGathering-ends = record {
      once = IsDistinct-from_different (numbers_of found) h.different;
      all = λ n within. (let own = is_within-close target r (point_at now.seen.points n) within in all_found n own.0 own.1 own.2);
      only = h.only;
      swept = λ q close free. elim (met q close) [
        | inl (m, own, k) ↦ absurd (free m own)
        | inr ends ↦ ends
      ];
    }
