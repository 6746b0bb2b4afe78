-- The search of a pass for all near nodes: what waits and what is found at each stage.
use Rattle.kd_shared.proofs.Words.{◌≡◌, ℕ, suc, ◌+◌, ◌*◌, ◌<◌, ◌≤◌, Bool, false, true, not, List, [], ◌∷◌, ◌++◌, length, arith, refl, sym, ap, ◌∙◌, subst, ◌==◌}
use Rattle.kd_shared.proofs.Words.{inl, inr, IsFalse, if◌then◌else◌, Some, None, drop, map, nat_le, set, slice_get, take, All, All-append, All-cons, All-nil}
use Rattle.kd_shared.proofs.Words.{drop-append-le, drop-cons, drop-set-lt, drop_of_length-le, length-append, length-drop, length-set, map-append}
use Rattle.kd_shared.proofs.Words.{take-append-le, take-set, take_more_set, get_or_from_slice_get, slice_get_cases, slice_get_within, leb-false, leb-true}
use Rattle.kd_shared.proofs.Words.{Point, squared_distance, SearchLists, IsNoted, found_of_spot, noted_spot, point_of_spot, BelongsTo, PassState, SharedState}
use Rattle.kd_shared.proofs.Words.{with_lists, with_view, Found, Spot, IsLawfulView, SeesNode, sight_in, KeepsSight, KeepsSight-lawful, LoadsPoint}
use Rattle.kd_shared.proofs.Words.{OnlyLooks-trans, KeepsLists, OnlyLooks, PassLooks, searched, AreGathered, IsChildWithin, side_distance}
use Rattle.kd_shared.proofs.NearSearch.{IsGathering, IsGathering-begins, IsGathering-ends, IsGathering-few_found, IsGathering-room_first}
use Rattle.kd_shared.proofs.NearSearch.{IsGathering-room_last, IsGathering-seen, IsGathering-visits, Notes}
use mir.Val.{bool_byte}

-- ---- the lists

-- a pass whose search alone changes keeps its other lists
pub KeepsLists-searched : (entry before after : PassState) (search : SearchLists) → KeepsLists entry before → after ≡ searched before after.view search
    → KeepsLists entry after
KeepsLists-searched entry before after search lists is = record {
  table = ap (λ (s : PassState). s.table) is ∙ lists.table;
  near = ap (λ (s : PassState). s.lists.near) is ∙ lists.near;
  around = ap (λ (s : PassState). s.lists.around) is ∙ lists.around;
  waiting = ap (λ (s : PassState). s.lists.waiting) is ∙ lists.waiting;
}

pub KeepsLists-looks : (shared : SharedState) (entry first : PassState) → PassLooks shared entry first → KeepsLists entry first
KeepsLists-looks shared entry first passes = record {
  table = ap (λ (s : PassState). s.table) passes.view_alone;
  near = ap (λ (s : PassState). s.lists.near) passes.view_alone;
  around = ap (λ (s : PassState). s.lists.around) passes.view_alone;
  waiting = ap (λ (s : PassState). s.lists.waiting) passes.view_alone;
}

-- one spot more waits, unless it is node 0's
abbrev put : Spot → List Spot → List Spot
put child spots = if not (child.node == 0) then spots ++ child ∷ [] else spots

abbrev pub with_child : Spot → PassState → PassState
with_child child s = with_lists s (record s.lists { search = record s.lists.search { spots = put child s.lists.search.spots } })

module _ (n : ℕ) (child : Spot) (spots : List Spot) (within : n ≤ length spots) where
  -- behind it the first spots stay
  put-keeps : (wanted : Bool) → (take n (if wanted then spots ++ child ∷ [] else spots) ≡ take n spots)
      × (drop n (if wanted then spots ++ child ∷ [] else spots) ≡ (if wanted then drop n spots ++ child ∷ [] else drop n spots))
      × (length spots ≤ length (if wanted then spots ++ child ∷ [] else spots))
  put-keeps true =
      (take-append-le n spots (child ∷ []) within, drop-append-le n spots (child ∷ []) within, omega (arith, length-append spots (child ∷ [])))
  put-keeps false = (refl, refl, omega arith)

-- the nodes that are noted in place of the first spots
abbrev found_in_front : ℕ → List Spot → List Found
found_in_front count spots = map found_of_spot (take count spots)

-- one more is, if it is near
module _ (spots : List Spot) (count distance bound : ℕ) (spot : Spot) (below : count < length spots) (all : All IsNoted (take count spots)) where
  abbrev noted_list : List Spot
  noted_list = set spots count (noted_spot spot.node distance)

  abbrev IsNotedTo : ℕ → Type 0
  IsNotedTo next = All IsNoted (take next noted_list) × (next ≤ count + 1)
      × Notes (found_in_front count spots) (found_in_front next noted_list) spot distance bound

  noted_to : (near : Bool) → nat_le distance bound ≡ near → IsNotedTo (count + bool_byte near)
  noted_to true is =
      let front = take_more_set spots count (noted_spot spot.node distance) below in (
        subst (All IsNoted) (sym front) (All-append IsNoted (take count spots) (noted_spot spot.node distance ∷ []) all
            (All-cons IsNoted (noted_spot spot.node distance) [] refl (All-nil IsNoted))),
        omega arith,
        inl (
          leb-true distance bound is,
          ap (map found_of_spot) front ∙ map-append found_of_spot (take count spots) (noted_spot spot.node distance ∷ []),
        ),
      )
  noted_to false is =
      let none : count + bool_byte false ≡ count = omega arith in
      let front = ap (λ n. take n noted_list) none ∙ take-set spots count (noted_spot spot.node distance) in
      (subst (All IsNoted) (sym front) all, omega arith, inr (leb-false distance bound is, ap (map found_of_spot) front))

-- ---- the search

-- The pass only looks, and its other lists stay. So many spots of its list were visited, and those are found that are near: so many, noted
-- in place of the first.
pub record IsGatheringPass (shared : SharedState) (entry now : PassState) (p : Point) (r taken count : ℕ) : Type 0 where
  pub belongs : BelongsTo now shared
  pub looks : OnlyLooks entry.view now.view
  pub lists : KeepsLists entry now
  pub untaken : now.lists.search.taken ≡ 0
  pub noted : All IsNoted (take count now.lists.search.spots)
  pub behind : count ≤ taken
  pub within : taken ≤ length now.lists.search.spots
  pub gathers : IsGathering (sight_in entry.view) (sight_in now.view) p r (drop taken now.lists.search.spots)
      (found_in_front count now.lists.search.spots) taken

-- The start is loaded, and waits alone.
pub IsGatheringPass-begins : (shared : SharedState) (entry first now : PassState) (p : Point) (r : ℕ) (spot : Spot)
    → PassLooks shared entry first → LoadsPoint (sight_in entry.view) (sight_in first.view) 0 (point_of_spot spot)
    → now ≡ searched first first.view (record { spots = spot ∷ []; taken = 0; found = [] }) → spot.node ≡ 0 → spot.by_rows ≡ false
    → IsGatheringPass shared entry now p r 0 0
IsGatheringPass-begins shared entry first now p r spot passes load is node by_rows =
    subst (λ state. IsGatheringPass shared entry state p r 0 0) (sym is) (record {
      belongs = record { table = passes.belongs.table; run = passes.belongs.run; lawful = passes.belongs.lawful };
      looks = passes.looks;
      lists = KeepsLists-searched entry first (searched first first.view (record { spots = spot ∷ []; taken = 0; found = [] }))
          (record { spots = spot ∷ []; taken = 0; found = [] }) (KeepsLists-looks shared entry first passes) refl;
      untaken = refl;
      noted = All-nil IsNoted;
      behind = omega arith;
      within = omega arith;
      gathers = IsGathering-begins (sight_in entry.view) (sight_in first.view) p r spot load node by_rows;
    })

-- A spot is noted, if it is near, in place of the first that is not of a found node.
pub record NotesSpot (now noted : PassState) (spot : Spot) (p : Point) (r count next : ℕ) : Type 0 where
  pub distance : ℕ
  pub distance_is : distance ≡ squared_distance (point_of_spot spot) p
  pub same : noted ≡ searched now now.view (record now.lists.search { spots = set now.lists.search.spots count (noted_spot spot.node distance) })
  pub next_is : next ≡ count + bool_byte (nat_le distance (r * r))

-- what is left of the pass at the end
pub record HasGathered (shared : SharedState) (entry last : PassState) (p : Point) (r : ℕ) : Type 0 where
  pub belongs : BelongsTo last shared
  pub looks : OnlyLooks entry.view last.view
  pub lists : KeepsLists entry last
  pub gathered : AreGathered (sight_in entry.view) (sight_in last.view) p r last.lists.search.found
  pub few : length last.lists.search.found ≤ length last.view.run.marks + 1

-- The children of a spot are loaded, each unless its side is left out.
pub record LoadsBoth (shared : SharedState) (before after : PassState) (p : Point) (r : ℕ) (spot first last : Spot) : Type 0 where
  pub one : PassState
  pub first_within : Bool
  pub last_within : Bool
  pub first_passes : PassLooks shared before one
  pub last_passes : PassLooks shared one after
  pub first_is : IsFalse first_within → r < side_distance spot.by_rows (point_of_spot spot) p false
  pub last_is : IsFalse last_within → r < side_distance spot.by_rows (point_of_spot spot) p true
  pub first_child : IsChildWithin (sight_in before.view) (sight_in one.view) spot false first_within first
  pub last_child : IsChildWithin (sight_in one.view) (sight_in after.view) spot true last_within last

module _ {shared : SharedState} {entry now : PassState} {p : Point} {r taken count : ℕ} (h : IsGatheringPass shared entry now p r taken count) where
  lawful_now : IsLawfulView now.view
  lawful_now = h.looks.looks.goes_on.lawful

  keeps_now : KeepsSight (sight_in now.view)
  keeps_now = KeepsSight-lawful now.view lawful_now

  abbrev spots : List Spot
  spots = now.lists.search.spots

  -- none waits
  module _ (none : slice_get spots taken ≡ None) {last : PassState}
      (is : last ≡ searched now now.view (record { spots = []; taken = length spots; found = found_in_front count spots })) where
    none_left : drop taken spots ≡ []
    none_left = elim ((slice_get_cases spots taken).1) [
      | inl (spot, below, some, same) ↦ absurd cc
      | inr (past, same) ↦ drop_of_length-le spots past
    ]

    pub IsGatheringPass-ends : HasGathered shared entry last p r
    IsGatheringPass-ends = subst (λ state. HasGathered shared entry state p r) (sym is) (record {
      belongs = record { table = h.belongs.table; run = h.belongs.run; lawful = h.belongs.lawful };
      looks = h.looks;
      lists = record { table = h.lists.table; near = h.lists.near; around = h.lists.around; waiting = h.lists.waiting };
      gathered = IsGathering-ends h.gathers none_left (KeepsSight-lawful entry.view h.looks.looks.goes_on.was_lawful) keeps_now lawful_now.distinct;
      few = (let few = IsGathering-few_found h.gathers (length now.view.run.marks) lawful_now.within in omega (arith, few));
    })

  -- a spot is visited,
  module _ {spot : Spot} (here : slice_get spots taken ≡ Some spot) where
    abbrev rest : List Spot
    rest = drop (suc taken) spots

    first : drop taken spots ≡ spot ∷ rest
    first =
        drop-cons spots taken spot (slice_get_within spots taken spot here) ∙ ap (λ s. s ∷ rest) (get_or_from_slice_get spots taken spot spot here)

    pub note_within : count < length spots
    note_within = omega (arith, h.behind, slice_get_within spots taken spot here)

    room_now : length spots ≤ suc (length now.view.run.marks)
    room_now =
        let room = IsGathering-room_first h.gathers first (length now.view.run.marks) lawful_now.within in
        omega (arith, room, length-drop (suc taken) spots)

    -- (fewer are left to visit)
    pub fewer_left : taken < suc (length entry.view.run.marks)
    fewer_left = omega (arith, room_now, slice_get_within spots taken spot here, ap (λ run. length run.marks) h.looks.looks.goes_on.later.run)

    -- and noted if it is near
    module _ {noted : PassState} {next : ℕ} (v : NotesSpot now noted spot p r count next) where
      abbrev noted_spots : List Spot
      noted_spots = set spots count (noted_spot spot.node v.distance)

      notes : IsNotedTo spots count v.distance (r * r) spot note_within h.noted next
      notes =
          subst (IsNotedTo spots count v.distance (r * r) spot note_within h.noted) (sym v.next_is)
          (noted_to spots count v.distance (r * r) spot note_within h.noted (nat_le v.distance (r * r)) refl)

      notes_near : Notes (found_in_front count spots) (found_in_front next noted_spots) spot (squared_distance (point_of_spot spot) p) (r * r)
      notes_near = subst (λ d. Notes (found_in_front count spots) (found_in_front next noted_spots) spot d (r * r)) v.distance_is notes.2

      pub one_more : next ≤ count + 1
      one_more = notes.1

      within_noted : taken + 1 ≤ length noted_spots
      within_noted = omega (arith, slice_get_within spots taken spot here, length-set spots count (noted_spot spot.node v.distance))

      rest_is : drop (taken + 1) noted_spots ≡ rest
      rest_is =
          let more : taken + 1 ≡ suc taken = omega arith in
          ap (λ n. drop n noted_spots) more ∙ drop-set-lt (suc taken) spots count (noted_spot spot.node v.distance) (omega (arith, h.behind))

      pub noted_seen : SeesNode noted.view spot.node
      noted_seen = subst (λ (s : PassState). SeesNode s.view spot.node) (sym v.same) (IsGathering-seen h.gathers first)

      -- Its children are loaded, and then put: that is as if each was put when it was loaded.
      module _ {two : PassState} {left right : Spot} (loads : LoadsBoth shared noted two p r spot left right) where
        both : LoadsBoth shared (searched now now.view (record now.lists.search { spots = noted_spots })) two p r spot left right
        both = subst (λ s. LoadsBoth shared s two p r spot left right) v.same loads

        two_is : two ≡ searched now two.view (record now.lists.search { spots = noted_spots })
        two_is = both.last_passes.view_alone ∙ ap (λ (s : PassState). with_view s two.view) both.first_passes.view_alone

        pub room_first : two.lists.search.taken + length two.lists.search.spots ≤ length two.view.run.marks + 1
        room_first =
            omega (
              arith,
              room_now,
              ap (λ run. length run.marks) both.first_passes.looks.looks.goes_on.later.run,
              ap (λ run. length run.marks) both.last_passes.looks.looks.goes_on.later.run,
              h.untaken,
              length-set spots count (noted_spot spot.node v.distance),
              ap (λ (s : PassState). s.lists.search.taken + length s.lists.search.spots) two_is,
            )

        -- the left one is put,
        module _ {three : PassState} (left_is : three ≡ with_child left two) where
          three_is : three ≡ searched now two.view (record now.lists.search { spots = put left noted_spots })
          three_is = left_is ∙ ap (with_child left) two_is

          within_left : taken + 1 ≤ length (put left noted_spots)
          within_left = omega (arith, within_noted, (put-keeps (taken + 1) left noted_spots within_noted (not (left.node == 0))).2)

          queue_left : drop (taken + 1) (put left noted_spots) ≡ put left rest
          queue_left = (put-keeps (taken + 1) left noted_spots within_noted (not (left.node == 0))).1 ∙ ap (put left) rest_is

          pub room_last : three.lists.search.taken + length three.lists.search.spots ≤ length three.view.run.marks + 1
          room_last =
              let room =
              IsGathering-room_last h.gathers first (sight_in both.one.view) (put left rest) (found_in_front next noted_spots) true
              both.first_within keeps_now notes_near both.first_is (both.first_child rest (put left rest) refl) (length both.one.view.run.marks)
              both.first_passes.looks.looks.goes_on.lawful.within in
              omega (
                arith,
                room,
                within_left,
                ap (λ run. length run.marks) both.last_passes.looks.looks.goes_on.later.run,
                h.untaken,
                ap (λ (xs : List Spot). length xs) queue_left,
                length-drop (taken + 1) (put left noted_spots),
                ap (λ run. length run.marks) both.first_passes.looks.looks.goes_on.later.run,
                ap (λ (s : PassState). s.lists.search.taken + length s.lists.search.spots) three_is,
                ap (λ (s : PassState). length s.view.run.marks) three_is,
              )

          -- and then the right one
          module _ {after : PassState} (right_is : after ≡ with_child right three) where
            abbrev all : List Spot
            all = put right (put left noted_spots)

            front_is : take next all ≡ take next noted_spots
            front_is =
                (put-keeps next right (put left noted_spots) (omega (arith, within_left, one_more, h.behind)) (not (right.node == 0))).0
                ∙ (put-keeps next left noted_spots (omega (arith, within_noted, one_more, h.behind)) (not (left.node == 0))).0

            queue_is : drop (taken + 1) all ≡ put right (put left rest)
            queue_is = (put-keeps (taken + 1) right (put left noted_spots) within_left (not (right.node == 0))).1 ∙ ap (put right) queue_left

            visits : IsGathering (sight_in entry.view) (sight_in two.view) p r (put right (put left rest)) (found_in_front next noted_spots) (taken + 1)
            visits =
                IsGathering-visits h.gathers first (sight_in both.one.view) (put left rest) (found_in_front next noted_spots) true both.first_within keeps_now
                notes_near both.first_is (both.first_child rest (put left rest) refl) (sight_in two.view) (put right (put left rest)) (taken + 1)
                (omega arith) both.last_within both.last_is (both.last_child (put left rest) _ refl)

            pub IsGatheringPass-visits : IsGatheringPass shared entry after p r (taken + 1) next
            IsGatheringPass-visits =
                subst (λ s. IsGatheringPass shared entry s p r (taken + 1) next) (sym (right_is ∙ ap (with_child right) three_is)) (record {
                  belongs = record { table = h.belongs.table; run = both.last_passes.belongs.run; lawful = both.last_passes.belongs.lawful };
                  looks = OnlyLooks-trans entry.view now.view two.view h.looks
                      (OnlyLooks-trans now.view both.one.view two.view both.first_passes.looks both.last_passes.looks);
                  lists = record { table = h.lists.table; near = h.lists.near; around = h.lists.around; waiting = h.lists.waiting };
                  untaken = h.untaken;
                  noted = subst (All IsNoted) (sym front_is) notes.0;
                  behind = omega (arith, one_more, h.behind);
                  within = omega (
                    arith,
                    within_left,
                    (put-keeps (taken + 1) right (put left noted_spots) within_left (not (right.node == 0))).2,
                  );
                  gathers = subst
                      (λ queue. IsGathering (sight_in entry.view) (sight_in two.view) p r queue (found_in_front next all) (taken + 1)) (sym queue_is)
                      (subst
                      (λ front. IsGathering (sight_in entry.view) (sight_in two.view) p r (put right (put left rest)) (map found_of_spot front) (taken + 1))
                      (sym front_is) visits);
                })
