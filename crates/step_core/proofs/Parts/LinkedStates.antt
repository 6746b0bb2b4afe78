-- The linked nodes as a tree with its costs and records, and how it grows with the words.
use Rattle.step_core.proofs.Words.{◌≡◌, ◌+◌, ◌<◌, ◌≤◌, ◌^◌, ◌∙◌, ℕ, zero, suc, Bool, true, false, List, length, Option, Some, None, refl, sym, ap, inl, inr}
use Rattle.step_core.proofs.Words.{arith, cond, is_some, nat_lt, length-map-range_with_len, same_Some, Point, Record, IsPresent, StandsAt, node_count}
use Rattle.step_core.proofs.Words.{MOST_NODES, node_count-length, GrowsInto, first_cost_of, recorded_or, once_if, child_of_word, has_node, has_placed}
use Rattle.step_core.proofs.Words.{is_linked, record_at, AreBehind, Words, ChildOf, FirstOf, PointOf, RecordOf, TreeOf, Sizes, cost_in, outcome_in, parent_in}
use Rattle.step_core.proofs.Words.{point_of_word, record_in, record_of_word, tree_word, in_child, is_linked-child, linked_point, linked_points, has_link}
use Rattle.step_core.proofs.Words.{IsSharedRun, run_sizes, LinkedTree, ClaimedMarks, Trees, is_recorded, state_in, SharedRun, View, ◌∷◌, range_with_len, sum_by}
use Rattle.step_core.proofs.Words.{cases_Bool, point_at, IsPresent-stands, count-next, sum-le, Count, has_count, counted_once, Stage, Linked, ◌≢◌, subst}
use Rattle.step_core.proofs.Words.{IsSome, if◌then◌else◌, get_or-map-range_with_len, point_of, HasSeenAtLeast, FollowWays, IsOnWay, StandsAt-present}
use Rattle.step_core.proofs.Words.{IsOnWay-fills, IsLinked, children_of_words, start, below, is_linked-linked, IsLater, IsOnWayOf, LeadsTo, SeesNode, SeesTree}
use Rattle.step_core.proofs.Words.{sees, tree_seen, MayBecome, Once}
use Rattle.step_core.proofs.Parts.HandsAt.{hands_at-most, holders-most, hands_at-less}
use Rattle.step_core.proofs.Parts.MarksInHand.{once_if-true}
use Rattle.step_core.proofs.Seen.SeenWords.{linked-within, point_at-linked, same_once}
use Rattle.step_core.proofs.Parts.WorldLinks.{parent_within}
use Rattle.grown_runs.proofs.Common.{begins, goes_on}
use Rattle.step_core.proofs.OneView.LawfulSights.{IsPresent-seen, SeesNode-within, is_linked-seen}
use Rattle.step_core.proofs.OneView.SeenViews.{HasSeenAtLeast-later}

-- ---- nodes

module _ (sizes : Sizes) (words : Words) where
  -- a present node is linked
  pub linked-present : (n : ℕ) → IsPresent (linked_points sizes words) n → is_linked sizes words n ≡ true
  linked-present n h = by_test (is_linked sizes words n) refl (sym (ap is_some (point_at-linked sizes words n (linked-within sizes words n h))) ∙ h)
    where
      by_test : (b : Bool) → is_linked sizes words n ≡ b → is_some (cond b (point_of_word (words (PointOf n))) None) ≡ true → is_linked sizes words n ≡ true
      by_test true e some_point = e
      by_test false e some_point = cc

  -- and stands where its word says
  pub stands-linked : (n : ℕ) (p : Point) → n ≤ sizes.marks → is_linked sizes words n ≡ true → point_of_word (words (PointOf n)) ≡ Some p
      → StandsAt (linked_points sizes words) n p
  stands-linked n p within linked is = point_at-linked sizes words n within ∙ ap (λ b. cond b (point_of_word (words (PointOf n))) None) linked ∙ is

  pub word-stands : (n : ℕ) (p : Point) → StandsAt (linked_points sizes words) n p → point_of_word (words (PointOf n)) ≡ Some p
  word-stands n p h =
      let here = ap is_some h in
      ap (λ b. cond b (point_of_word (words (PointOf n))) None) (sym (linked-present n here))
      ∙ sym (point_at-linked sizes words n (linked-within sizes words n here)) ∙ h

-- a number that is not linked has no child
pub unlinked-childless :
    (run : SharedRun) (words : Words) (views : List View) → LinkedTree run words views → (n : ℕ) → is_linked (run_sizes run) words n ≡ false → (side : Bool)
    → words (ChildOf n side) ≡ 0
unlinked-childless run words views links n unlinked side =
    no_child (words (ChildOf n side)) (links.ways.empty n side (λ here. let gone = sym unlinked ∙ linked-present (run_sizes run) words n here in cc))
  where
    no_child : (word : ℕ) → child_of_word word ≡ None → word ≡ 0
    no_child zero h = refl
    no_child (suc m) h = cc

-- there are no more of them than there may be
pub few_nodes : (run : SharedRun) (words : Words) → IsSharedRun run → node_count (linked_points (run_sizes run) words) ≤ MOST_NODES
few_nodes run words run_is =
    omega (
      arith,
      node_count-length (linked_points (run_sizes run) words),
      length-map-range_with_len (linked_point (run_sizes run) words) 0 (length run.marks + 1),
      run_is.marks,
    )

-- ---- records

-- of a placed mark the record reads its first cost from the first word
pub placed-first :
    (word first : ℕ) (entry : Record) → record_of_word word first ≡ Some entry → has_placed (Some entry) ≡ true → entry.first_cost ≡ cost_in first
placed-first word first entry e placed = by_test (nat_lt word (2 ^ 63)) (outcome_in word) e
  where
    by_test : (b : Bool) (number : ℕ) → cond b None (Some (record_in number word first)) ≡ Some entry → entry.first_cost ≡ cost_in first
    by_test true number is = cc
    by_test false zero is = ap (λ r. r.first_cost) (sym (same_Some (record_in zero word first) entry is))
    by_test false (suc (suc zero)) is = (let no = ap has_placed is ∙ placed in cc)
    by_test false number is = (let no = ap has_placed is ∙ placed in cc)

-- of any other mark it does not look at it
pub record-unplaced : (word first other : ℕ) → has_placed (record_of_word word first) ≡ false → record_of_word word other ≡ record_of_word word first
record-unplaced word first other not_placed = by_test (nat_lt word (2 ^ 63)) (outcome_in word) not_placed
  where
    by_test : (b : Bool) (number : ℕ) → has_placed (cond b None (Some (record_in number word first))) ≡ false
        → cond b None (Some (record_in number word other)) ≡ cond b None (Some (record_in number word first))
    by_test true number h = refl
    by_test false zero h = cc
    by_test false (suc (suc zero)) h = refl
    by_test false number h = refl

-- a word that holds a record is not 0
pub record-written : (word first : ℕ) (entry : Record) → record_of_word word first ≡ Some entry → 0 < word
record-written zero first entry e = cc
record-written (suc n) first entry e = omega arith

-- it stays, if its word does, and of a placed mark the first word too
pub record-stays :
    (before after : Words) (k : ℕ) (entry : Record) → MayBecome Once (before (RecordOf k)) (after (RecordOf k))
    → (has_node before (suc k) ≡ true → after (FirstOf (suc k)) ≡ before (FirstOf (suc k))) → record_at before k ≡ Some entry → record_at after k ≡ Some entry
record-stays before after k entry go first e =
    let written = record-written (before (RecordOf k)) (before (FirstOf (suc k))) entry e in
    ap (λ w. record_of_word w (after (FirstOf (suc k)))) (sym (same_once go written)) ∙ by_test (has_node before (suc k)) refl ∙ e
  where
    by_test : (b : Bool) → has_node before (suc k) ≡ b
        → record_of_word (before (RecordOf k)) (after (FirstOf (suc k))) ≡ record_of_word (before (RecordOf k)) (before (FirstOf (suc k)))
    by_test true placed = ap (record_of_word (before (RecordOf k))) (first placed)
    by_test false not_placed = record-unplaced (before (RecordOf k)) (before (FirstOf (suc k))) (after (FirstOf (suc k))) not_placed

module _ (run : SharedRun) (words : Words) (views : List View) (numbers : ClaimedMarks run words views) (links : LinkedTree run words views) where
  -- the node of a mark that is recorded as placed is linked
  pub placed-linked : (k : ℕ) → has_node words (suc k) ≡ true → is_linked (run_sizes run) words (suc k) ≡ true
  placed-linked k placed = once_if-true (is_linked (run_sizes run) words (suc k)) (omega (arith, links.linked k, ap once_if placed))

  -- a linked node of a mark that is recorded was placed
  placed-recorded : (k : ℕ) → is_linked (run_sizes run) words (suc k) ≡ true → is_recorded words k ≡ true → has_node words (suc k) ≡ true
  placed-recorded k linked recorded =
      once_if-true (has_node words (suc k)) (omega (
        arith,
        links.linked k,
        ap once_if linked,
        hands_at-most has_link k views,
        holders-most run words views numbers k,
        ap once_if recorded,
      ))

  -- What a linked node was placed at is in its first word.
  pub first_cost-linked :
      words (FirstOf 0) ≡ tree_word 0 0 → (n : ℕ) → is_linked (run_sizes run) words n ≡ true
      → first_cost_of (state_in run words) n ≡ cost_in (words (FirstOf n))
  first_cost-linked start_first zero linked = sym (ap cost_in start_first)
  first_cost-linked start_first (suc k) linked = by_record (record_at words k) refl
    where
      by_record : (o : Option Record) → record_at words k ≡ o → recorded_or (cost_in (words (FirstOf (suc k)))) o ≡ cost_in (words (FirstOf (suc k)))
      by_record None e = refl
      by_record (Some entry) e =
          placed-first (words (RecordOf k)) (words (FirstOf (suc k))) entry e (ap has_placed (sym e) ∙ placed-recorded k linked (ap is_some e))

-- ---- the words go on

module _ (run : SharedRun) (before after : Words) (views later : List View) (numbers : ClaimedMarks run before views) (links : LinkedTree run before views)
    (numbers_then : ClaimedMarks run after later) (links_then : LinkedTree run after later) (trees : Trees run before) (go : AreBehind before after) where
  abbrev sizes : Sizes
  sizes = run_sizes run

  -- a word that is written once stays
  same_child : (n m : ℕ) (side : Bool) → before (ChildOf n side) ≡ suc m → after (ChildOf n side) ≡ before (ChildOf n side)
  same_child n m side child = sym (same_once (go (ChildOf n side)) (omega (arith, child)))

  -- linked nodes stay linked
  pub is_linked-later : (n : ℕ) → is_linked sizes before n ≡ true → is_linked sizes after n ≡ true
  is_linked-later zero linked = refl
  is_linked-later (suc k) linked =
      let place = in_child sizes before k linked in
      is_linked-child sizes after place.node (suc k) place.side (parent_within sizes before links.ways place.node k place.side place.holds)
      (ap child_of_word (same_child place.node k place.side place.holds ∙ place.holds))

  still_linked : (n : ℕ) → IsPresent (linked_points sizes before) n → is_linked sizes before n ≡ true
  still_linked = linked-present sizes before

  same_first : (n : ℕ) → is_linked sizes before n ≡ true → after (FirstOf n) ≡ before (FirstOf n)
  same_first n linked = sym (same_once (go (FirstOf n)) (omega (arith, (trees.written n linked).first)))

  same_point : (n : ℕ) → is_linked sizes before n ≡ true → after (PointOf n) ≡ before (PointOf n)
  same_point n linked = sym (same_once (go (PointOf n)) (omega (arith, (trees.written n linked).point)))

  start_first : after (FirstOf 0) ≡ tree_word 0 0
  start_first = same_first 0 refl ∙ trees.start_first

  -- The tree of the linked nodes grows.
  pub GrowsInto-behind : GrowsInto (state_in run before) (state_in run after)
  GrowsInto-behind = record {
    nodes = λ n p h.
        let here = ap is_some h in
        let linked = still_linked n here in
        stands-linked sizes after n p (linked-within sizes before n here) (is_linked-later n linked)
        (ap point_of_word (same_point n linked) ∙ word-stands sizes before n p h);
    first_costs = λ n h.
        let linked = still_linked n h in
        first_cost-linked run after later numbers_then links_then start_first n (is_linked-later n linked)
        ∙ ap cost_in (same_first n linked) ∙ sym (first_cost-linked run before views numbers links trees.start_first n linked);
    trees = λ n h.
        elim (go (TreeOf n)) [
          | inl none ↦ absurd (omega (arith, none, (trees.written n (still_linked n h)).tree))
          | inr falls ↦ elim falls [
            | inl same ↦ inl (ap cost_in (sym same), ap parent_in (sym same))
            | inr fell ↦ inr fell.1
          ]
        ];
    records = λ k entry. record-stays before after k entry (go (RecordOf k))
        (λ placed. same_first (suc k) (placed-linked run before views numbers links k placed));
  }

-- ---- how many there are, by the count that is kept of them

-- a hand that has counted its node has linked it
counted-linked : (stage : Stage) → once_if (has_count stage) ≤ once_if (has_link stage)
counted-linked Linked = omega arith
counted-linked stage = omega arith

module _ (run : SharedRun) (words : Words) (views : List View) (links : LinkedTree run words views) (trees : Trees run words) where
  -- a linked node is present
  pub present-linked : (n : ℕ) → is_linked (run_sizes run) words n ≡ true → IsPresent (linked_points (run_sizes run) words) n
  present-linked zero linked = IsPresent-stands (linked_points (run_sizes run) words) 0 run.start trees.order.start_stands
  present-linked (suc k) linked =
      let place = in_child (run_sizes run) words k linked in
      links.ways.present place.node (suc k) place.side (ap child_of_word place.holds)

  is_linked-present : (n : ℕ) → is_linked (run_sizes run) words n ≡ is_some (point_at (linked_points (run_sizes run) words) n)
  is_linked-present n =
      elim (cases_Bool (is_some (point_at (linked_points (run_sizes run) words) n))) [
        | inl here ↦ linked-present (run_sizes run) words n here ∙ sym here
        | inr none ↦ elim (cases_Bool (is_linked (run_sizes run) words n)) [
          | inl linked ↦ (let gone = sym none ∙ present-linked n linked in cc)
          | inr apart ↦ apart ∙ sym none
        ]
      ]

  -- they are node 0 and those of marks
  pub node_count-linked :
      node_count (linked_points (run_sizes run) words) ≡ 1 + sum_by (λ k. once_if (is_linked (run_sizes run) words (suc k)))
      (range_with_len 0 (length run.marks))
  node_count-linked =
      let next =
      count-next (linked_points (run_sizes run) words) (λ k. is_linked (run_sizes run) words (suc k)) (length run.marks) (present-linked 0 refl)
      (omega (arith, length-map-range_with_len (linked_point (run_sizes run) words) 0 (length run.marks + 1))) (λ k. is_linked-present (suc k)) in
      omega (arith, next)

  -- No more are counted than there are.
  pub count-most : words Count ≤ node_count (linked_points (run_sizes run) words)
  count-most =
      omega (
        arith,
        links.count,
        node_count-linked,
        sum-le (counted_once words views) (λ k. once_if (is_linked (run_sizes run) words (suc k))) (length run.marks)
            (λ k low. omega (arith, links.linked k, hands_at-less has_count has_link counted-linked k views)),
      )

-- ---- links lead from node 0, through the words

module _ (sizes : Sizes) (words : Words) (ways : FollowWays (children_of_words words) (linked_points sizes words)) where
  -- a child of a linked node is linked
  linked_below : (n m : ℕ) (side : Bool) (word : ℕ) → words (ChildOf n side) ≡ word → child_of_word word ≡ Some m → IsLinked words n → IsLinked words m
  linked_below n m side zero e h above = cc
  linked_below n m side (suc k) e h above =
      let own : suc k ≡ m = cc in
      subst (IsLinked words) own (below n k side above e)

  -- so each node on a way is
  reached : (q : Point) (depth n : ℕ) → IsOnWay (children_of_words words) (linked_points sizes words) q depth n → IsLinked words n
  reached q depth n begins = start
  reached q depth m (goes_on above n k p way stands apart link) = linked_below n m _ (words (ChildOf n _)) refl link (reached q above n way)

  -- A linked node is reached by links from node 0,
  pub IsLinked-linked : (n : ℕ) → is_linked sizes words n ≡ true → IsLinked words n
  IsLinked-linked zero h = start
  IsLinked-linked (suc k) h =
      let own = in_child sizes words k h in
      let here = ways.present own.node (suc k) own.side (ap child_of_word own.holds) in
      let way = ways.on_way (suc k) (point_of (linked_points sizes words) (suc k)) (StandsAt-present (linked_points sizes words) (suc k) here) in
      reached (point_of (linked_points sizes words) (suc k)) way.0 (suc k) way.1

  -- and no other node is.
  pub is_linked-reached : (n : ℕ) → IsLinked words n → is_linked sizes words n ≡ true
  is_linked-reached = is_linked-linked sizes words within
    where
      within : (m : ℕ) (side : Bool) → words (ChildOf m side) ≢ 0 → m ≤ sizes.marks
      within m side some_child = by_word (words (ChildOf m side)) refl
        where
          by_word : (word : ℕ) → words (ChildOf m side) ≡ word → m ≤ sizes.marks
          by_word zero e = absurd (some_child e)
          by_word (suc k) e = parent_within sizes words ways m k side e

-- ---- of a view

-- Where the way of p led, a child was found: the way goes on to it, a step deeper.
pub IsOnWayOf-found :
    (before after : View) → IsLater before after → (p : Point) (n c : ℕ) (side : Bool) (leads : LeadsTo before p n side)
    → (tree_seen after).child n side ≡ Some c → IsOnWayOf after p (suc leads.depth) c
IsOnWayOf-found before after later p n c side leads found =
    let more : HasSeenAtLeast (tree_seen before) (tree_seen after) = HasSeenAtLeast-later before after later.run later.seen in
    goes_on leads.depth n c leads.at
    (IsOnWay-fills (tree_seen before).child (tree_seen after).child (tree_seen before).points (tree_seen after).points more.places p leads.depth n leads.on_way)
    (more.places.nodes n leads.at leads.stands) leads.apart (ap ((tree_seen after).child n) leads.side_is ∙ found)

-- The point of a node that a view has seen is written.
pub IsSome-seen_point :
    (view : View) (words : Words) → AreBehind (sees view) words → SeesTree view
    → FollowWays (children_of_words words) (linked_points (run_sizes view.run) words) → (n : ℕ) → SeesNode view n → IsSome (point_of_word (words (PointOf n)))
IsSome-seen_point view words behind tree ways n seen =
    let sizes = run_sizes view.run in
    let within = SeesNode-within view words behind tree ways n seen in
    ap is_some (sym (ap (λ b. if b then point_of_word (words (PointOf n)) else None) (is_linked-seen view words behind tree ways n seen))
    ∙ sym (get_or-map-range_with_len (linked_point sizes words) 0 (sizes.marks + 1) n n None (omega (arith, within)) (omega arith)))
    ∙ IsPresent-seen view words behind tree ways n seen
