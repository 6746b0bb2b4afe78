-- The part of the law of worlds on links and on the count of nodes, after each kind of step.
use Rattle.step_core.proofs.Words.{◌≡◌, ◌≢◌, ◌+◌, ◌<◌, ◌≤◌, ◌∙◌, ◌⊎◌, ◌==◌, ◌||◌, ℕ, zero, suc, Bool, true, false, List, length, map, Option, Some, None, refl}
use Rattle.step_core.proofs.Words.{sym, ap, subst, inl, inr, arith, is_some, if◌then◌else◌, list_any, range_with_len, cases_Bool, cases_eq, cases_lt}
use Rattle.step_core.proofs.Words.{get_or_past, length-map-range_with_len, some, get_elem?, is_placed, IsPresent, StandsAt, point_at, once_if, EndsBelow}
use Rattle.step_core.proofs.Words.{FollowWays, goes_right, Point, Record, AddsPoint-stands, FollowWays-links, child_of_word, children_of_words, has_node}
use Rattle.step_core.proofs.Words.{has_placed, is_linked, record_at, Words, WritesWord, ChildOf, Count, FirstOf, PointOf, RecordOf, Sizes, point_of_word}
use Rattle.step_core.proofs.Words.{record_of_word, in_child, is_linked-child, is_linked-start, sum-most, sum-up, linked_point, linked_points, has_count}
use Rattle.step_core.proofs.Words.{has_link, holds_at, holds, run_sizes, LinkedTree, ClaimedMarks, counted_once, hands_at, is_recorded, Hand, SharedRun, Stage}
use Rattle.step_core.proofs.Words.{View, sum-same, IsWorld}
use Rattle.step_core.proofs.Parts.HandsAt.{hands_at-held, hands_at-most, holders-most, holds_at-other, holds_at-own, unrecorded-held}
use Rattle.step_core.proofs.Seen.Looks.{same_name}
use Rattle.step_core.proofs.Parts.MarksInHand.{once_if-false, once_if-most, in_hand}
use Rattle.step_core.proofs.Seen.SeenWords.{has_node-same, linked-within, point_at-linked}
use Rattle.step_core.proofs.Parts.WorldParts.{KeepsRecords}
use Rattle.step_core.proofs.Parts.Shifts.{IsShift, Shift, sum-later, later_views}

-- ---- records

-- what was placed is recorded
pub has_node-recorded : (words : Words) (k : ℕ) → once_if (has_node words (suc k)) ≤ once_if (is_recorded words k)
has_node-recorded words k = by_record (record_at words k)
  where
    by_record : (o : Option Record) → once_if (has_placed o) ≤ once_if (is_some o)
    by_record None = omega arith
    by_record (Some entry) = once_if-most (is_placed entry.outcome)

-- no more nodes are counted than there may be
pub count-most : (run : SharedRun) (words : Words) (views : List View) → ClaimedMarks run words views → LinkedTree run words views
    → words Count ≤ length run.marks + 1
count-most run words views numbers links =
    let top = sum-most (counted_once words views) (length run.marks) (λ k low. omega (
      arith,
      has_node-recorded words k,
      hands_at-most has_count k views,
      holders-most run words views numbers k,
    )) in
    omega (arith, links.count, top)

-- ---- children and points that stay

-- all children stay, and the points of linked nodes
pub record KeepsLinks (sizes : Sizes) (before after : Words) : Type 0 where
  pub children : (n : ℕ) (side : Bool) → after (ChildOf n side) ≡ before (ChildOf n side)
  pub points : (n : ℕ) → is_linked sizes before n ≡ true → after (PointOf n) ≡ before (PointOf n)

module _ (sizes : Sizes) (before after : Words) (keeps : KeepsLinks sizes before after) where
  pub is_linked-kept : (n : ℕ) → is_linked sizes after n ≡ is_linked sizes before n
  is_linked-kept n = λ t. (n == 0) || list_any (λ m. (keeps.children m false t == n) || (keeps.children m true t == n)) (range_with_len 0 (sizes.marks + 1))

  linked_point-kept : (n : ℕ) → linked_point sizes after n ≡ linked_point sizes before n
  linked_point-kept n = by_test (is_linked sizes before n) refl
    where
      by_test : (b : Bool) → is_linked sizes before n ≡ b → linked_point sizes after n ≡ linked_point sizes before n
      by_test true e = λ t. if is_linked-kept n t then point_of_word (keeps.points n e t) else None
      by_test false e =
          ap (λ b. if b then point_of_word (after (PointOf n)) else None) (is_linked-kept n ∙ e)
          ∙ sym (ap (λ b. if b then point_of_word (before (PointOf n)) else None) e)

  pub linked_points-kept : linked_points sizes after ≡ linked_points sizes before
  linked_points-kept = λ t. map (λ n. linked_point-kept n t) (range_with_len 0 (sizes.marks + 1))

  pub FollowWays-kept : FollowWays (children_of_words before) (linked_points sizes before) → FollowWays (children_of_words after) (linked_points sizes after)
  FollowWays-kept ways =
      subst (FollowWays (children_of_words after)) (sym linked_points-kept)
      (subst (λ child. FollowWays child (linked_points sizes before)) (sym (λ t n side. child_of_word (keeps.children n side t))) ways)

-- Of any step but a link and a count it is asked that links stay, and that at each mark what is recorded as placed, or in a hand that has come
-- so far, does.
pub LinkedTree-step :
    (run : SharedRun) (before after : Words) (views later : List View) → LinkedTree run before views → KeepsLinks (run_sizes run) before after
    → after Count ≡ before Count
    → ((k : ℕ) → once_if (has_node after (suc k)) + hands_at has_link k later ≡ once_if (has_node before (suc k)) + hands_at has_link k views)
    → ((k : ℕ) → counted_once after later k ≡ counted_once before views k) → LinkedTree run after later
LinkedTree-step run before after views later links keeps count linked counted = record {
  start = keeps.points 0 (is_linked-start (run_sizes run) before) ∙ links.start;
  ways = FollowWays-kept (run_sizes run) before after keeps links.ways;
  linked = λ k. omega (arith, ap once_if (is_linked-kept (run_sizes run) before after keeps (suc k)), links.linked k, linked k);
  count = omega (
    arith,
    count,
    links.count,
    sum-same (counted_once after later) (counted_once before views) (length run.marks) (λ k low. counted k),
  );
}

-- views in whose hands as much is linked and counted
pub LinkedTree-views :
    (run : SharedRun) (words : Words) (views later : List View) → LinkedTree run words views → ((k : ℕ) → hands_at has_link k later ≡ hands_at has_link k views)
    → ((k : ℕ) → hands_at has_count k later ≡ hands_at has_count k views) → LinkedTree run words later
LinkedTree-views run words views later links linked counted =
    LinkedTree-step run words words views later links (record { children = λ n side. refl; points = λ n h. refl }) refl (λ k. omega (arith, linked k))
    (λ k. omega (arith, counted k))

-- a step of one view that leaves links, records and the count, and as much of its hand as says that it is linked and counted
pub LinkedTree-kept :
    {s : Shift} → IsShift s → KeepsLinks (run_sizes s.now.run) s.now.words s.after → KeepsRecords s.now.words s.after → s.after Count ≡ s.now.words Count
    → ((k : ℕ) → holds_at has_link k s.then.hand ≡ holds_at has_link k s.now.view.hand)
    → ((k : ℕ) → holds_at has_count k s.then.hand ≡ holds_at has_count k s.now.view.hand) → LinkedTree s.now.run s.after (later_views s)
LinkedTree-kept {s} is keeps kept count same_links same_counts =
    LinkedTree-step s.now.run s.now.words s.after s.now.views (later_views s) is.moment.world.links keeps count
    (λ k. omega (arith, nodes k, hands has_link same_links k)) (λ k. omega (arith, nodes k, hands has_count same_counts k))
  where
    nodes : (k : ℕ) → once_if (has_node s.after (suc k)) ≡ once_if (has_node s.now.words (suc k))
    nodes k = ap once_if (has_node-same s.now.words s.after k (kept k))

    hands : (test : Stage → Bool) → ((k : ℕ) → holds_at test k s.then.hand ≡ holds_at test k s.now.view.hand) → (k : ℕ)
        → hands_at test k (later_views s) ≡ hands_at test k s.now.views
    hands test same k = omega (arith, sum-later is (λ u. once_if (holds_at test k u.hand)), ap once_if (same k))

-- ---- a link

module _ (sizes : Sizes) (before : Words) (ways : FollowWays (children_of_words before) (linked_points sizes before)) where
  -- a node that has a child is one of the run's
  pub parent_within : (a m : ℕ) (side : Bool) → before (ChildOf a side) ≡ suc m → a ≤ sizes.marks
  parent_within a m side e =
      elim (cases_Bool (is_some (point_at (linked_points sizes before) a))) [
        | inl here ↦ linked-within sizes before a here
        | inr gone ↦ (let none = sym (ap child_of_word e) ∙ ways.empty a side (λ here. let no = sym gone ∙ here in cc) in cc)
      ]

-- A node is put into an empty child word at the end of the way of its point.
pub record LinksNode (sizes : Sizes) (before after : Words) (p : Point) (k : ℕ) : Type 0 where
  pub above : Point
  pub n : ℕ
  pub depth : ℕ
  pub ways : FollowWays (children_of_words before) (linked_points sizes before)
  pub ends : EndsBelow (children_of_words before) (linked_points sizes before) p depth n above
  pub low : k < sizes.marks
  pub unlinked : is_linked sizes before (suc k) ≡ false
  pub written : point_of_word (before (PointOf (suc k))) ≡ Some p
  pub empty : before (ChildOf n (goes_right depth above p)) ≡ 0
  pub writes : WritesWord (ChildOf n (goes_right depth above p)) (suc k) before after

module _ {sizes : Sizes} {before after : Words} {p : Point} {k : ℕ} (puts : LinksNode sizes before after p k) where
  n_within : puts.n ≤ sizes.marks
  n_within = linked-within sizes before puts.n (ap is_some puts.ends.stands)

  same_place : (a : ℕ) (side : Bool) → ((a ≡ puts.n) × (side ≡ goes_right puts.depth puts.above p)) ⊎ (after (ChildOf a side) ≡ before (ChildOf a side))
  same_place a side =
      elim (same_name (ChildOf a side) (ChildOf puts.n (goes_right puts.depth puts.above p))) [
        | inl e ↦ inl (cc, cc)
        | inr apart ↦ inr (puts.writes.others (ChildOf a side) apart)
      ]

  -- the node is linked then,
  pub is_linked-new : is_linked sizes after (suc k) ≡ true
  is_linked-new = is_linked-child sizes after puts.n (suc k) (goes_right puts.depth puts.above p) n_within (ap child_of_word puts.writes.here)

  still_linked : (m : ℕ) → is_linked sizes before (suc m) ≡ true → is_linked sizes after (suc m) ≡ true
  still_linked m h =
      let own = in_child sizes before m h in
      elim (same_place own.node own.side) [
        | inl here ↦ (
            let was = ap (λ a. before (ChildOf a own.side)) (sym here.0) ∙ own.holds in
            let none = ap (λ side. before (ChildOf puts.n side)) here.1 ∙ puts.empty in
            absurd (omega (arith, was, none)))
        | inr same ↦
            is_linked-child sizes after own.node (suc m) own.side (parent_within sizes before puts.ways own.node m own.side own.holds)
            (ap child_of_word (same ∙ own.holds))
      ]

  was_linked : (m : ℕ) → m ≢ k → is_linked sizes after (suc m) ≡ true → is_linked sizes before (suc m) ≡ true
  was_linked m apart h =
      let own = in_child sizes after m h in
      elim (same_place own.node own.side) [
        | inl here ↦ (
            let now = ap (λ a. after (ChildOf a own.side)) (sym here.0) ∙ own.holds in
            let put = ap (λ side. after (ChildOf puts.n side)) here.1 ∙ puts.writes.here in
            absurd (apart (omega (arith, now, put))))
        | inr same ↦ (
            let was = sym same ∙ own.holds in
            is_linked-child sizes before own.node (suc m) own.side (parent_within sizes before puts.ways own.node m own.side was) (ap child_of_word was))
      ]

  -- and all others are as before.
  pub is_linked-others : (m : ℕ) → m ≢ suc k → is_linked sizes after m ≡ is_linked sizes before m
  is_linked-others zero apart = is_linked-start sizes after ∙ sym (is_linked-start sizes before)
  is_linked-others (suc m) apart =
      elim (cases_Bool (is_linked sizes before (suc m))) [
        | inl linked ↦ still_linked m linked ∙ sym linked
        | inr not_yet ↦ elim (cases_Bool (is_linked sizes after (suc m))) [
          | inl now ↦ (let was = was_linked m (λ e. apart (ap suc e)) now in let no = sym not_yet ∙ was in cc)
          | inr not_now ↦ not_now ∙ sym not_yet
        ]
      ]

  same_point : (m : ℕ) → m ≢ suc k → linked_point sizes after m ≡ linked_point sizes before m
  same_point m apart = λ t. if is_linked-others m apart t then point_of_word (puts.writes.others (PointOf m) (λ e. cc) t) else None

  new_point : linked_point sizes after (suc k) ≡ Some p
  new_point =
      ap (λ b. if b then point_of_word (after (PointOf (suc k))) else None) is_linked-new
      ∙ ap point_of_word (puts.writes.others (PointOf (suc k)) (λ e. cc)) ∙ puts.written

  past : (words : Words) (m : ℕ) → sizes.marks < m → point_at (linked_points sizes words) m ≡ None
  past words m beyond =
      get_or_past (linked_points sizes words) m None (omega (arith, beyond, length-map-range_with_len (linked_point sizes words) 0 (sizes.marks + 1)))

  pub point_at-others : (m : ℕ) → m ≢ suc k → point_at (linked_points sizes after) m ≡ point_at (linked_points sizes before) m
  point_at-others m apart =
      elim (cases_lt sizes.marks m) [
        | inl beyond ↦ past after m beyond ∙ sym (past before m beyond)
        | inr within ↦ point_at-linked sizes after m within ∙ same_point m apart ∙ sym (point_at-linked sizes before m within)
      ]

  pub absent-new : ¬ IsPresent (linked_points sizes before) (suc k)
  absent-new h =
      let no_point = ap (λ b. if b then point_of_word (before (PointOf (suc k))) else None) puts.unlinked in
      let none = sym h ∙ ap is_some (point_at-linked sizes before (suc k) puts.low ∙ no_point) in
      cc

  pub stands-new : StandsAt (linked_points sizes after) (suc k) p
  stands-new = point_at-linked sizes after (suc k) puts.low ∙ new_point

  -- Each linked node is where its way leads, the new one too.
  pub FollowWays-linked : FollowWays (children_of_words after) (linked_points sizes after)
  FollowWays-linked =
      FollowWays-links (children_of_words before) (children_of_words after) (linked_points sizes before) (linked_points sizes after) p puts.depth puts.n
      (suc k) puts.above puts.ways puts.ends
      (AddsPoint-stands (linked_points sizes before) (linked_points sizes after) (suc k) p absent-new stands-new point_at-others) record {
        was_empty = ap child_of_word puts.empty;
        linked = ap child_of_word puts.writes.here;
        elsewhere = λ a side apart. ap child_of_word (puts.writes.others (ChildOf a side) (λ e. apart (cc, cc)));
      }

-- ---- the mark in hand

-- a node in hand that is not linked is no linked one
pub unlinked-held :
    {run : SharedRun} {words : Words} {views : List View} → IsWorld run words views → (id : ℕ) (view : View) → get_elem? views id ≡ some view → (hand : Hand)
    → view.hand ≡ Some hand → has_link hand.stage ≡ false → is_linked (run_sizes run) words (suc hand.mark) ≡ false
unlinked-held {run} {words} {views} world id view at hand held not_yet =
    once_if-false (is_linked (run_sizes run) words (suc hand.mark)) (omega (
      arith,
      world.links.linked hand.mark,
      hands_at-held run words views world.numbers has_link id view hand at held,
      ap once_if not_yet,
      has_node-recorded words hand.mark,
      ap (λ o. once_if (is_some o)) (in_hand run words views id view world at hand held).absent,
    ))

module _ {s : Shift} (is : IsShift s) {hand : Hand} (held : s.now.view.hand ≡ Some hand) where
  -- hands that have come so far, at each mark, after the hand of this view has changed
  hands_other :
      (test : Stage → Bool) → ((k : ℕ) → k ≢ hand.mark → holds_at test k s.then.hand ≡ false) → (k : ℕ) → k ≢ hand.mark
      → hands_at test k (later_views s) ≡ hands_at test k s.now.views
  hands_other test none k apart =
      omega (
        arith,
        sum-later is (λ u. once_if (holds_at test k u.hand)),
        ap once_if (holds_at-other test k s.now.view.hand hand held apart),
        ap once_if (none k apart),
      )

  was_held : (test : Stage → Bool) → hands_at test hand.mark s.now.views ≡ once_if (test hand.stage)
  was_held test = hands_at-held s.now.run s.now.words s.now.views is.moment.world.numbers test s.now.id s.now.view hand is.moment.at held

  hands_own : (test : Stage → Bool) → hands_at test hand.mark (later_views s) ≡ once_if (holds_at test hand.mark s.then.hand)
  hands_own test =
      omega (arith, sum-later is (λ u. once_if (holds_at test hand.mark u.hand)), was_held test, ap once_if (holds_at-own test s.now.view.hand hand held))

  -- ---- the steps of its own node

  -- A record leaves what is linked: what was in hand as linked is recorded as placed.
  pub LinkedTree-recorded :
      (x : ℕ) → (placed : Bool) → ((first : ℕ) → has_placed (record_of_word x first) ≡ placed) → placed ≡ has_link hand.stage → placed ≡ has_count hand.stage
      → WritesWord (RecordOf hand.mark) x s.now.words s.after → s.then.hand ≡ None → LinkedTree s.now.run s.after (later_views s)
  LinkedTree-recorded x placed reads linked counted writes idle =
      LinkedTree-step s.now.run s.now.words s.after s.now.views (later_views s) is.moment.world.links keeps (writes.others Count (λ e. cc))
      (each has_link linked) (each has_count counted)
    where
      keeps : KeepsLinks (run_sizes s.now.run) s.now.words s.after
      keeps = record { children = λ n side. writes.others (ChildOf n side) (λ e. cc); points = λ n h. writes.others (PointOf n) (λ e. cc) }

      none_held : (test : Stage → Bool) (k : ℕ) → holds_at test k s.then.hand ≡ false
      none_held test k = ap (holds_at test k) idle

      was_none : once_if (has_node s.now.words (suc hand.mark)) ≡ 0
      was_none = omega (arith, has_node-recorded s.now.words hand.mark, ap once_if (unrecorded-held is.moment held))

      is_now : has_node s.after (suc hand.mark) ≡ placed
      is_now = ap (λ word. has_placed (record_of_word word (s.after (FirstOf (suc hand.mark))))) writes.here ∙ reads (s.after (FirstOf (suc hand.mark)))

      same_node : (k : ℕ) → k ≢ hand.mark → has_node s.after (suc k) ≡ has_node s.now.words (suc k)
      same_node k apart = λ t. has_placed (record_of_word (writes.others (RecordOf k) (λ e. apart cc) t) (writes.others (FirstOf (suc k)) (λ e. cc) t))

      each :
          (test : Stage → Bool) → placed ≡ test hand.stage → (k : ℕ)
          → once_if (has_node s.after (suc k)) + hands_at test k (later_views s) ≡ once_if (has_node s.now.words (suc k)) + hands_at test k s.now.views
      each test same k =
          elim (cases_eq k hand.mark) [
            | inl e ↦
                subst (λ j. once_if (has_node s.after (suc j)) + hands_at test j (later_views s)
                ≡ once_if (has_node s.now.words (suc j)) + hands_at test j s.now.views) (sym e) (omega (
                  arith,
                  ap once_if is_now,
                  was_none,
                  ap once_if same,
                  hands_own test,
                  ap once_if (none_held test hand.mark),
                  was_held test,
                ))
            | inr apart ↦ omega (arith, ap once_if (same_node k apart), hands_other test (λ j off. none_held test j) k apart)
          ]

  -- The hand has come on to another stage, and its mark is the same.
  module _ (next : Hand) (now : s.then.hand ≡ Some next) (same_mark : next.mark ≡ hand.mark) where
    none_other : (test : Stage → Bool) (k : ℕ) → k ≢ hand.mark → holds_at test k s.then.hand ≡ false
    none_other test k apart = holds_at-other test k s.then.hand next now (λ e. apart (e ∙ same_mark))

    own_stage : (test : Stage → Bool) → hands_at test hand.mark (later_views s) ≡ once_if (test next.stage)
    own_stage test = hands_own test ∙ ap (λ k. once_if (holds_at test k s.then.hand)) (sym same_mark) ∙ ap once_if (holds_at-own test s.then.hand next now)

    -- so far as its links go, nothing has changed
    stage_kept : (test : Stage → Bool) → test next.stage ≡ test hand.stage → (k : ℕ) → hands_at test k (later_views s) ≡ hands_at test k s.now.views
    stage_kept test same k =
        elim (cases_eq k hand.mark) [
          | inl e ↦
              subst (λ j. hands_at test j (later_views s) ≡ hands_at test j s.now.views) (sym e) (own_stage test ∙ ap once_if same ∙ sym (was_held test))
          | inr apart ↦ hands_other test (none_other test) k apart
        ]

    -- it is put into an empty child word at the end of the way of its point
    pub LinkedTree-linked :
        {p : Point} → LinksNode (run_sizes s.now.run) s.now.words s.after p hand.mark → has_link next.stage ≡ true → has_count next.stage ≡ has_count hand.stage
        → LinkedTree s.now.run s.after (later_views s)
    LinkedTree-linked puts link count = record {
      start = puts.writes.others (PointOf 0) (λ e. cc) ∙ is.moment.world.links.start;
      ways = FollowWays-linked puts;
      linked = linked;
      count =
          puts.writes.others Count (λ e. cc) ∙ is.moment.world.links.count
          ∙ ap (λ n. 1 + n) (sym (sum-same (counted_once s.after (later_views s)) (counted_once s.now.words s.now.views) (length s.now.run.marks)
          (λ k within. omega (arith, ap once_if (nodes k), stage_kept has_count count k))));
    }
      where
        sizes : Sizes
        sizes = run_sizes s.now.run

        nodes : (k : ℕ) → has_node s.after (suc k) ≡ has_node s.now.words (suc k)
        nodes k = has_node-same s.now.words s.after k (puts.writes.others (RecordOf k) (λ e. cc))

        linked : (k : ℕ) → once_if (is_linked sizes s.after (suc k)) ≡ once_if (has_node s.after (suc k)) + hands_at has_link k (later_views s)
        linked k =
            elim (cases_eq k hand.mark) [
              | inl e ↦
                  subst (λ j. once_if (is_linked sizes s.after (suc j)) ≡ once_if (has_node s.after (suc j)) + hands_at has_link j (later_views s)) (sym e)
                  (omega (
                    arith,
                    ap once_if (is_linked-new puts),
                    ap once_if (nodes hand.mark),
                    is.moment.world.links.linked hand.mark,
                    ap once_if puts.unlinked,
                    own_stage has_link,
                    ap once_if link,
                  ))
              | inr apart ↦ omega (
                arith,
                ap once_if (is_linked-others puts (suc k) (λ e. apart cc)),
                ap once_if (nodes k),
                is.moment.world.links.linked k,
                hands_other has_link (none_other has_link) k apart,
              )
            ]

    -- it is counted
    pub LinkedTree-counted :
        hand.mark < length s.now.run.marks → has_link next.stage ≡ has_link hand.stage → has_count hand.stage ≡ false → has_count next.stage ≡ true
        → WritesWord Count (s.now.words Count + 1) s.now.words s.after → LinkedTree s.now.run s.after (later_views s)
    LinkedTree-counted low link not_yet count writes = record {
      start = writes.others (PointOf 0) (λ e. cc) ∙ is.moment.world.links.start;
      ways = FollowWays-kept (run_sizes s.now.run) s.now.words s.after keeps is.moment.world.links.ways;
      linked = λ k. omega (
        arith,
        ap once_if (is_linked-kept (run_sizes s.now.run) s.now.words s.after keeps (suc k)),
        is.moment.world.links.linked k,
        ap once_if (nodes k),
        stage_kept has_link link k,
      );
      count = omega (
        arith,
        writes.here,
        is.moment.world.links.count,
        sum-up (counted_once s.now.words s.now.views) (counted_once s.after (later_views s)) (length s.now.run.marks) hand.mark low own others,
      );
    }
      where
        nodes : (k : ℕ) → has_node s.after (suc k) ≡ has_node s.now.words (suc k)
        nodes k = has_node-same s.now.words s.after k (writes.others (RecordOf k) (λ e. cc))

        keeps : KeepsLinks (run_sizes s.now.run) s.now.words s.after
        keeps = record { children = λ n side. writes.others (ChildOf n side) (λ e. cc); points = λ n h. writes.others (PointOf n) (λ e. cc) }

        own : counted_once s.after (later_views s) hand.mark ≡ counted_once s.now.words s.now.views hand.mark + 1
        own = omega (arith, ap once_if (nodes hand.mark), own_stage has_count, ap once_if count, was_held has_count, ap once_if not_yet)

        others : (k : ℕ) → k ≢ hand.mark → counted_once s.after (later_views s) k ≡ counted_once s.now.words s.now.views k
        others k apart = omega (arith, ap once_if (nodes k), hands_other has_count (none_other has_count) k apart)
