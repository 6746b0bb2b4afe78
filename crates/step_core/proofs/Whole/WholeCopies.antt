-- A view with the whole share sees all words that tell of the run as they are, and so the whole tree, which keeps the order law.
use Rattle.step_core.proofs.Words.{◌≡◌, ◌≢◌, ◌<◌, ◌∙◌, ◌==◌, ℕ, Bool, true, false, List, length, Some, None, refl, ap, inl, inr, arith, nat_lt, cond}
use Rattle.step_core.proofs.Words.{if◌then◌else◌, count_by, range_with_len, some, get_elem?, cases_eq, eq-eqb, ltb-true, ne_eqb, is_claimed, is_of_worker}
use Rattle.step_core.proofs.Words.{once_if, turns_of, count-all, count-one_more, count-wider, record_at, Words, holds, share, times, IsWorld, counters}
use Rattle.step_core.proofs.Words.{is_recorded, Hand, Member, SharedRun, View, ◌+◌, ◌≤◌, ◌↔◌, ◌&&◌, zero, suc, map, Option, sym, subst, cases_Bool, cases_lt}
use Rattle.step_core.proofs.Words.{node_count, FollowWays, Record, child_of_word, children_of_words, has_node, is_linked, seen_point, AreBehind, Word, Best}
use Rattle.step_core.proofs.Words.{ChildOf, Count, FirstOf, PointOf, RecordOf, TreeOf, Sizes, cost_in, parent_in, point_of_word, record_of_word, tree_of_word}
use Rattle.step_core.proofs.Words.{in_child, linked_point, linked_points, has_count, has_link, holds_at, SeesNode, SeesTree, run_sizes, sees, tree_seen, IsTold}
use Rattle.step_core.proofs.Words.{counted_once, hands_at, Stage, Linked, sum-same, SomeSharer, ◌||◌, list_any, KeepsOrder, IsPresent, point_at, first_cost_of}
use Rattle.step_core.proofs.Words.{recorded_or, HaveSameTree, KeepsOrder-lowered, LowersCosts-same, state_of_links, setup_in, state_in}
use Rattle.step_core.proofs.Steps.FinishedTurns.{times-at}
use Rattle.step_core.proofs.Parts.MarksInHand.{once_if-most, once_if-true, in_hand, once_if-same, recorded-below}
use Rattle.step_core.proofs.Parts.ViewLists.{sum-one, sum-two, sum-zero, same-at, sum-each}
use Rattle.step_core.proofs.OneView.LawfulSights.{tree_of_word-written, is_linked-seen}
use Rattle.step_core.proofs.Parts.LinkedStates.{node_count-linked, record-unplaced, unlinked-childless, linked-present}
use Rattle.step_core.proofs.Parts.WorldParts.{record_word-none}
use Rattle.step_core.proofs.OneView.SeenViews.{seen_point-none}

-- ---- members, and marks in hand

-- fewer than all pass a test that one number fails
count-missing : (test : ℕ → Bool) (n j : ℕ) → j < n → test j ≡ false → count_by test (range_with_len 0 n) < n
count-missing test n j low fails =
    let more = count-one_more test with_it n j low fails (ap (λ b. cond b true (test j)) (eq-eqb j j refl))
    (λ i apart. ap (λ b. cond b true (test i)) (ne_eqb i j apart)) in
    omega (arith, more, count-wider with_it (λ i. true) n (λ i h. refl), count-all (λ i. true) n (λ i h. refl))
  where
    with_it : ℕ → Bool
    with_it i = if i == j then true else test i

module _ (run : SharedRun) (words : Words) (views : List View) (id : ℕ) (view : View) (world : IsWorld run words views)
    (at : get_elem? views id ≡ some view) where
  -- ---- a member

  -- the worker is one of the run's
  pub worker-below : (i : ℕ) (member : Member) → get_elem? view.crew i ≡ some member → member.worker < run.workers
  worker-below i member e =
      let here = times-at view.crew i member e in
      let all = sum-one (λ u. times member.worker u.crew) views id view at in
      ltb-true member.worker run.workers (once_if-true (nat_lt member.worker run.workers) (omega (arith, here, all, world.turns.in_one_crew member.worker)))

  -- While a mark is in hand, the next turn is below the number of marks.
  pub turn-below : (hand : Hand) (i : ℕ) (member : Member) → view.hand ≡ Some hand → get_elem? view.crew i ≡ some member → member.turn < length run.marks
  turn-below hand i member held e =
      let mark = in_hand run words views id view world at hand held in
      let own = world.turns.members id view at i member e in
      omega (arith, own.turn, missing (length run.marks) mark.low (ap (is_of_worker member.worker) mark.absent))
    where
      missing : (n : ℕ) → hand.mark < n → is_of_worker member.worker (record_at words hand.mark) ≡ false → turns_of (record_at words) n member.worker < n
      missing n low absent = count-missing (λ k. is_of_worker member.worker (record_at words k)) n hand.mark low absent

  -- ---- the whole share

  module _ (whole : share view ≡ run.workers) where
    -- no other view has a share,
    pub others_shareless : (i : ℕ) (u : View) → i ≢ id → get_elem? views i ≡ some u → share u ≡ 0
    others_shareless i u apart e = omega (arith, sum-two share views i id u view apart e at, world.shares.add_up, whole)

    -- and so none has a mark in hand
    pub others_idle : (i : ℕ) (u : View) → i ≢ id → get_elem? views i ≡ some u → u.hand ≡ None
    others_idle i u apart e = world.shares.idle i u e (others_shareless i u apart e)

  module _ (whole : share view ≡ run.workers) (idle : view.hand ≡ None) where
    pub no_hand : (i : ℕ) (u : View) → get_elem? views i ≡ some u → u.hand ≡ None
    no_hand i u e =
        elim (same-at views i id u view e at) [
          | inl (same, is) ↦ ap (λ v. v.hand) is ∙ idle
          | inr apart ↦ others_idle whole i u apart e
        ]

    -- Exactly the marks below the counters are recorded.
    pub is_recorded-whole : (k : ℕ) → is_recorded words k ≡ is_claimed run.strips (counters words) k
    is_recorded-whole k =
        once_if-same (is_recorded words k) (is_claimed run.strips (counters words) k)
        (omega (arith, world.numbers.each_once k, sum-zero (λ u. once_if (holds k u.hand)) views (λ i u e. ap (λ h. once_if (holds k h)) (no_hand i u e))))

-- ---- one hand

-- a mark is in one hand at most
pub one_hand :
    (run : SharedRun) (words : Words) (views : List View) (i j : ℕ) (one other : View) → IsWorld run words views → get_elem? views i ≡ some one
    → get_elem? views j ≡ some other → (k : ℕ) → holds k one.hand ≡ true → holds k other.hand ≡ true → i ≡ j
one_hand run words views i j one other world at there k here too =
    elim (cases_eq i j) [
      | inl same ↦ same
      | inr apart ↦ (
          let two = sum-two (λ u. once_if (holds k u.hand)) views i j one other apart at there in
          let a : once_if (holds k one.hand) ≡ 1 = ap once_if here in
          let b : once_if (holds k other.hand) ≡ 1 = ap once_if too in
          absurd (omega (arith, two, a, b, world.numbers.each_once k, once_if-most (is_claimed run.strips (counters words) k))))
    ]

-- ---- words and nodes

-- a hand that is not at the stage linked has counted its node if it has linked it
counted-linked : (stage : Stage) → stage ≢ Linked → has_count stage ≡ has_link stage
counted-linked Linked other = absurd (other refl)
counted-linked stage other = refl

module _ (run : SharedRun) (words : Words) (views : List View) (id : ℕ) (view : View) (world : IsWorld run words views)
    (at : get_elem? views id ≡ some view) (whole : share view ≡ run.workers) where
  abbrev sizes : Sizes
  sizes = run_sizes run

  -- the view is not spent, since it has a share
  own : view.run ≡ run
  own =
      elim (world.of_run id view at) [
        | inl gone ↦ absurd (omega (arith, ap share gone, whole, world.run_is.workers.0))
        | inr of_run ↦ of_run.run_is
      ]

  -- Who has a share is this view.
  whole_sharer : (has : View → Type 0) → SomeSharer run views has → has view
  whole_sharer has copy =
      elim (same-at views copy.id id copy.view view copy.at at) [
        | inl (same, is) ↦ subst has is copy.same
        | inr apart ↦ absurd (omega (arith, copy.part, others_shareless run words views id view world at whole copy.id copy.view apart copy.at))
      ]

  -- So it sees each word as it is that tells of the run,
  pub sees-whole : (name : Word) → IsTold run words name → sees view name ≡ words name
  sees-whole name told = whole_sharer (λ u. sees u name ≡ words name) (world.copies name told)

  -- and what it saw last of the best word is what that is
  pub best-whole : view.best ≡ words Best
  best-whole = whole_sharer (λ u. u.best ≡ words Best) world.best_copy

  behind : AreBehind (sees view) words
  behind = world.seen.behind id view at

  tree : SeesTree view
  tree = world.sights id view at own

  follow : FollowWays (children_of_words words) (linked_points (run_sizes view.run) words)
  follow = subst (λ r. FollowWays (children_of_words words) (linked_points (run_sizes r) words)) (sym own) world.links.ways

  -- ---- nodes

  linked-seen : (n : ℕ) → SeesNode view n → is_linked sizes words n ≡ true
  linked-seen n h = subst (λ r. is_linked (run_sizes r) words n ≡ true) own (is_linked-seen view words behind tree follow n h)

  -- a child word is seen as it is, also of a number that is not linked
  pub child-whole : (n : ℕ) (side : Bool) → sees view (ChildOf n side) ≡ words (ChildOf n side)
  child-whole n side =
      elim (cases_Bool (is_linked sizes words n)) [
        | inl linked ↦ sees-whole (ChildOf n side) linked
        | inr unlinked ↦ elim (behind (ChildOf n side)) [
          | inl none ↦ none ∙ sym (unlinked-childless run words views world.links n unlinked side)
          | inr same ↦ same
        ]
      ]

  seen-linked : (n : ℕ) → is_linked sizes words n ≡ true → SeesNode view n
  seen-linked zero linked = inl refl
  seen-linked (suc k) linked =
      let place = in_child sizes words k linked in
      inr (place.node, place.side, ap child_of_word (child-whole place.node place.side ∙ place.holds))

  -- It sees the linked nodes and no others,
  pub nodes-whole : (n : ℕ) → SeesNode view n ↔ is_linked sizes words n ≡ true
  nodes-whole n = (linked-seen n, seen-linked n)

  -- no point of a number that is not linked is seen
  unseen_point : (n : ℕ) → is_linked sizes words n ≡ false → seen_point (sees view) n ≡ None
  unseen_point n unlinked = seen_point-none view n (λ present. let no = sym unlinked ∙ linked-seen n (tree.rooted.points n present) in cc)

  point-whole : (n : ℕ) → seen_point (sees view) n ≡ linked_point sizes words n
  point-whole n =
      elim (cases_Bool (is_linked sizes words n)) [
        | inl linked ↦ ap point_of_word (sees-whole (PointOf n) linked) ∙ sym (ap (λ b. if b then point_of_word (words (PointOf n)) else None) linked)
        | inr unlinked ↦ unseen_point n unlinked ∙ sym (ap (λ b. if b then point_of_word (words (PointOf n)) else None) unlinked)
      ]

  -- where they stand,
  pub points-whole : (tree_seen view).points ≡ linked_points sizes words
  points-whole =
      ap (λ r. map (seen_point (sees view)) (range_with_len 0 (length r.marks + 1))) own
      ∙ ap (λ f. map f (range_with_len 0 (sizes.marks + 1))) (λ t n. point-whole n t)

  -- with their children,
  pub children-whole : (n : ℕ) (side : Bool) → (tree_seen view).child n side ≡ children_of_words words n side
  children-whole n side = ap child_of_word (child-whole n side)

  -- and with their parents and costs.
  pub trees-whole : (n : ℕ) → is_linked sizes words n ≡ true
      → (tree_seen view).parent_and_cost n ≡ Some (parent_in (words (TreeOf n)), cost_in (words (TreeOf n)))
  trees-whole n linked =
      ap tree_of_word (sees-whole (TreeOf n) linked) ∙ tree_of_word-written (words (TreeOf n)) (omega (arith, (world.trees.written n linked).tree))

  -- ---- records

  -- a record word is seen as it is, also past the marks
  record_word-whole : (k : ℕ) → sees view (RecordOf k) ≡ words (RecordOf k)
  record_word-whole k =
      elim (cases_lt k (length run.marks)) [
        | inl low ↦ sees-whole (RecordOf k) low
        | inr past ↦ elim (behind (RecordOf k)) [
          | inl unseen ↦ unseen ∙ sym (record_word-none (words (RecordOf k)) (words (FirstOf (suc k))) (world.numbers.packed k)
              (none (record_at words k) refl past))
          | inr same ↦ same
        ]
      ]
    where
      none : (o : Option Record) → record_at words k ≡ o → length run.marks ≤ k → record_at words k ≡ None
      none None e past = e
      none (Some entry) e past = absurd (omega (arith, past, recorded-below world k entry e))

  -- Each record is seen as it is, of a placed mark with the first word of its node.
  pub records-whole : (k : ℕ) → record_at (sees view) k ≡ record_at words k
  records-whole k =
      ap (λ word. record_of_word word (sees view (FirstOf (suc k)))) (record_word-whole k) ∙ elim (cases_Bool (has_node words (suc k))) [
        | inl placed ↦ ap (record_of_word (words (RecordOf k))) (sees-whole (FirstOf (suc k)) (linked placed))
        | inr unplaced ↦ record-unplaced (words (RecordOf k)) (words (FirstOf (suc k))) (sees view (FirstOf (suc k))) unplaced
      ]
    where
      linked : has_node words (suc k) ≡ true → is_linked sizes words (suc k) ≡ true
      linked placed = once_if-true (is_linked sizes words (suc k)) (omega (arith, world.links.linked k, ap once_if placed))

  -- ---- the tree in the words that it sees

  -- the same nodes are linked
  is_linked-whole : (n : ℕ) → is_linked sizes (sees view) n ≡ is_linked sizes words n
  is_linked-whole n = ap (λ f. (n == 0) || list_any f (range_with_len 0 (sizes.marks + 1))) (λ t m. (child-whole m false t == n) || (child-whole m true t == n))

  -- at the same points
  linked_point-whole : (n : ℕ) → linked_point sizes (sees view) n ≡ linked_point sizes words n
  linked_point-whole n =
      ap (λ b. if b then point_of_word (sees view (PointOf n)) else None) (is_linked-whole n) ∙ elim (cases_Bool (is_linked sizes words n)) [
        | inl linked ↦
            ap (λ word. if is_linked sizes words n then point_of_word word else None) (sees-whole (PointOf n) linked)
        | inr unlinked ↦
            ap (λ b. if b then point_of_word (sees view (PointOf n)) else None) unlinked
            ∙ sym (ap (λ b. if b then point_of_word (words (PointOf n)) else None) unlinked)
      ]

  -- with all else that is kept of them
  HaveSameTree-whole : HaveSameTree (state_in run words) (state_of_links sizes (sees view))
  HaveSameTree-whole = record {
    still = record {
      points = λ n. ap (λ f. point_at (map f (range_with_len 0 (sizes.marks + 1))) n) (λ t m. linked_point-whole m t);
      first_costs = first_costs;
      records = λ k entry h. records k ∙ h;
    };
    parents = λ n here. ap parent_in (sees-whole (TreeOf n) (linked-present sizes words n here));
    costs = λ n here. ap cost_in (sees-whole (TreeOf n) (linked-present sizes words n here));
  }
    where
      records : (k : ℕ) → record_at (sees view) k ≡ record_at words k
      records = records-whole

      first_costs : (n : ℕ) → IsPresent (linked_points sizes words) n
          → first_cost_of (state_of_links sizes (sees view)) n ≡ first_cost_of (state_in run words) n
      first_costs zero here = refl
      first_costs (suc k) here =
          let first = sees-whole (FirstOf (suc k)) (linked-present sizes words (suc k) here) in
          ap (recorded_or (cost_in (sees view (FirstOf (suc k))))) (records k) ∙ ap (λ word. recorded_or (cost_in word) (record_at words k)) first

  pub KeepsOrder-whole : KeepsOrder (setup_in run) (state_of_links sizes (sees view))
  KeepsOrder-whole =
      KeepsOrder-lowered (setup_in run) (state_in run words) (state_of_links sizes (sees view))
      (LowersCosts-same (setup_in run) (state_in run words) (state_of_links sizes (sees view)) world.trees.order HaveSameTree-whole) world.trees.order

  -- ---- the count

  module _ (done : (hand : Hand) → view.hand ≡ Some hand → hand.stage ≢ Linked) where
    -- no hand has linked a node that it has not counted
    all_counted : (k : ℕ) → hands_at has_count k views ≡ hands_at has_link k views
    all_counted k = sum-each (λ u. once_if (holds_at has_count k u.hand)) (λ u. once_if (holds_at has_link k u.hand)) views each
      where
        by_hand : (o : Option Hand) → view.hand ≡ o → once_if (holds_at has_count k o) ≡ once_if (holds_at has_link k o)
        by_hand None e = refl
        by_hand (Some hand) e = ap (λ b. once_if ((hand.mark == k) && b)) (counted-linked hand.stage (done hand e))

        same : View → Type 0
        same u = once_if (holds_at has_count k u.hand) ≡ once_if (holds_at has_link k u.hand)

        each : (i : ℕ) (u : View) → get_elem? views i ≡ some u → same u
        each i u e =
            elim (same-at views i id u view e at) [
              | inl (here, is) ↦ subst same (sym is) (by_hand view.hand refl)
              | inr apart ↦
                  let idle = others_idle run words views id view world at whole i u apart e in
                  ap (λ h. once_if (holds_at has_count k h)) idle ∙ sym (ap (λ h. once_if (holds_at has_link k h)) idle)
            ]

    -- The count is the number of nodes that it sees.
    pub count-whole : words Count ≡ node_count (tree_seen view).points
    count-whole =
        world.links.count ∙ ap (λ n. 1 + n) (sum-same (counted_once words views) (λ k. once_if (is_linked sizes words (suc k))) (length run.marks)
        (λ k low. omega (arith, all_counted k, world.links.linked k)))
        ∙ sym (node_count-linked run words views world.links world.trees) ∙ ap node_count (sym points-whole)
