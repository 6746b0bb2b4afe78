-- When one view has the whole share and nothing in hand, and has seen all counters at their quotas, the words are those of a closed run.
use Rattle.step_core.proofs.Words.{◌≡◌, ◌+◌, ◌/◌, ◌%◌, ◌<◌, ◌≤◌, ◌^◌, ◌∙◌, ◌==◌, ℕ, zero, suc, Bool, true, false, List, length, Option, Some, None, refl, sym}
use Rattle.step_core.proofs.Words.{ap, subst, inl, inr, arith, IsSome, cond, is_some, nat_lt, map, if◌then◌else◌, range_with_len, some, get_elem?, cases_Bool}
use Rattle.step_core.proofs.Words.{cases_lt, eqb-true, le-ltb, lt-ltb, ltb-true, div-add-mod', mod_below, IsClosed, is_claimed, quota_of, IsPresent, node_count}
use Rattle.step_core.proofs.Words.{point_at, setup_of, AreSameRuns, AreTurns, is_of_turn, is_of_worker, once_if, FollowWays, Record, Task, count-longer}
use Rattle.step_core.proofs.Words.{IsCutAt-quota, IsClosed-same_run, HoldRun, IsBlank, IsPointWord, IsTreeWord, children_of_words, cleared, has_node}
use Rattle.step_core.proofs.Words.{has_placed, is_linked, node_point_by, points_of_words, record_at, state_of_words, Words, Counter, FirstOf, PointOf, RecordOf}
use Rattle.step_core.proofs.Words.{TreeOf, Sizes, cost_in, parent_in, point_of_word, record_of_word, record_word, tree_of_word, record_word-again}
use Rattle.step_core.proofs.Words.{if_written-set, StandsAsSeen, linked_point, linked_points, has_count, has_link, holds_at, SeesNode, run_of, run_sizes, sees}
use Rattle.step_core.proofs.Words.{share, IsRecordWord, IsWorld, counted_once, counters, greatest_limit, hands_at, is_recorded, limit_of, state_in, SharedRun}
use Rattle.step_core.proofs.Words.{Stage, View, sum-same}
use Rattle.step_core.proofs.Parts.LinkedStates.{node_count-linked, present-linked, linked-present, record-unplaced}
use Rattle.step_core.proofs.Parts.ViewLists.{maximum-one, maximum-most, sum-zero, same-at}
use Rattle.step_core.proofs.Whole.WholeCopies.{is_recorded-whole, others_shareless, nodes-whole, points-whole, records-whole, sees-whole, no_hand}
use Rattle.step_core.proofs.Parts.WorldParts.{quota-up, record_word-none}
use Rattle.step_core.proofs.Parts.MarksInHand.{once_if-same, no_record}
use Rattle.step_core.proofs.Whole.GrownFromWords.{placed_mark}

-- ---- cleared words

module _ (words : Words) where
  -- What is cleared was of no node, so the records stay,
  record_at-cleared : (k : ℕ) → record_at (cleared words) k ≡ record_at words k
  record_at-cleared k = by_test (has_placed (record_at words k)) refl
    where
      by_test : (b : Bool) → has_placed (record_at words k) ≡ b
          → record_of_word (words (RecordOf k)) (if b then words (FirstOf (suc k)) else 0) ≡ record_at words k
      by_test true e = refl
      by_test false e = record-unplaced (words (RecordOf k)) (words (FirstOf (suc k))) 0 e

  -- and the same nodes are there.
  has_node-cleared : (n : ℕ) → has_node (cleared words) n ≡ has_node words n
  has_node-cleared zero = refl
  has_node-cleared (suc k) = ap has_placed (record_at-cleared k)

  -- A node keeps its words.
  tree-cleared : (n : ℕ) → has_node words n ≡ true → cleared words (TreeOf n) ≡ words (TreeOf n)
  tree-cleared n here = ap (λ b. if b then words (TreeOf n) else 0) here

  IsBlank-cleared : (n : ℕ) → has_node words n ≡ false → IsBlank (cleared words) n
  IsBlank-cleared n none = record {
    point = ap (λ b. if b then words (PointOf n) else 0) none;
    tree = ap (λ b. if b then words (TreeOf n) else 0) none;
    first = ap (λ b. if b then words (FirstOf n) else 0) none;
  }

-- ---- a whole share

module _ (task : Task) (workers opening : ℕ) (words : Words) (views : List View) (id : ℕ) (view : View)
    (world : IsWorld (run_of task workers opening) words views) (at : get_elem? views id ≡ some view) (whole : share view ≡ workers)
    (idle : view.hand ≡ None) (limit : ℕ) (most : view.most ≤ limit)
    (full : (g : ℕ) → g < task.scene.strips → quota_of task.scene.strips g limit ≤ sees view (Counter g)) where
  abbrev run : SharedRun
  run = run_of task workers opening

  abbrev sizes : Sizes
  sizes = run_sizes run

  abbrev last : ℕ
  last = view.most

  -- no other view binds the counters
  maximum-whole : greatest_limit views ≡ last
  maximum-whole =
      let here = maximum-one limit_of views id view at in
      let own : limit_of view ≡ last = binds (share view == 0) refl in
      let top = maximum-most limit_of views last others in
      omega (arith, here, own, top)
    where
      binds : (b : Bool) → (share view == 0) ≡ b → cond b 0 view.most ≡ view.most
      binds true e = (let none = eqb-true (share view) 0 e in absurd (omega (arith, none, whole, world.run_is.workers.0)))
      binds false e = refl

      others : (i : ℕ) (u : View) → get_elem? views i ≡ some u → limit_of u ≤ last
      others i u e =
          elim (same-at views i id u view e at) [
            | inl (same, is) ↦ omega (arith, ap limit_of is, binds (share view == 0) refl)
            | inr apart ↦ (
                let none = others_shareless run words views id view world at whole i u apart e in
                let zero_limit : limit_of u ≡ 0 = ap (λ n. cond (n == 0) 0 u.most) none in
                omega (arith, zero_limit))
          ]

  -- each counter is at its quota
  claimed-whole : (g : ℕ) → g < task.scene.strips → words (Counter g) ≡ quota_of task.scene.strips g last
  claimed-whole g strip =
      let top = world.numbers.quotas g strip in
      let same = ap (quota_of task.scene.strips g) maximum-whole in
      omega (arith, top, same, full g strip, world.seen.behind id view at (Counter g), quota-up task.scene.strips g last limit strip most)

  -- so the marks below the limit are claimed, and recorded
  is_claimed-whole : (k : ℕ) → is_claimed run.strips (counters words) k ≡ nat_lt k last
  is_claimed-whole k =
      let g : ℕ = k % run.strips in
      let strip : g < run.strips = mod_below k run.strips world.run_is.strips.0 in
      let cut = IsCutAt-quota run.strips g last strip in
      let counter = claimed-whole g strip in
      let whole_mark = div-add-mod' k run.strips in
      elim (cases_lt k last) [
        | inl below ↦ (
            let low = cut.below_quota (k / run.strips) (omega (arith, below, whole_mark)) in
            lt-ltb (k / run.strips) (words (Counter g)) (omega (arith, low, counter)) ∙ sym (lt-ltb k last below))
        | inr past ↦ elim (cases_lt (k / run.strips) (words (Counter g))) [
          | inl low ↦ absurd (omega (arith, past, cut.below_limit (k / run.strips) (omega (arith, low, counter)), whole_mark))
          | inr high ↦ le-ltb (k / run.strips) (words (Counter g)) high ∙ sym (le-ltb k last past)
        ]
      ]

  is_recorded-last : (k : ℕ) → is_recorded words k ≡ nat_lt k last
  is_recorded-last k = is_recorded-whole run words views id view world at whole idle k ∙ is_claimed-whole k

  recorded_below : (k : ℕ) (entry : Record) → record_at words k ≡ Some entry → k < last
  recorded_below k entry e = ltb-true k last (sym (is_recorded-last k) ∙ ap is_some e)

  none_past : (k : ℕ) → last ≤ k → record_at words k ≡ None
  none_past k past = no_record (record_at words k) (is_recorded-last k ∙ le-ltb k last past)

  -- ---- nodes

  no_hands : (test : Stage → Bool) (k : ℕ) → hands_at test k views ≡ 0
  no_hands test k =
      sum-zero (λ u. once_if (holds_at test k u.hand)) views
      (λ i u e. ap (λ h. once_if (holds_at test k h)) (no_hand run words views id view world at whole idle i u e))

  -- a node is linked if its mark was placed, and no other is
  is_linked-whole : (n : ℕ) → is_linked sizes words n ≡ has_node words n
  is_linked-whole zero = refl
  is_linked-whole (suc k) = once_if-same (is_linked sizes words (suc k)) (has_node words (suc k)) (omega (arith, world.links.linked k, no_hands has_link k))

  point-whole : (n : ℕ) → node_point_by (has_node (cleared words)) (cleared words) n ≡ linked_point sizes words n
  point-whole n =
      ap (λ b. if b then point_of_word (cleared words (PointOf n)) else None) (has_node-cleared words n)
      ∙ by_test (has_node words n) refl ∙ ap (λ b. if b then point_of_word (words (PointOf n)) else None) (sym (is_linked-whole n))
    where
      by_test : (b : Bool) → has_node words n ≡ b
          → (if b then point_of_word (if b then words (PointOf n) else 0) else None) ≡ (if b then point_of_word (words (PointOf n)) else None)
      by_test true e = refl
      by_test false e = refl

  points-linked : points_of_words sizes (cleared words) ≡ linked_points sizes words
  points-linked = ap (λ f. map f (range_with_len 0 (sizes.marks + 1))) (λ t n. point-whole n t)

  -- ---- the closed law

  AreTurns-last : AreTurns last (record_at words)
  AreTurns-last = record {
    each = λ w t.
        sym (count-longer (λ k. is_of_turn w t (record_at words k)) last (length run.marks) (world.numbers.limits id view at)
        (λ k of. turn_below w t k (record_at words k) refl of)) ∙ world.turns.workers.each w t
        ∙ ap (λ n. once_if (nat_lt t n)) (count-longer (λ k. is_of_worker w (record_at words k)) last (length run.marks) (world.numbers.limits id view at)
        (λ k of. worker_below w k (record_at words k) refl of));
  }
    where
      worker_below : (w k : ℕ) (o : Option Record) → record_at words k ≡ o → is_of_worker w o ≡ true → k < last
      worker_below w k None e h = cc
      worker_below w k (Some entry) e h = recorded_below k entry e

      turn_below : (w t k : ℕ) (o : Option Record) → record_at words k ≡ o → is_of_turn w t o ≡ true → k < last
      turn_below w t k None e h = cc
      turn_below w t k (Some entry) e h = recorded_below k entry e

  IsClosed-linked : IsClosed (setup_of task.scene) task.marks last (state_in run words)
  IsClosed-linked = record {
    order = world.trees.order;
    within = world.numbers.limits id view at;
    records = record {
      recorded = λ k below. is_recorded-last k ∙ lt-ltb k last below;
      none_else = none_past;
    };
    workers = world.records.workers;
    turns = AreTurns-last;
    lawful = world.records.lawful;
    placed = λ k. is_present k ∙ placed_mark (record_at words k);
  }
    where
      is_present : (k : ℕ) → is_some (point_at (linked_points sizes words) (suc k)) ≡ has_node words (suc k)
      is_present k =
          elim (cases_Bool (has_node words (suc k))) [
            | inl here ↦ present-linked run words views world.links world.trees (suc k) (is_linked-whole (suc k) ∙ here) ∙ sym here
            | inr none ↦ elim (cases_Bool (is_some (point_at (linked_points sizes words) (suc k)))) [
              | inl there ↦ (let gone = sym none ∙ sym (is_linked-whole (suc k)) ∙ linked-present sizes words (suc k) there in cc)
              | inr absent ↦ absent ∙ sym none
            ]
          ]

  -- clearing leaves the tree and its records
  pub AreSameRuns-cleared : AreSameRuns (state_in run words) (state_of_words sizes (cleared words))
  AreSameRuns-cleared = record {
    points = λ n. ap (λ l. point_at l n) points-linked;
    parents = λ n here. ap parent_in (tree-cleared words n (node_at n here));
    costs = λ n here. ap cost_in (tree-cleared words n (node_at n here));
    records = record_at-cleared words;
  }
    where
      node_at : (n : ℕ) → IsPresent (linked_points sizes words) n → has_node words n ≡ true
      node_at n here = sym (is_linked-whole n) ∙ linked-present sizes words n here

  -- The words are those of a run that is closed at the greatest limit.
  pub HoldRun-whole : HoldRun task last (cleared words)
  HoldRun-whole = record {
    closed =
        IsClosed-same_run (setup_of task.scene) task.marks last (state_in run words) (state_of_words sizes (cleared words)) IsClosed-linked
        AreSameRuns-cleared;
    ways = subst (FollowWays (children_of_words words)) (sym points-linked) world.links.ways;
    counted =
        world.links.count ∙ ap (λ n. 1 + n) (sum-same (counted_once words views) (λ k. once_if (is_linked sizes words (suc k))) (length task.marks)
        (λ k low. omega (arith, no_hands has_count k, ap once_if (is_linked-whole (suc k)))))
        ∙ sym (node_count-linked run words views world.links world.trees) ∙ ap node_count (sym points-linked);
    claimed = claimed-whole;
    written = λ n here.
        let linked = linked-present sizes words n (subst (λ l. IsPresent l n) points-linked here) in
        let node = sym (is_linked-whole n) ∙ linked in
        let words_of = world.trees.written n linked in
        record {
          point = subst IsPointWord (sym (ap (λ b. if b then words (PointOf n) else 0) node)) words_of.point;
          tree = subst IsTreeWord (sym (tree-cleared words n node)) words_of.tree;
          first = subst IsTreeWord (sym (ap (λ b. if b then words (FirstOf n) else 0) node)) words_of.first;
        };
    recorded = λ k entry e. repacked k entry (sym (record_at-cleared words k) ∙ e) (world.numbers.packed k);
    unrecorded = λ k past. record_word-none (words (RecordOf k)) (words (FirstOf (suc k))) (world.numbers.packed k) (none_past k past);
    start_first = world.trees.start_first;
    blank = λ n none. IsBlank-cleared words n (sym (has_node-cleared words n) ∙ none);
  }
    where
      repacked : (k : ℕ) (entry : Record) → record_at words k ≡ Some entry → IsRecordWord (words (RecordOf k)) → words (RecordOf k) ≡ record_word entry
      repacked k entry e (inl unwritten) = (let none = ap (λ w. record_of_word w (words (FirstOf (suc k)))) (sym unwritten) ∙ e in cc)
      repacked k entry e (inr packed) =
          packed.2 ∙ sym (record_word-again packed.0 entry (words (FirstOf (suc k))) packed.1
          (ap (λ w. record_of_word w (words (FirstOf (suc k)))) (sym packed.2) ∙ e))

  -- ---- what the view has seen

  module _ (own : view.run ≡ run) where
    linked_seen : (n : ℕ) → SeesNode view n → is_linked sizes words n ≡ true
    linked_seen n = (nodes-whole run words views id view world at whole n).0

    -- All that the view has seen stands in that run.
    pub StandsAsSeen-whole : StandsAsSeen view (state_of_words sizes (cleared words))
    StandsAsSeen-whole = record {
      nodes = λ n h. subst (λ l. IsPresent l n) (sym points-linked) (present-linked run words views world.links world.trees n (linked_seen n h));
      points = λ n p h. ap (λ l. point_at l n) (points-linked ∙ sym (points-whole run words views id view world at whole)) ∙ h;
      trees = λ n written.
          let linked = linked_seen n ((world.sights id view at own).rooted.pairs n (tree_written n written)) in
          let same = tree-cleared words n (sym (is_linked-whole n) ∙ linked) ∙ sym (sees-whole run words views id view world at whole (TreeOf n) linked) in
          inl (ap cost_in same, ap parent_in same);
      records = λ k entry e. record_at-cleared words k ∙ sym (records-whole run words views id view world at whole k) ∙ e;
      counters = λ g strip.
          let here : g < task.scene.strips = subst (λ r. g < r.strips) own strip in
          let quota = ap (λ r. quota_of r.strips g last) own in
          omega (arith, world.seen.behind id view at (Counter g), claimed-whole g here, quota);
    }
      where
        tree_written : (n : ℕ) → 2 ^ 63 ≤ sees view (TreeOf n) → IsSome (tree_of_word (sees view (TreeOf n)))
        tree_written n written = ap is_some (if_written-set (sees view (TreeOf n)) (parent_in (sees view (TreeOf n)), cost_in (sees view (TreeOf n))) written)

  -- Its records of marks from the opening limit on are by workers of the run.
  pub own_workers-whole : (k : ℕ) (entry : Record) → opening ≤ k → record_at (cleared words) k ≡ Some entry → entry.worker < workers
  own_workers-whole k entry past e = world.records.own_workers k entry (sym (record_at-cleared words k) ∙ e) past
