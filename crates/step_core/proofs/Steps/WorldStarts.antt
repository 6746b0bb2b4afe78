-- A shared run that goes on from a closed run begins with a lawful world: one view, which has the whole share and has seen all words.
use Rattle.step_core.proofs.Words.{◌≡◌, ◌+◌, ◌<◌, ◌∙◌, ℕ, zero, suc, true, false, length, map, Option, Some, None, refl, sym, ap, subst, inl, inr, arith}
use Rattle.step_core.proofs.Words.{count_by, cond, is_some, range_with_len, sum_by, cases_lt, get_or_past, All-get_or, map-range_with_len_more, sum_by_push}
use Rattle.step_core.proofs.Words.{IsBounded, has_outcome, mark_at, is_placed, once_if, FollowWays, Point, Record, Task, All-task_marks_within, HoldRun}
use Rattle.step_core.proofs.Words.{children_of_words, has_node, has_placed, node_point, record_at, sizes_of, Words, Count, PointOf, Sizes, point_word}
use Rattle.step_core.proofs.Words.{IsBounded-stands, point_at-words, start_present-held, start_stands-held, point_in-stands, state_by-closed, sum-more}
use Rattle.step_core.proofs.Words.{linked_points, is_recorded, sum-same, ◌≤◌, [], ◌∷◌, ◌/◌, ◌^◌, ◌⊎◌, ◌==◌, Bool, List, le_refl, nat_lt, max, some}
use Rattle.step_core.proofs.Words.{some-ne-none, some-injective, get_elem?, cases_Bool, eq-eqb, eqb-true, le-ltb, lt-ltb, ne_eqb, length-map, length-replicate}
use Rattle.step_core.proofs.Words.{length-range_with_len, mod_below, same_Some, sum_by-cons, is_claimed, KeepsFirstCosts, KeepsOrder, AreSeenLawfully}
use Rattle.step_core.proofs.Words.{skipping_goals, setup_of, point_at, first_cost_of, recorded_or, IsPresent-goal, turns_of, MOST_WORKERS}
use Rattle.step_core.proofs.Words.{KeepsFirstCosts-closed, count-none, count-single, length-marks, step-steers, is_claimed-below, is_claimed-past}
use Rattle.step_core.proofs.Words.{AreTurns-longer, IsLeastBest, run_words, state_of_words, AreBehind, HaveWholePairs, Best, ChildOf, FirstOf, RecordOf}
use Rattle.step_core.proofs.Words.{word_count, FitsWord, cost_in, outcome_in, record_in, record_of_word, is_linked-closed, node_present, AreBehind-refl, Word}
use Rattle.step_core.proofs.Words.{TreeOf, best_node_in, crew_from, member_of, newcomer, SeesTree, IsViewOf, last_zero, run_of, run_sizes, sees, setup_in}
use Rattle.step_core.proofs.Words.{share, spent, times, took_over, tree_seen, Agree, BestWord, EachView, IsMember, IsRecordWord, IsWorld, SeesBest}
use Rattle.step_core.proofs.Words.{counted_once, Trees, counters, greatest_limit, state_in, Member, SharedRun, View, HasNoted, IsNoted, last_seen, Note}
use Rattle.step_core.proofs.Words.{turn_in, ◌%◌, worker_in}
use Rattle.step_core.proofs.Steps.FinishedTurns.{times-cons}
use Rattle.step_core.proofs.Parts.LinkedStates.{placed-first}
use Rattle.step_core.proofs.OneView.LawfulSights.{least-now, IsPresent-seen}
use Rattle.step_core.proofs.Parts.MarksInHand.{once_if-false}
use Rattle.step_core.proofs.OneView.SeenTreesOfViews.{SeesTree-started}
use Rattle.step_core.proofs.Parts.WorldNotes.{zero-read}
use Rattle.step_core.proofs.Parts.WorldHands.{IsWrittenFor}
use Rattle.step_core.proofs.Parts.WorldLinks.{has_node-recorded}
use Rattle.step_core.proofs.Parts.WorldPairs.{HasFirst, HasTree}
use Rattle.step_core.proofs.Parts.WorldRecords.{Records-held, AreSeenLawfully-all}
use Rattle.step_core.proofs.Steps.WorldJoins.{AreBehind-nothing}
use Rattle.step_core.proofs.Parts.WorldParts.{quota-up}

-- ---- marks

-- the marks of a task are within bounds
pub IsBounded-mark : (task : Task) (k : ℕ) → IsBounded (mark_at task.marks k)
IsBounded-mark task k =
    elim (cases_lt k (length task.marks)) [
      | inl low ↦ All-get_or IsBounded task.marks k (record { x = 0; y = 0 }) low (All-task_marks_within task)
      | inr past ↦ subst IsBounded (sym (get_or_past task.marks k (record { x = 0; y = 0 }) past)) (record { right = omega arith; top = omega arith })
    ]

-- ---- how many nodes

-- beside the first, as many as there are numbers with one
nodes_below : (f : ℕ → Option Point) (n : ℕ) → is_some (f 0) ≡ true
    → count_by is_some (map f (range_with_len 0 (n + 1))) ≡ 1 + sum_by (λ k. once_if (is_some (f (suc k)))) (range_with_len 0 n)
nodes_below f zero first = omega (arith, ap once_if first)
nodes_below f (suc n) first =
    let one : Option Point → ℕ = λ o. cond (is_some o) 1 0 in
    let longer : suc n + 1 ≡ (n + 1) + 1 = omega arith in
    let next : n + 1 ≡ suc n = omega arith in
    omega (
      arith,
      ap (λ m. count_by is_some (map f (range_with_len 0 m))) longer,
      ap (sum_by one) (map-range_with_len_more f 0 (n + 1) (n + 1) (omega arith)),
      sum_by_push one (map f (range_with_len 0 (n + 1))) (f (n + 1)),
      ap (λ m. one (f m)) next,
      sum-more (λ k. once_if (is_some (f (suc k)))) n,
      nodes_below f n first,
    )

module _ (task : Task) (limit : ℕ) (words : Words) (held : HoldRun task limit words) where
  abbrev sizes : Sizes
  sizes = sizes_of task

  -- node 0 is at the start
  pub start-held : words (PointOf 0) ≡ point_word task.scene.start
  start-held =
      (held.written 0 (start_present-held task limit words held)).point
      ∙ ap point_word (point_in-stands sizes words 0 task.scene.start (start_stands-held task limit words held))

  pub IsBounded-start : IsBounded task.scene.start
  IsBounded-start = IsBounded-stands sizes words 0 task.scene.start (start_stands-held task limit words held)

  pub FollowWays-held : FollowWays (children_of_words words) (linked_points sizes words)
  FollowWays-held = subst (FollowWays (children_of_words words)) (sym (ap (λ state. state.points) (state_by-closed task limit words held))) held.ways

  -- a node is there if its mark was placed
  placed_node : (k : ℕ) → k < length task.marks → is_some (node_point words (suc k)) ≡ has_node words (suc k)
  placed_node k low = ap is_some (sym (point_at-words sizes words (suc k) (omega (arith, low)))) ∙ held.closed.placed k ∙ by_record (record_at words k)
    where
      by_record : (o : Option Record) → has_outcome is_placed o ≡ has_placed o
      by_record None = refl
      by_record (Some entry) = refl

  -- The count is 1, and 1 for each mark that is recorded as placed.
  pub count-held : words Count ≡ 1 + sum_by (λ k. once_if (has_node words (suc k))) (range_with_len 0 (length task.marks))
  count-held =
      held.counted ∙ nodes_below (node_point words) (length task.marks)
      (ap is_some (sym (point_at-words sizes words 0 (omega arith))) ∙ start_present-held task limit words held)
      ∙ ap (λ n. 1 + n) (sum-same (λ k. once_if (is_some (node_point words (suc k)))) (λ k. once_if (has_node words (suc k))) (length task.marks)
      (λ k low. ap once_if (placed_node k low)))

  -- nothing is written for a mark without a record
  pub blank-held : (k : ℕ) → is_recorded words k ≡ false → words (PointOf (suc k)) ≡ 0
  blank-held k none = (held.blank (suc k) (by_record (record_at words k) none)).point
    where
      by_record : (o : Option Record) → is_some o ≡ false → has_placed o ≡ false
      by_record None e = refl
      by_record (Some entry) e = cc

-- ---- crews

-- how often a worker is among so many from w on
times-from : (run : SharedRun) (words : Words) (worker : ℕ) (numbers : List ℕ)
    → times worker (map (member_of run words) numbers) ≡ count_by (λ w. w == worker) numbers
times-from run words worker [] = refl
times-from run words worker (w ∷ numbers) =
    omega (
      arith,
      times-cons (member_of run words w) (map (member_of run words) numbers) worker,
      sum_by-cons (λ n. cond (n == worker) 1 0) w numbers,
      times-from run words worker numbers,
    )

-- each worker of the run is among all once, and no other is
times-all : (run : SharedRun) (words : Words) (worker : ℕ) → times worker (crew_from run words 0 run.workers) ≡ once_if (nat_lt worker run.workers)
times-all run words worker =
    times-from run words worker (range_with_len 0 run.workers) ∙ elim (cases_lt worker run.workers) [
      | inl low ↦
          count-single (λ w. w == worker) run.workers worker low (eq-eqb worker worker refl) (λ w apart. ne_eqb w worker apart)
          ∙ sym (ap once_if (lt-ltb worker run.workers low))
      | inr past ↦
          count-none (λ w. w == worker) run.workers (λ w low. ne_eqb w worker (λ e. omega (arith, low, past, e)))
          ∙ sym (ap once_if (le-ltb worker run.workers past))
    ]

-- the member at a place
crew-at : (run : SharedRun) (words : Words) (numbers : List ℕ) (i : ℕ) (member : Member) → get_elem? (map (member_of run words) numbers) i ≡ some member
    → (w : ℕ) × (member ≡ member_of run words w)
crew-at run words [] i member e = absurd (some-ne-none member (sym e))
crew-at run words (w ∷ numbers) zero member e = (w, sym (some-injective (member_of run words w) member e))
crew-at run words (w ∷ numbers) (suc i) member e = crew-at run words numbers i member e

-- ---- the words of a closed run

-- what is read of a word fits one
FitsWord-read : (number word first : ℕ) → FitsWord (record_in number word first)
FitsWord-read number word first = by_number number
  where
    worker : worker_in word < 2 ^ 6
    worker = mod_below word (2 ^ 6) (omega arith)

    turn : turn_in word < 2 ^ 18
    turn = mod_below (word / 2 ^ 6) (2 ^ 18) (omega arith)

    nearest : word / 2 ^ 24 % 2 ^ 18 < 2 ^ 18
    nearest = mod_below (word / 2 ^ 24) (2 ^ 18) (omega arith)

    last : word / 2 ^ 44 % 2 ^ 18 < 2 ^ 18
    last = mod_below (word / 2 ^ 44) (2 ^ 18) (omega arith)

    by_number : (n : ℕ) → FitsWord (record_in n word first)
    by_number (suc (suc zero)) = record { worker = worker; turn = turn; nearest = nearest; last = omega arith }
    by_number n = record { worker = worker; turn = turn; nearest = nearest; last = omega (arith, last) }

-- the record that a word holds is the one that is read
record_in_word : (word first : ℕ) (entry : Record) → record_of_word word first ≡ Some entry → entry ≡ record_in (outcome_in word) word first
record_in_word word first entry e = by_test (nat_lt word (2 ^ 63)) e
  where
    by_test : (b : Bool) → cond b None (Some (record_in (outcome_in word) word first)) ≡ Some entry → entry ≡ record_in (outcome_in word) word first
    by_test true h = cc
    by_test false h = sym (same_Some (record_in (outcome_in word) word first) entry h)

module _ (task : Task) (limit : ℕ) (words : Words) (held : HoldRun task limit words) where
  pub HaveWholePairs-held : HaveWholePairs words
  HaveWholePairs-held n =
      elim (cases_Bool (has_node words n)) [
        | inl here ↦ inr (omega (arith, (held.written n (node_present task limit words held n here)).tree))
        | inr gone ↦ inl (held.blank n gone).tree
      ]

  within : (k : ℕ) (entry : Record) → record_at words k ≡ Some entry → k < limit
  within k entry e =
      elim (cases_lt k limit) [
        | inl low ↦ low
        | inr past ↦ (let none = sym (held.closed.records.none_else k past) ∙ e in cc)
      ]

  recorded_once : (k : ℕ) → once_if (is_recorded words k) ≡ once_if (is_claimed task.scene.strips (counters words) k)
  recorded_once k =
      let some_strip : 0 < task.scene.strips = omega (arith, task.scene.strips_low) in
      elim (cases_lt k limit) [
        | inl low ↦ ap once_if (held.closed.records.recorded k low
            ∙ sym (is_claimed-below task.scene.strips some_strip (counters words) limit held.claimed k low))
        | inr past ↦
            ap (λ o. once_if (is_some o)) (held.closed.records.none_else k past)
            ∙ sym (ap once_if (is_claimed-past task.scene.strips some_strip (counters words) limit held.claimed k past))
      ]

  packed_record : (k : ℕ) → IsRecordWord (words (RecordOf k))
  packed_record k = by_record (record_at words k) refl
    where
      by_record : (o : Option Record) → record_at words k ≡ o → IsRecordWord (words (RecordOf k))
      by_record (Some entry) e =
          inr (
            entry,
            subst FitsWord (sym (record_in_word (words (RecordOf k)) (words (FirstOf (suc k))) entry e))
                (FitsWord-read (outcome_in (words (RecordOf k))) (words (RecordOf k)) (words (FirstOf (suc k)))),
            held.recorded k entry e,
          )
      by_record None e =
          elim (cases_lt k limit) [
            | inl low ↦ (let gone = sym (ap is_some e) ∙ held.closed.records.recorded k low in cc)
            | inr past ↦ inl (held.unrecorded k past)
          ]

  -- the linked nodes keep the order law, as the closed law says
  Trees-held : (workers : ℕ) → Trees (run_of task workers limit) words
  Trees-held workers = record {
    order = subst (KeepsOrder (setup_of task.scene)) (sym (state_by-closed task limit words held)) held.closed.order;
    first_costs = subst (KeepsFirstCosts (setup_of task.scene)) (sym (state_by-closed task limit words held))
        (KeepsFirstCosts-closed (setup_of task.scene) task.marks limit (state_of_words (sizes_of task) words) held.closed);
    written = λ n linked. held.written n (node_present task limit words held n (sym (is_linked-closed task limit words held n) ∙ linked));
    start_first = held.start_first;
  }

-- ---- the first world

-- of a single view
only : (view : View) (has : View → Type 0) → has view → EachView (view ∷ []) has
only view has own zero u e = subst has (some-injective view u e) own
only view has own (suc i) u e = absurd (some-ne-none u (sym e))

pub IsWorld-started :
    (task : Task) (limit workers : ℕ) (items : List ℕ) → length items ≡ word_count (sizes_of task) → HoldRun task limit (run_words task items)
    → IsLeastBest (skipping_goals task.scene) (state_of_words (sizes_of task) (run_words task items)) (run_words task items Best)
    → 1 ≤ workers → workers ≤ MOST_WORKERS → IsWorld (run_of task workers limit) (run_words task items) (newcomer (run_of task workers limit) items ∷ [])
IsWorld-started task limit workers items sized held least some_worker few =
    let run : SharedRun = run_of task workers limit in
    let words : Words = run_words task items in
    let first : View = newcomer run items in
    let all : share first ≡ workers = length-map (range_with_len 0 workers) (member_of run words) ∙ length-range_with_len 0 workers in
    let trees : Trees run words = Trees-held task limit words held workers in
    let sees_tree : SeesTree first = SeesTree-started task limit workers items held in
    record {
      run_is = record {
        strips = (omega (arith, task.scene.strips_low), task.scene.strips_high);
        marks = length-marks task;
        points = IsBounded-mark task;
        start = IsBounded-start task limit words held;
        step = step-steers task.scene;
        workers = (some_worker, few);
        opening = held.closed.within;
      };
      of_run = only first (λ u. (u ≡ spent) ⊎ IsViewOf run u) (inr (record {
        run_is = refl;
        seen = sized;
        looked = length-replicate (length items) 0 ∙ sized;
        found_zero = length-replicate (length items) 0 ∙ sized;
        looks = λ name. omega (arith, zero-read (run_sizes run) (length items) name);
        zero_looks = λ name. omega (arith, zero-read (run_sizes run) (length items) name);
      }));
      numbers = record {
        quotas = λ g strip. omega (arith, held.claimed g strip, quota-up run.strips g limit (greatest_limit (first ∷ [])) strip (binds all));
        each_once = λ k. omega (arith, recorded_once task limit words held k);
        limits = only first (λ u. u.most ≤ length task.marks) held.closed.within;
        packed = packed_record task limit words held;
      };
      turns = record {
        workers = AreTurns-longer (record_at words) limit (length task.marks) held.closed.within (within task limit words held) held.closed.turns;
        members = only first (λ u. (i : ℕ) (member : Member) → get_elem? u.crew i ≡ some member → IsMember run words u member)
            (λ i member e. (let found = crew-at run words (range_with_len 0 workers) i member e in record {
              turn = ap (λ m. m.turn) found.1 ∙ sym (ap (λ m. turns_of (record_at words) (length task.marks) m.worker) found.1);
              own = λ k of. refl;
            }));
        in_one_crew = λ w. omega (arith, times-all run words w);
      };
      shares = record {
        add_up = omega (arith, all);
        idle = only first (λ u. share u ≡ 0 → u.hand ≡ None) (λ none. refl);
      };
      seen = record {
        behind = only first (λ u. AreBehind (sees u) words) (AreBehind-refl words);
        took = only first (λ u. AreBehind (took_over u) (sees u)) (AreBehind-nothing (run_sizes run) words);
        pairs = HaveWholePairs-held task limit words held;
        pairs_seen = only first (λ u. HaveWholePairs (sees u)) (HaveWholePairs-held task limit words held);
        agree = only first (λ one. EachView (first ∷ []) (λ other. Agree (sees one) (sees other)))
            (only first (λ other. Agree (sees first) (sees other)) (λ n written also same. refl));
      };
      links = record {
        start = start-held task limit words held;
        ways = FollowWays-held task limit words held;
        linked = λ k. omega (arith, ap once_if (is_linked-closed task limit words held (suc k)));
        count = count-held task limit words held
            ∙ ap (λ n. 1 + n) (sum-same (λ k. once_if (has_node words (suc k))) (counted_once words (first ∷ [])) (length task.marks) (λ k low. omega arith));
      };
      trees = trees;
      pairs = record {
        first = only first (HasFirst run words) (λ hand held. cc);
        tree = only first (HasTree words) (λ hand held. cc);
        no_first = λ k none no_hand. (held.blank (suc k) (unplaced k none)).first;
        no_tree = λ k none no_hand. (held.blank (suc k) (unplaced k none)).tree;
      };
      seen_pairs = only first (λ u. u.run ≡ run → AreSeenLawfully (setup_in run) (tree_seen u) (state_in run words))
          (λ of. AreSeenLawfully-all run words trees first (λ n. refl) sees_tree
          (IsPresent-seen first words (AreBehind-refl words) sees_tree (FollowWays-held task limit words held)));
      hands = record {
        written = only first (IsWrittenFor words) (λ hand held. cc);
        blank = λ k none no_hand. blank-held task limit words held k none;
      };
      records = Records-held task limit workers words held;
      sights = only first (λ u. u.run ≡ run → SeesTree u) (λ of. sees_tree);
      copies = λ name told. record { id = 0; view = first; at = refl; run_is = refl; part = omega (arith, all, some_worker); same = refl };
      best_copy = record { id = 0; view = first; at = refl; run_is = refl; part = omega (arith, all, some_worker); same = refl };
      notes = record {
        made = λ note now. absurd (none_noted note now);
        still = λ note now. absurd (none_noted note now);
        fresh = λ i u e live note now. absurd (none_noted note now);
        noted = λ i u e live name may differs. absurd (differs (only first (λ v. last_seen v name ≡ words name) (as_it_is name) i u e));
      };
      empties = λ n side some_child i u e.
          inl (only first (λ v. last_zero v (ChildOf n side) ≡ 0) (zero-read (run_sizes run) (length items) (ChildOf n side)) i u e);
      best = best trees sees_tree;
      bests = only first (λ u. u.run ≡ run → SeesBest run words u) (λ of. record {
        pair = (best trees sees_tree).pair;
        falls = le_refl (words Best);
        placed = least-now words first (AreBehind-refl words) sees_tree (FollowWays-held task limit words held) held.start_first (best trees sees_tree);
        taken_pair = λ hand word gone has. cc;
        taken = λ hand word gone has. cc;
        posted = λ hand gone far. cc;
      });
    }
  where
    -- nothing is noted yet, and each word is seen as it is
    none_noted : (note : Note) → IsNoted (newcomer (run_of task workers limit) items ∷ []) note → ⊥
    none_noted note now = only (newcomer (run_of task workers limit) items) (λ v. ¬ HasNoted v note) (λ has. has) now.id now.view now.at now.has

    as_it_is : (name : Word) → last_seen (newcomer (run_of task workers limit) items) name ≡ run_words task items name
    as_it_is Best = refl
    as_it_is name = refl

    -- the goal nodes are those of the run at rest, and none costs more than it was placed at
    best : Trees (run_of task workers limit) (run_words task items) → SeesTree (newcomer (run_of task workers limit) items)
        → BestWord (run_of task workers limit) (run_words task items)
    best trees sees_tree =
        let words : Words = run_words task items in
        let same = state_by-closed task limit words held in
        let linked_least = subst (λ state. IsLeastBest (skipping_goals task.scene) state (words Best)) (sym same) least in
        record {
          pair = λ some_pair.
              let is = linked_least.pair some_pair in
              let kept = mod_below (words (TreeOf (best_node_in (words Best))) / 2 ^ 18) (2 ^ 44) (omega arith) in
              (is.0, omega (arith, is.1), omega (arith, is.1, kept));
          placed = λ n node goal.
              let low = linked_least.least n goal in
              let kept = trees.first_costs.kept n (IsPresent-goal (skipping_goals task.scene) (point_at (linked_points (sizes_of task) words) n) goal) in
              omega (arith, low, kept, first_cost n node);
        }
      where
        first_cost : (n : ℕ) → has_node (run_words task items) n ≡ true
            → first_cost_of (state_in (run_of task workers limit) (run_words task items)) n ≡ cost_in (run_words task items (FirstOf n))
        first_cost zero node = sym (ap cost_in held.start_first)
        first_cost (suc k) node = by_record (record_at (run_words task items) k) refl
          where
            by_record : (o : Option Record) → record_at (run_words task items) k ≡ o
                → recorded_or (cost_in (run_words task items (FirstOf (suc k)))) o ≡ cost_in (run_words task items (FirstOf (suc k)))
            by_record None e = refl
            by_record (Some entry) e =
                placed-first (run_words task items (RecordOf k)) (run_words task items (FirstOf (suc k))) entry e (ap has_placed (sym e) ∙ node)

    unplaced : (k : ℕ) → is_recorded (run_words task items) k ≡ false → has_node (run_words task items) (suc k) ≡ false
    unplaced k none = once_if-false (has_node (run_words task items) (suc k)) (omega (arith, has_node-recorded (run_words task items) k, ap once_if none))

    binds : share (newcomer (run_of task workers limit) items) ≡ workers → limit ≤ greatest_limit (newcomer (run_of task workers limit) items ∷ [])
    binds all = subst (λ n. limit ≤ max (cond (n == 0) 0 limit) 0) (sym all) (by_test (workers == 0) refl)
      where
        by_test : (b : Bool) → (workers == 0) ≡ b → limit ≤ max (cond b 0 limit) 0
        by_test true e = absurd (omega (arith, eqb-true workers 0 e, some_worker))
        by_test false e = omega arith
