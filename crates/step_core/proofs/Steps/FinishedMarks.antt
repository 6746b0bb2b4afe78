-- The record of the mark in hand keeps the law of worlds.
use Rattle.step_core.proofs.Words.{◌≡◌, ◌*◌, ◌+◌, ◌/◌, ◌%◌, ◌<◌, ◌≤◌, ◌^◌, ◌≢◌, ◌∷◌, ◌∙◌, ◌⊎◌, ◌==◌, ℕ, zero, suc, Bool, true, List, length, set, Some, refl}
use Rattle.step_core.proofs.Words.{sym, ap, subst, inl, inr, arith, le_refl, IsTrue, nat_lt, is_some, some, get_elem?, cases_eq, eq-eqb, ne_eqb, div-mul-add}
use Rattle.step_core.proofs.Words.{mod-mul-add, is_claimed, ending_as, IsGoalNode, is_goal_point, StandsAt, point_at, GrowsInto, once_if, turns_of, Outcome}
use Rattle.step_core.proofs.Words.{Blocked, Placed, Same, Skipped, Record, is_placed, has_node, has_placed, record_at, AreBehind, Words, WritesWord, Best}
use Rattle.step_core.proofs.Words.{ChildOf, Counter, FirstOf, PointOf, RecordOf, TreeOf, FitsWord, IsFirstWord, IsTurnWord, best_word, cost_in, last_field}
use Rattle.step_core.proofs.Words.{number_of_outcome, record_of_word, record_word, turn_in, worker_in, record_of_word-packed, cost_in-tree_word, IsLoaded}
use Rattle.step_core.proofs.Words.{IsAtMostPlaced, SeesGoal, seen_first_cost, MayEnd, MayRecord, linked_points, MayBeRecorded, has_count, has_link, MayFinish}
use Rattle.step_core.proofs.Words.{SeesPoint, SeesTree, finished, one_turn_more, saw, holds, run_sizes, sees, share, tree_seen, BestWord, IsBestWord}
use Rattle.step_core.proofs.Words.{IsRecordWord, IsWorld, Records, SeesBest, counters, is_recorded, state_in, Hand, Member, SharedRun, Posted, View}
use Rattle.step_core.proofs.Steps.FinishedTurns.{Turns-finished, change}
use Rattle.step_core.proofs.Parts.LawfulRecords.{HasCome, IsFirstWord-seen, IsLawfulRecord-seen, has_come}
use Rattle.step_core.proofs.OneView.LawfulSights.{IsTrueOf-seen}
use Rattle.step_core.proofs.Parts.MarksInHand.{IsInHand, in_hand}
use Rattle.step_core.proofs.Seen.SeenWords.{has_node-same, has_placed-record_word, same_once}
use Rattle.step_core.proofs.Seen.Looks.{AreBehind-write, HaveWholePairs-write}
use Rattle.step_core.proofs.Seen.SeenByViews.{IsViewOf-saw, WritesWord-looked, WritesWord-saw}
use Rattle.step_core.proofs.OneView.SeenTreesOfViews.{SeesTree-finished}
use Rattle.step_core.proofs.OneView.SeenViews.{SeesPoint-later}
use Rattle.step_core.proofs.Parts.WorldBests.{BestWord-step, IsBestWord-grows, SeesBest-goes_on, goal-seen_before, same_first_cost, SeenBests-step}
use Rattle.step_core.proofs.Parts.NotedSteps.{KeepsNotes, KeepsNotes-kept, LeavesNotes-none, shown-one}
use Rattle.step_core.proofs.Parts.Shifts.{IsShift, shift_at, Shift}
use Rattle.step_core.proofs.Parts.WorldNotes.{last_zero-saw}
use Rattle.step_core.proofs.Parts.WorldHands.{Hands-recorded}
use Rattle.step_core.proofs.Parts.WorldCopies.{BestCopy-step, Copies-seen}
use Rattle.step_core.proofs.Parts.WorldLinks.{KeepsLinks, LinkedTree-recorded}
use Rattle.step_core.proofs.Parts.WorldPairs.{Pairs-recorded}
use Rattle.step_core.proofs.Parts.WorldParts.{ClaimedMarks-step, record_word-none, SeenBehind-step, Shares-step, of_run-step, quotas-kept, SeesOn, SeesOn-saw}
use Rattle.step_core.proofs.Parts.WorldParts.{TreesSeen-step, limit-up}
use Rattle.step_core.proofs.Steps.WorldSteps.{follow, live, tree}
use Rattle.step_core.proofs.Whole.WholeCopies.{worker-below}
use Rattle.step_core.proofs.Parts.WorldRecords.{Records-recorded, SeenPairs-step}
use Rattle.step_core.proofs.Parts.WorldTrees.{Trees-kept, GrowsInto-step}

module _ (run : SharedRun) (words after : Words) (views : List View) (id : ℕ) (view : View) (world : IsWorld run words views)
    (at : get_elem? views id ≡ some view) (own : view.run ≡ run) (hand : Hand) (held : view.hand ≡ Some hand) (member : Member)
    (crew : List Member) (crew_is : view.crew ≡ member ∷ crew) (x : ℕ) (written : 2 ^ 63 ≤ x) (worker : worker_in x ≡ member.worker)
    (turn : turn_in x ≡ member.turn) (is_packed : IsRecordWord x) (writes : WritesWord (RecordOf hand.mark) x words after) (placed : Bool)
    (reads : (first : ℕ) → has_placed (record_of_word x first) ≡ placed) (linked : placed ≡ has_link hand.stage) (counted : placed ≡ has_count hand.stage)
    (tree_then : SeesTree (finished view hand.mark x)) (records_then : IsShift (shift_at run words views id view (finished view hand.mark x) after)
    → GrowsInto (state_in run words) (state_in run after) → Records run after)
    (least : placed ≡ true → IsTrue (is_goal_point run.goals (Some hand.point)) → view.best ≤ best_word hand.cost (suc hand.mark)) where
  abbrev k : ℕ
  k = hand.mark

  abbrev then : View
  then = finished view k x

  mark : IsInHand run words views world.run_is.strips.0 world.numbers k
  mark = in_hand run words views id view world at hand held

  go : AreBehind words after
  go = AreBehind-write (RecordOf k) x words after writes (inl (record_word-none (words (RecordOf k)) (words (FirstOf (suc k)))
      (world.numbers.packed k) mark.absent))

  same_share : share then ≡ share view
  same_share = ap (λ l. length (one_turn_more l)) crew_is ∙ sym (ap (λ l. length l) crew_is)

  balance :
      (j : ℕ) → once_if (is_recorded after j) + once_if (holds j then.hand) + once_if (is_claimed run.strips (counters words) j)
      ≡ once_if (is_recorded words j) + once_if (holds j view.hand) + once_if (is_claimed run.strips (counters after) j)
  balance j =
      let in_hand : once_if (holds j view.hand) ≡ once_if (k == j) = ap once_if (ap (holds j) held) in
      let claims : once_if (is_claimed run.strips (counters after) j) ≡ once_if (is_claimed run.strips (counters words) j) =
      ap (λ n. once_if (nat_lt (j / run.strips) n)) (writes.others (Counter (j % run.strips)) (λ e. cc)) in
      let new = change run words after views id view member crew k x world.turns at crew_is mark.low mark.absent writes written worker turn in
      elim (cases_eq k j) [
        | inl e ↦ (
            let was : once_if (is_recorded words j) ≡ 0 = ap (λ o. once_if (is_some o)) (ap (record_at words) (sym e) ∙ mark.absent) in
            let now : once_if (is_recorded after j) ≡ 1 = ap (λ o. once_if (is_some o)) (ap (record_at after) (sym e) ∙ new.recorded) in
            let here : once_if (k == j) ≡ 1 = ap once_if (eq-eqb k j e) in
            omega (arith, in_hand, claims, was, now, here))
        | inr apart ↦ (
            let same = ap (λ o. once_if (is_some o)) (new.others j (λ e. apart (sym e))) in
            let here : once_if (k == j) ≡ 0 = ap once_if (ne_eqb k j apart) in
            omega (arith, in_hand, claims, same, here))
      ]

  packed : (j : ℕ) → IsRecordWord (after (RecordOf j))
  packed j =
      elim (cases_eq j k) [
        | inl e ↦ subst IsRecordWord (sym (ap (λ i. after (RecordOf i)) e ∙ writes.here)) is_packed
        | inr apart ↦ subst IsRecordWord (sym (writes.others (RecordOf j) (λ e. apart cc))) (world.numbers.packed j)
      ]

  abbrev s : Shift
  s = shift_at run words views id view then after

  shift : IsShift s
  shift = record {
    moment = record { world = world; at = at; own = own };
    of_run =
        let v = IsViewOf-saw run view (live run words views id view world at own) (RecordOf k) mark.low x x in
        record { run_is = v.run_is; seen = v.seen; looked = v.looked; found_zero = v.found_zero; looks = v.looks; zero_looks = v.zero_looks };
    one_more = refl;
    go = go;
    best = omega (arith, writes.others Best (λ e. cc));
  }

  pub IsWorld-finished : IsWorld run after (set views id then)
  IsWorld-finished =
      let of_run = live run words views id view world at own in
      let saw_it = WritesWord-saw run view of_run (RecordOf k) mark.low x x in
      let on : SeesOn s = SeesOn-saw shift (RecordOf k) x saw_it writes.here refl (HaveWholePairs-write writes (λ n e. cc) world.seen.pairs) in
      let numbers = ClaimedMarks-step shift
      (quotas-kept run words after views (set views id then) world.numbers (λ g within. writes.others (Counter g) (λ e. cc))
      (limit-up shift same_share (le_refl view.most))) balance (world.numbers.limits id view at) packed in
      let links = LinkedTree-recorded shift held x placed reads linked counted writes refl in
      let grows = GrowsInto-step shift numbers links in
      let trees = Trees-kept shift numbers links keeps_links (λ n h. writes.others (TreeOf n) (λ e. cc)) (λ n h. writes.others (FirstOf n) (λ e. cc)) in
      let kept : KeepsNotes s = KeepsNotes-kept shift
      (LeavesNotes-none shift refl (λ name told. inl (writes.others name (λ e. subst (IsLoaded run) e told))) (λ n seen. writes.others (FirstOf n) (λ e. cc))
      (shown-one shift (RecordOf k) (λ e. cc) (view.steps + 1) x (WritesWord-looked run view of_run (RecordOf k) mark.low x x) saw_it writes.here refl))
      keeps_links.children (λ n side some_child. last_zero-saw run view of_run (RecordOf k) mark.low x x (ChildOf n side) (λ e. cc)) in
      let stays : 0 < share view → 0 < share then = λ part. omega (arith, part, same_share) in
      record {
        run_is = world.run_is;
        of_run = of_run-step shift;
        numbers = numbers;
        turns = Turns-finished run words after views id view member crew k x world.turns at crew_is mark.low mark.absent writes written worker turn saw_it;
        shares = Shares-step shift same_share (λ none. refl);
        seen = SeenBehind-step shift on;
        links = links;
        trees = trees;
        hands = Hands-recorded shift hand held refl (λ n. writes.others (PointOf n) (λ e. cc)) recorded others;
        pairs = Pairs-recorded shift grows (λ n. writes.others (FirstOf n) (λ e. cc)) (λ n h. writes.others (TreeOf n) (λ e. cc)) hand held refl recorded
            others;
        seen_pairs = SeenPairs-step shift on grows trees links tree_then;
        records = records_then shift grows;
        sights = TreesSeen-step shift tree_then;
        copies = Copies-seen shift on stays (RecordOf k) x writes keeps_links some_share saw_it.here;
        best_copy = BestCopy-step shift stays same_best (λ saw. saw ∙ sym same_best);
        notes = kept.notes;
        empties = kept.empties;
        best = best_then grows;
        bests = SeenBests-step shift grows (knows_best grows on.more saw_it);
      }
    where
      same_best : after Best ≡ words Best
      same_best = writes.others Best (λ e. cc)

      knew : SeesBest run words view
      knew = world.bests id view at own

      sees_tree : SeesTree view
      sees_tree = tree run words views id view world at own

      -- A node that is recorded as placed is that of the hand.
      come : placed ≡ true → HasCome hand.stage
      come is = has_come hand.stage (sym counted ∙ is)

      shown : placed ≡ true → SeesPoint view (suc k) hand.point
      shown is = (sees_tree.holds hand held).shown (come is).link

      stands_now : placed ≡ true → StandsAt (linked_points (run_sizes run) words) (suc k) hand.point
      stands_now is =
          subst (λ r. StandsAt (linked_points (run_sizes r) words) (suc k) hand.point) own
          ((IsTrueOf-seen view words (world.seen.behind id view at) sees_tree (follow run words views id view world at own)).places.nodes (suc k) hand.point
          (shown is))

      first_word : placed ≡ true → cost_in (words (FirstOf (suc k))) ≡ hand.cost
      first_word is =
          let first = world.pairs.first id view at hand held (come is).first in
          ap cost_in first.word ∙ cost_in-tree_word hand.parent hand.cost first.fits.0 first.fits.1

      placed_by : (first : ℕ) (word : ℕ) → word ≡ x → has_placed (record_of_word word first) ≡ true → placed ≡ true
      placed_by first word is h = sym (reads first) ∙ ap (λ w. has_placed (record_of_word w first)) (sym is) ∙ h

      best_then : GrowsInto (state_in run words) (state_in run after) → BestWord run after
      best_then grows =
          BestWord-step shift grows (subst (IsBestWord run after) (sym same_best) (IsBestWord-grows run words after grows (words Best) world.best.pair)) nodes
        where
          nodes : (n : ℕ) → has_node after n ≡ true → IsGoalNode run.goals (linked_points (run_sizes run) after) n
              → (has_node words n ≡ true) ⊎ (after Best ≤ best_word (cost_in (after (FirstOf n))) n)
          nodes zero h goal = inl refl
          nodes (suc j) h goal =
              elim (cases_eq j k) [
                | inr apart ↦ inl (sym (has_node-same words after j (writes.others (RecordOf j) (λ e. apart cc))) ∙ h)
                | inl e ↦ (
                    let is = placed_by (after (FirstOf (suc j))) (after (RecordOf j)) (ap (λ i. after (RecordOf i)) e ∙ writes.here) h in
                    let at_point = ap (point_at (linked_points (run_sizes run) after)) (ap suc e) ∙ grows.nodes (suc k) hand.point (stands_now is) in
                    let low = least is (subst (λ o. IsTrue (is_goal_point run.goals o)) at_point goal) in
                    let first = ap (λ i. cost_in (after (FirstOf (suc i)))) e ∙ ap cost_in (writes.others (FirstOf (suc k)) (λ f. cc)) ∙ first_word is in
                    inr (omega (arith, same_best, knew.falls, low, first, e)))
              ]

      knows_best : GrowsInto (state_in run words) (state_in run after) → AreBehind (sees view) (sees then)
          → WritesWord (RecordOf k) x (sees view) (sees then) → SeesBest run after then
      knows_best grows seen saw_it =
          let saw = SeesBest-goes_on run words after grows (omega (arith, same_best)) view knew in
          record {
            pair = saw.pair;
            falls = saw.falls;
            placed = least_then;
            taken_pair = λ other word gone has. cc;
            taken = λ other word gone has. cc;
            posted = λ other gone far. cc;
          }
        where
          was_so : (n : ℕ) → has_node (sees view) n ≡ true → SeesGoal then n → view.best ≤ best_word (seen_first_cost then n) n
          was_so n h goal =
              subst (λ c. view.best ≤ best_word c n) (sym (same_first_cost view then refl seen sees_tree n h))
              (knew.placed n h (goal-seen_before view then refl seen sees_tree n h goal))

          least_then : IsAtMostPlaced then view.best
          least_then zero h goal = was_so zero refl goal
          least_then (suc j) h goal =
              elim (cases_eq j k) [
                | inr apart ↦ was_so (suc j) (sym (has_node-same (sees view) (sees then) j (saw_it.others (RecordOf j) (λ e. apart cc))) ∙ h) goal
                | inl e ↦ (
                    let is = placed_by (sees then (FirstOf (suc j))) (sees then (RecordOf j)) (ap (λ i. sees then (RecordOf i)) e ∙ saw_it.here) h in
                    let at_point = ap (point_at (tree_seen then).points) (ap suc e) ∙ SeesPoint-later view then refl seen (suc k) hand.point (shown is) in
                    let low = least is (subst (λ r. IsTrue (is_goal_point r.goals (Some hand.point))) own
                    (subst (λ o. IsTrue (is_goal_point view.run.goals o)) at_point goal)) in
                    let now : sees view (FirstOf (suc k)) ≡ words (FirstOf (suc k)) =
                    same_once (world.seen.behind id view at (FirstOf (suc k))) (omega (arith, (sees_tree.holds hand held).first_shown (come is).link)) in
                    let first = ap (λ i. cost_in (sees then (FirstOf (suc i)))) e ∙ ap cost_in (saw_it.others (FirstOf (suc k)) (λ f. cc) ∙ now)
                    ∙ first_word is in
                    omega (arith, low, first, e))
              ]

      keeps_links : KeepsLinks (run_sizes run) words after
      keeps_links = record { children = λ n side. writes.others (ChildOf n side) (λ e. cc); points = λ n h. writes.others (PointOf n) (λ e. cc) }

      some_share : 0 < share then
      some_share = omega (arith, same_share, ap (λ l. length l) crew_is)

      recorded : is_recorded after k ≡ true
      recorded =
          ap is_some (change run words after views id view member crew k x world.turns at crew_is mark.low mark.absent writes written worker turn).recorded

      others : (j : ℕ) → j ≢ k → is_recorded after j ≡ is_recorded words j
      others j apart =
          ap is_some
          ((change run words after views id view member crew k x world.turns at crew_is mark.low mark.absent writes written worker turn).others j apart)

-- no record of a mark in hand was seen
pub none_seen :
    (run : SharedRun) (words : Words) (views : List View) (id : ℕ) (view : View) → IsWorld run words views → get_elem? views id ≡ some view
    → (hand : Hand) → view.hand ≡ Some hand → sees view (RecordOf hand.mark) ≡ 0
none_seen run words views id view world at hand held =
    let mark = in_hand run words views id view world at hand held in
    let none = record_word-none (words (RecordOf hand.mark)) (words (FirstOf (suc hand.mark))) (world.numbers.packed hand.mark) mark.absent in
    elim (world.seen.behind id view at (RecordOf hand.mark)) [
      | inl unseen ↦ unseen
      | inr same ↦ same ∙ none
    ]

-- the words go on by a record
pub AreBehind-finished :
    (run : SharedRun) (words after : Words) (views : List View) (id : ℕ) (view : View) → IsWorld run words views → get_elem? views id ≡ some view
    → (hand : Hand) → view.hand ≡ Some hand → (x : ℕ) → WritesWord (RecordOf hand.mark) x words after → AreBehind words after
AreBehind-finished run words after views id view world at hand held x writes =
    let mark = in_hand run words views id view world at hand held in
    AreBehind-write (RecordOf hand.mark) x words after writes
    (inl (record_word-none (words (RecordOf hand.mark)) (words (FirstOf (suc hand.mark))) (world.numbers.packed hand.mark) mark.absent))

-- ---- the word of a record

-- A packed word says whose record it is, and of which turn.
pub IsTurnWord-packed : (entry : Record) → FitsWord entry → IsTurnWord entry.worker entry.turn (record_word entry)
IsTurnWord-packed entry fits =
    let last : ℕ = last_field entry.outcome entry.class in
    let number : ℕ = number_of_outcome entry.outcome in
    let upper : ℕ = 2 ^ 39 + last * 2 ^ 20 + number * 2 ^ 18 + entry.nearest in
    let whole : record_word entry ≡ (upper * 2 ^ 18 + entry.turn) * 2 ^ 6 + entry.worker = omega arith in
    record {
      written = omega arith;
      worker_is = ap worker_in whole ∙ mod-mul-add (upper * 2 ^ 18 + entry.turn) (2 ^ 6) entry.worker fits.worker;
      turn_is =
          ap turn_in whole ∙ ap (λ n. n % 2 ^ 18) (div-mul-add (upper * 2 ^ 18 + entry.turn) (2 ^ 6) entry.worker fits.worker)
          ∙ mod-mul-add upper (2 ^ 18) entry.turn fits.turn;
    }

-- the records with it
Records-finished :
    {s : Shift} → IsShift s → (hand : Hand) (entry : Record) → MayFinish s.now.view hand entry
    → WritesWord (RecordOf hand.mark) (record_word entry) s.now.words s.after → GrowsInto (state_in s.now.run s.now.words) (state_in s.now.run s.after)
    → Records s.now.run s.after
Records-finished {s} is hand entry made writes grows =
    let says = IsTurnWord-packed entry made.fits in
    let world = is.moment.world in
    let mark = in_hand s.now.run s.now.words s.now.views s.now.id s.now.view world is.moment.at hand made.held in
    let stored = change s.now.run s.now.words s.after s.now.views s.now.id s.now.view made.member made.crew hand.mark (record_word entry) world.turns
    is.moment.at made.first mark.low mark.absent writes says.written (says.worker_is ∙ made.worker) (says.turn_is ∙ made.turn) in
    let same_first : s.after (FirstOf (suc hand.mark)) ≡ s.now.words (FirstOf (suc hand.mark)) = writes.others (FirstOf (suc hand.mark)) (λ e. cc) in
    let first = subst (IsFirstWord entry) (sym same_first) (IsFirstWord-seen is.moment made) in
    let mate : get_elem? s.now.view.crew 0 ≡ some made.member = ap (λ l. get_elem? l 0) made.first in
    Records-recorded is grows hand.mark entry
    record {
      absent = mark.absent;
      recorded = ap (λ w. record_of_word w (s.after (FirstOf (suc hand.mark)))) writes.here
          ∙ record_of_word-packed entry (s.after (FirstOf (suc hand.mark))) made.fits first;
      others = stored.others;
    }
    (omega (arith, made.worker, worker-below s.now.run s.now.words s.now.views s.now.id s.now.view world is.moment.at 0 made.member mate))
    (made.turn ∙ (world.turns.members s.now.id s.now.view is.moment.at 0 made.member mate).turn
    ∙ ap (turns_of (record_at s.now.words) (length s.now.run.marks)) (sym made.worker)) (IsLawfulRecord-seen is.moment made)

-- the record of the mark in hand, by the first of the crew in its next turn, keeps the law
pub IsWorld-recorded :
    (run : SharedRun) (words after : Words) (views : List View) (id : ℕ) (view : View) → IsWorld run words views → get_elem? views id ≡ some view
    → view.run ≡ run → (hand : Hand) → view.hand ≡ Some hand → (member : Member) (crew : List Member) → view.crew ≡ member ∷ crew → (entry : Record)
    → FitsWord entry → entry.worker ≡ member.worker → entry.turn ≡ member.turn → MayBeRecorded hand.stage entry.outcome → MayRecord view hand entry
    → WritesWord (RecordOf hand.mark) (record_word entry) words after → IsWorld run after (set views id (finished view hand.mark (record_word entry)))
IsWorld-recorded run words after views id view world at own hand held member crew crew_is entry fits worker turn stage may writes =
    let made : MayFinish view hand entry = record {
      held = held;
      member = member;
      crew = crew;
      first = crew_is;
      fits = fits;
      worker = worker;
      turn = turn;
      stage = stage;
      true = may;
    } in
    let says = IsTurnWord-packed entry fits in
    let mark = in_hand run words views id view world at hand held in
    IsWorld-finished run words after views id view world at own hand held member crew crew_is (record_word entry) says.written (says.worker_is ∙ worker)
    (says.turn_is ∙ turn) (inr (entry, fits, refl)) writes (is_placed entry.outcome)
    (λ first. has_placed-record_word entry first fits) stage.linked stage.counted
    (SeesTree-finished run view (live run words views id view world at own) (tree run words views id view world at own) hand held mark.low
    (none_seen run words views id view world at hand held) entry fits stage)
    (λ is. Records-finished is hand entry made writes) (λ placed goal. (world.bests id view at own).posted hand held
    (by_outcome entry.outcome may placed (subst (λ r. IsTrue (is_goal_point r.goals (Some hand.point))) (sym own) goal)))
  where
    -- a goal node was posted
    by_outcome : (outcome : Outcome) → MayEnd view hand entry (ending_as entry outcome) → is_placed outcome ≡ true
        → IsTrue (is_goal_point view.run.goals (Some hand.point)) → hand.stage ≡ Posted
    by_outcome Placed ended is goal = ended.outcome.posted.0 goal
    by_outcome (Same j) ended is goal = cc
    by_outcome Blocked ended is goal = cc
    by_outcome Skipped ended is goal = cc
