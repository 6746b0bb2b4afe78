-- A load keeps the law of worlds, and so does a claim.
use Rattle.step_core.proofs.Words.{◌≡◌, ◌+◌, ◌*◌, ◌<◌, ◌≤◌, ◌∙◌, ◌≢◌, ◌⊎◌, ◌==◌, ◌/◌, ◌%◌, ℕ, max, Bool, true, false, List, length, set, None, refl, sym, ap}
use Rattle.step_core.proofs.Words.{subst, inl, inr, arith, le_refl, le_trans, cond, some, get_elem?, cases_eq, eqb-true, is_claimed, quota_of, once_if}
use Rattle.step_core.proofs.Words.{IsCutAt-quota, GrowsInto-refl, FollowWays, children_of_words, AreBehind, Word, Words, WritesWord, Best, ChildOf, Count}
use Rattle.step_core.proofs.Words.{Counter, FirstOf, PointOf, RecordOf, TreeOf, HasWord, AreBehind-refl, same_Some, linked_points, has_count, has_first}
use Rattle.step_core.proofs.Words.{has_link, has_point, has_tree, holds_at, claimed, loaded, mark_of, new_hand, saw, steps_then, MayLoad, SeesNode, SeesTree}
use Rattle.step_core.proofs.Words.{IsSharedRun, IsViewOf, holds, run_sizes, sees, share, spent, IsWorld, counters, greatest_limit, is_recorded, limit_of}
use Rattle.step_core.proofs.Words.{state_in, SharedRun, Stage, Claimed, View, BestCopy, BestWord, ClaimedMarks, Copies, Hands, LinkedTree, Pairs, SeenBests}
use Rattle.step_core.proofs.Words.{Trees, GrowsInto, nat_lt, IsRecordWord}
use Rattle.step_core.proofs.Parts.HandsAt.{holds_at-new}
use Rattle.step_core.proofs.OneView.LawfulSights.{SeesNode-within}
use Rattle.step_core.proofs.Parts.MarksInHand.{once_if-claimed}
use Rattle.step_core.proofs.Seen.Looks.{AreBehind-seen, AreBehind-write, HaveWholePairs-write}
use Rattle.step_core.proofs.Seen.SeenByViews.{IsViewOf-saw, WritesWord-looked, WritesWord-saw}
use Rattle.step_core.proofs.OneView.SeenTreesOfViews.{SeesTree-claimed, SeesTree-loaded}
use Rattle.step_core.proofs.Parts.ViewLists.{at-set, maximum-one}
use Rattle.step_core.proofs.Parts.WorldBests.{BestWord-kept, FollowsHand-new, FollowsHand-refl, SeenBests-kept, KeepsBest}
use Rattle.step_core.proofs.Parts.WorldCopies.{BestCopy-step, Copies-seen, Copies-step}
use Rattle.step_core.proofs.Parts.NotedSteps.{KeepsNotes, KeepsNotes-kept, LeavesNotes-none, LeavesNotes-one, shown-one}
use Rattle.step_core.proofs.Parts.Shifts.{IsShift, Shift, later_views, shift_at}
use Rattle.step_core.proofs.Parts.WorldNotes.{last_zero-saw}
use Rattle.step_core.proofs.Parts.WorldHands.{Hands-step}
use Rattle.step_core.proofs.Parts.WorldLinks.{KeepsLinks, LinkedTree-kept}
use Rattle.step_core.proofs.Parts.WorldPairs.{Pairs-same, Pairs-step}
use Rattle.step_core.proofs.Parts.WorldParts.{KeepsRecords, ClaimedMarks-step, SeenBehind-step, Shares-step, Turns-step, is_recorded-kept, of_run-step}
use Rattle.step_core.proofs.Parts.WorldParts.{quota-up, quotas-kept, SeesOn, SeesOn-saw, TreesSeen-step, limit-up}
use Rattle.step_core.proofs.Parts.WorldRecords.{Records-kept, SeenPairs-step}
use Rattle.step_core.proofs.Parts.WorldTrees.{Trees-kept, GrowsInto-step}

-- a view of the run is not spent
pub IsViewOf-live : (run : SharedRun) (view : View) → IsSharedRun run → view.run ≡ run → (view ≡ spent) ⊎ IsViewOf run view → IsViewOf run view
IsViewOf-live run view shared own (inr of_run) = of_run
IsViewOf-live run view shared own (inl gone) =
    let none : run.workers ≡ 0 = ap (λ r. r.workers) (sym own ∙ ap (λ v. v.run) gone) in absurd (omega (arith, none, shared.workers.0))

module _ (run : SharedRun) (words : Words) (views : List View) (id : ℕ) (view : View) (world : IsWorld run words views)
    (at : get_elem? views id ≡ some view) (own : view.run ≡ run) where
  pub live : IsViewOf run view
  live = IsViewOf-live run view world.run_is own (world.of_run id view at)

  pub tree : SeesTree view
  tree = world.sights id view at own

  -- its ways by the sizes of its own run
  pub follow : FollowWays (children_of_words words) (linked_points (run_sizes view.run) words)
  follow = subst (λ r. FollowWays (children_of_words words) (linked_points (run_sizes r) words)) (sym own) world.links.ways

  -- a seen node is one of the run's
  pub seen_within : (n : ℕ) → SeesNode view n → n ≤ length run.marks
  seen_within n h = subst (λ r. n ≤ length r.marks) own (SeesNode-within view words (world.seen.behind id view at) tree follow n h)

  -- so what may be loaded is a word of the run
  pub HasWord-load : (name : Word) → MayLoad view name → HasWord (run_sizes run) name
  HasWord-load Count may = tt
  HasWord-load (Counter g) may = subst (λ r. g < r.strips) own may
  HasWord-load (PointOf n) may = seen_within n may
  HasWord-load (ChildOf n side) may = seen_within n may
  HasWord-load (TreeOf n) may = seen_within n may
  HasWord-load name may = absurd may

-- ---- a step that leaves marks

-- No record and no counter changes, and the view keeps its crew, its limit, its mark in hand and the records that it has seen.
pub record KeepsMarks (s : Shift) : Type 0 where
  pub records : KeepsRecords s.now.words s.after
  pub counters : (g : ℕ) → s.after (Counter g) ≡ s.now.words (Counter g)
  pub crew : s.then.crew ≡ s.now.view.crew
  pub most : s.then.most ≡ s.now.view.most
  pub holds : (k : ℕ) → holds k s.then.hand ≡ holds k s.now.view.hand
  pub idle : share s.then ≡ 0 → s.then.hand ≡ None
  pub seen_records : (k : ℕ) → sees s.then (RecordOf k) ≡ sees s.now.view (RecordOf k)

module _ {s : Shift} (is : IsShift s) (keeps : KeepsMarks s) where
  same_share : share s.then ≡ share s.now.view
  same_share = ap (λ l. length l) keeps.crew

  pub numbers_kept : ClaimedMarks s.now.run s.after (later_views s)
  numbers_kept =
      ClaimedMarks-step is
      (quotas-kept s.now.run s.now.words s.after s.now.views (later_views s) is.moment.world.numbers (λ g within. keeps.counters g)
      (limit-up is same_share (omega (arith, keeps.most))))
      (λ k. omega (arith, ap once_if (is_recorded-kept s.now.words s.after keeps.records k), ap once_if (keeps.holds k), claims k))
      (omega (arith, keeps.most, is.moment.world.numbers.limits s.now.id s.now.view is.moment.at))
      (λ k. subst IsRecordWord (sym (keeps.records k)) (is.moment.world.numbers.packed k))
    where
      claims : (k : ℕ) → once_if (is_claimed s.now.run.strips (counters s.after) k) ≡ once_if (is_claimed s.now.run.strips (counters s.now.words) k)
      claims k = ap (λ n. once_if (nat_lt (k / s.now.run.strips) n)) (keeps.counters (k % s.now.run.strips))

  module _ (on : SeesOn s) (links : LinkedTree s.now.run s.after (later_views s)) where
    pub grows_kept : GrowsInto (state_in s.now.run s.now.words) (state_in s.now.run s.after)
    grows_kept = GrowsInto-step is numbers_kept links

    -- it keeps the law if it leaves the other parts as they must be
    pub IsWorld-kept :
        Trees s.now.run s.after → Hands s.after (later_views s) → Pairs s.now.run s.after (later_views s) → SeesTree s.then
        → Copies s.now.run s.after (later_views s) → BestCopy s.now.run s.after (later_views s) → KeepsNotes s → BestWord s.now.run s.after
        → SeenBests s.now.run s.after (later_views s) → IsWorld s.now.run s.after (later_views s)
    IsWorld-kept trees hands pairs tree_then copies best_copy kept best bests = record {
      run_is = is.moment.world.run_is;
      of_run = of_run-step is;
      numbers = numbers_kept;
      turns = Turns-step is keeps.records keeps.crew (λ k same. keeps.seen_records k ∙ same);
      shares = Shares-step is same_share keeps.idle;
      seen = SeenBehind-step is on;
      links = links;
      trees = trees;
      hands = hands;
      pairs = pairs;
      seen_pairs = SeenPairs-step is on grows_kept trees links tree_then;
      records = Records-kept is grows_kept keeps.records;
      sights = TreesSeen-step is tree_then;
      copies = copies;
      best_copy = best_copy;
      notes = kept.notes;
      empties = kept.empties;
      best = best;
      bests = bests;
    }

    -- so it does by a step that leaves the best word, and the best in hand
    pub IsWorld-leaves :
        KeepsBest s.now.words s.after s.now.view s.then → Trees s.now.run s.after → Hands s.after (later_views s)
        → Pairs s.now.run s.after (later_views s) → SeesTree s.then → Copies s.now.run s.after (later_views s) → KeepsNotes s
        → IsWorld s.now.run s.after (later_views s)
    IsWorld-leaves stays trees hands pairs tree_then copies kept =
        IsWorld-kept trees hands pairs tree_then copies
        (BestCopy-step is (λ part. omega (arith, part, same_share)) stays.word (λ saw. stays.seen ∙ saw ∙ sym stays.word)) kept
        (BestWord-kept is grows_kept stays.word keeps.records) (SeenBests-kept is grows_kept on.more keeps.seen_records stays)

-- ---- loads and claims

module _ (run : SharedRun) (words : Words) (views : List View) (id : ℕ) (view : View) (world : IsWorld run words views)
    (at : get_elem? views id ≡ some view) (own : view.run ≡ run) where
  of_run : IsViewOf run view
  of_run = live run words views id view world at own

  sees_tree : SeesTree view
  sees_tree = tree run words views id view world at own

  -- what was seen may become what is seen after a load
  pub AreBehind-loaded : (name : Word) → MayLoad view name → AreBehind (sees view) (sees (loaded view name (words name)))
  AreBehind-loaded name may =
      let here = HasWord-load run words views id view world at own name may in
      AreBehind-seen name (words name) (sees view) (sees (loaded view name (words name))) words
      (WritesWord-saw run view of_run name here (words name) (words name)) refl (world.seen.behind id view at)

  -- a load
  pub IsWorld-loaded : (name : Word) → MayLoad view name → IsWorld run words (set views id (loaded view name (words name)))
  IsWorld-loaded name may =
      let here = HasWord-load run words views id view world at own name may in
      let x : ℕ = words name in
      let then : View = loaded view name x in
      let writes = WritesWord-saw run view of_run name here x x in
      let s : Shift = shift_at run words views id view then words in
      let is : IsShift s = record {
        moment = record { world = world; at = at; own = own };
        of_run = IsViewOf-saw run view of_run name here x x;
        one_more = refl;
        go = AreBehind-refl words;
        best = le_refl (words Best);
      } in
      let keeps : KeepsMarks s = record {
        records = λ k. refl;
        counters = λ g. refl;
        crew = refl;
        most = refl;
        holds = λ k. refl;
        idle = world.shares.idle id view at;
        seen_records = λ k. writes.others (RecordOf k) (λ e. subst (MayLoad view) (sym e) may);
      } in
      let on = SeesOn-saw is name x writes refl refl world.seen.pairs in
      let links = LinkedTree-kept is (record { children = λ n side. refl; points = λ n h. refl }) (λ k. refl) refl (λ k. refl) (λ k. refl) in
      IsWorld-leaves is keeps on links (record { word = refl; seen = refl; hand = FollowsHand-refl view.hand }) world.trees
      (Hands-step is (λ n. refl) (λ k. refl) (world.hands.written id view at) (λ k. refl))
      (Pairs-same is (GrowsInto-refl (state_in run words)) (λ n. refl) (λ n h. refl) (λ k. refl) refl)
      (SeesTree-loaded run view words of_run (world.seen.behind id view at) sees_tree name here may)
      (Copies-step is on (λ part. part) (λ other told. inl (refl, told)))
      (KeepsNotes-kept is (LeavesNotes-none is refl (λ other told. inl refl) (λ n seen. refl)
      (shown-one is name (λ e. subst (MayLoad view) e may) (view.steps + 1) x (WritesWord-looked run view of_run name here x x) writes refl refl))
      (λ n side. refl) (λ n side some_child. last_zero-saw run view of_run name here x x (ChildOf n side) (λ e none. some_child (ap words e ∙ none))))

  -- a claim: the counter goes up by one, and the mark is in this hand
  module _ (after : Words) (g c limit : ℕ) (part : 0 < share view) (idle : view.hand ≡ None) (strip : g < run.strips) (is : words (Counter g) ≡ c)
      (low : mark_of run g c < limit) (most : limit ≤ length run.marks) (counts : WritesWord (Counter g) (c + 1) words after) where
    abbrev then : View
    then = claimed view g c limit (steps_then views id view)

    abbrev s : Shift
    s = shift_at run words views id view then after

    go : AreBehind words after
    go = AreBehind-write (Counter g) (c + 1) words after counts (omega (arith, is))

    shift : IsShift s
    shift = record {
      moment = record { world = world; at = at; own = own };
      of_run =
          let v = IsViewOf-saw run view of_run (Counter g) strip c (c + 1) in
          record { run_is = v.run_is; seen = v.seen; looked = v.looked; found_zero = v.found_zero; looks = v.looks; zero_looks = v.zero_looks };
      one_more = refl;
      go = go;
      best = omega (arith, counts.others Best (λ e. cc));
    }

    records : KeepsRecords words after
    records k = counts.others (RecordOf k) (λ e. cc)

    binds : limit ≤ greatest_limit (set views id then)
    binds = le_trans (by_test (share view == 0) refl) (maximum-one limit_of (set views id then) id then (at-set views id view then at))
      where
        by_test : (b : Bool) → (share view == 0) ≡ b → limit ≤ cond b 0 (max view.most limit)
        by_test true e = absurd (omega (arith, eqb-true (share view) 0 e, part))
        by_test false e = omega arith

    quotas : (h : ℕ) → h < run.strips → after (Counter h) ≤ quota_of run.strips h (greatest_limit (set views id then))
    quotas h within =
        elim (cases_eq h g) [
          | inl e ↦ (
              let cut = IsCutAt-quota run.strips g limit strip in
              let top = quota-up run.strips g limit (greatest_limit (set views id then)) strip binds in
              subst (λ s. after (Counter s) ≤ quota_of run.strips s (greatest_limit (set views id then))) (sym e)
              (omega (arith, counts.here, cut.below_quota c low, top)))
          | inr apart ↦ (
              let same = counts.others (Counter h) (λ e. apart cc) in
              let top = quota-up run.strips h (greatest_limit views) (greatest_limit (set views id then)) within (limit-up shift refl (omega arith)) in
              omega (arith, same, world.numbers.quotas h within, top))
        ]

    balance :
        (k : ℕ) → once_if (is_recorded after k) + once_if (holds k then.hand) + once_if (is_claimed run.strips (counters words) k)
        ≡ once_if (is_recorded words k) + once_if (holds k view.hand) + once_if (is_claimed run.strips (counters after) k)
    balance k =
        let recorded = ap once_if (is_recorded-kept words after records k) in
        let none : once_if (holds k view.hand) ≡ 0 = ap (λ h. once_if (holds k h)) idle in
        let mark : once_if (holds k then.hand) ≡ once_if (words (Counter g) * run.strips + g == k) =
        ap (λ r. once_if (mark_of r g c == k)) own ∙ ap (λ n. once_if (n * run.strips + g == k)) (sym is) in
        let more = once_if-claimed run.strips (counters words) (counters after) g k world.run_is.strips.0 strip (counts.here ∙ ap (λ n. n + 1) (sym is))
        (λ h apart. counts.others (Counter h) (λ e. apart cc)) in
        omega (arith, recorded, none, mark, more)

    pub IsWorld-claimed : IsWorld run after (set views id then)
    IsWorld-claimed =
        let writes = WritesWord-saw run view of_run (Counter g) strip c (c + 1) in
        let on : SeesOn s = SeesOn-saw shift (Counter g) (c + 1) writes counts.here refl (HaveWholePairs-write counts (λ n e. cc) world.seen.pairs) in
        let tree_then = SeesTree-claimed run view words of_run (world.seen.behind id view at) sees_tree g c limit strip is (steps_then views id view) in
        let numbers = ClaimedMarks-step shift quotas balance (omega (arith, world.numbers.limits id view at, most))
        (λ k. subst IsRecordWord (sym (records k)) (world.numbers.packed k)) in
        let links = LinkedTree-kept shift keeps records (counts.others Count (λ e. cc)) (none has_link refl) (none has_count refl) in
        let grows = GrowsInto-step shift numbers links in
        let trees = Trees-kept shift numbers links keeps (λ n linked. counts.others (TreeOf n) (λ e. cc)) (λ n linked. counts.others (FirstOf n) (λ e. cc)) in
        let looked = WritesWord-looked run view of_run (Counter g) strip c (c + 1) in
        let kept : KeepsNotes s = KeepsNotes-kept shift (LeavesNotes-one shift (Counter g) strip (c + 1) counts refl
        (shown-one shift (Counter g) (λ e. cc) (view.steps + 1) (c + 1) looked writes counts.here refl)) keeps.children (λ n side some_child.
        last_zero-saw run view of_run (Counter g) strip c (c + 1) (ChildOf n side) (λ e. cc)) in
        let same_best : after Best ≡ words Best = counts.others Best (λ e. cc) in
        record {
          run_is = world.run_is;
          of_run = of_run-step shift;
          numbers = numbers;
          turns = Turns-step shift records refl (λ k same. writes.others (RecordOf k) (λ e. cc) ∙ same);
          shares = Shares-step shift refl (λ none. absurd (omega (arith, none, part)));
          seen = SeenBehind-step shift on;
          links = links;
          trees = trees;
          hands = Hands-step shift (λ n. counts.others (PointOf n) (λ e. cc)) (is_recorded-kept words after records)
              (λ hand held far. let no = ap (λ h. has_point h.stage) (same_Some (new_hand (mark_of view.run g c)) hand held) ∙ far in cc)
              (none has_point refl);
          pairs = Pairs-step shift grows (λ n. counts.others (FirstOf n) (λ e. cc))
              (λ n h. counts.others (TreeOf n) (λ e. cc)) (is_recorded-kept words after records)
              (λ hand held far. let no = ap (λ h. has_first h.stage) (same_Some (new_hand (mark_of view.run g c)) hand held) ∙ far in cc)
              (λ hand held far not_yet. let no = ap (λ h. has_tree h.stage) (same_Some (new_hand (mark_of view.run g c)) hand held) ∙ far in cc)
              (none has_first refl) (none has_tree refl);
          seen_pairs = SeenPairs-step shift on grows trees links tree_then;
          records = Records-kept shift grows records;
          sights = TreesSeen-step shift tree_then;
          copies = Copies-seen shift on (λ had. had) (Counter g) (c + 1) counts keeps part writes.here;
          best_copy = BestCopy-step shift (λ had. had) same_best (λ saw. saw ∙ sym same_best);
          notes = kept.notes;
          empties = kept.empties;
          best = BestWord-kept shift grows same_best records;
          bests = SeenBests-kept shift grows on.more (λ k. writes.others (RecordOf k) (λ e. cc))
              record { word = same_best; seen = refl; hand = FollowsHand-new view.hand (mark_of view.run g c) };
        }
      where
        keeps : KeepsLinks (run_sizes run) words after
        keeps = record { children = λ n side. counts.others (ChildOf n side) (λ e. cc); points = λ n h. counts.others (PointOf n) (λ e. cc) }

        none : (test : Stage → Bool) → test Claimed ≡ false → (k : ℕ) → holds_at test k then.hand ≡ holds_at test k view.hand
        none test not_yet k = holds_at-new test not_yet k (mark_of view.run g c) ∙ sym (ap (holds_at test k) idle)

-- a claim that finds another number than was seen finds a higher one
pub higher-found :
    (run : SharedRun) (words : Words) (views : List View) (id : ℕ) (view : View) → IsWorld run words views → get_elem? views id ≡ some view → (g : ℕ)
    → words (Counter g) ≢ sees view (Counter g) → sees view (Counter g) < words (Counter g)
higher-found run words views id view world at g other = omega (arith, world.seen.behind id view at (Counter g), other)
