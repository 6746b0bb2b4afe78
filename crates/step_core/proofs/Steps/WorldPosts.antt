-- The best word is loaded, and a goal node is posted to it. Both steps keep the law of worlds.
use Rattle.step_core.proofs.Words.{◌≡◌, ◌+◌, ◌<◌, ◌≤◌, ◌^◌, ◌∙◌, ◌⊎◌, ◌==◌, ◌&&◌, ℕ, suc, Bool, true, false, List, set, Option, Some, None, refl, sym, ap}
use Rattle.step_core.proofs.Words.{subst, inl, inr, arith, le_refl, le_trans, IsTrue, cond, eqb-true, div-mul-add, mod-mul-add, same_Some, some, get_elem?}
use Rattle.step_core.proofs.Words.{IsGoalNode, is_goal_point, point_at, GrowsInto, IsPresent-goal, Words, WritesWord, Best, ChildOf, Count, Counter, FirstOf}
use Rattle.step_core.proofs.Words.{PointOf, RecordOf, TreeOf, best_cost_in, best_node_in, best_word, cost_in, point_word, cost_in-tree_word, AreBehind-refl}
use Rattle.step_core.proofs.Words.{min-either, IsLater, IsAtMostPlaced, IsUnskipped, MayPost, SeesGoal, linked_points, has_count, has_first, has_link}
use Rattle.step_core.proofs.Words.{has_point, has_tree, holds_at, best_loaded, best_taken, best_with, hand_with_best, hand_with_post, pair_in_hand, post_noted}
use Rattle.step_core.proofs.Words.{posted, steps_then, with_best, IsSeenPair, SeesTree, IsViewOf, holds, last_look, run_sizes, sees, tree_seen, BestCopy}
use Rattle.step_core.proofs.Words.{IsBestWord, IsFirstOf, IsWorld, LinkedTree, SeesBest, state_in, Hand, Note, SharedRun, Stage, Claimed, Counted, Posted, View}
use Rattle.step_core.proofs.Words.{SeesHand}
use Rattle.step_core.proofs.OneView.LawfulSights.{IsSeenPair-lawful, goal-now, least-now}
use Rattle.step_core.proofs.Parts.LinkedStates.{few_nodes, first_cost-linked, linked-present}
use Rattle.step_core.proofs.Seen.SeenWords.{linked-within, same_once, has_node-kept}
use Rattle.step_core.proofs.Seen.Looks.{same_name, AreBehind-write, cost_in-falls, HaveWholePairs-write}
use Rattle.step_core.proofs.Seen.SeenByViews.{IsViewOf-best, WritesWord-look_best}
use Rattle.step_core.proofs.OneView.SeenViews.{SeesHand-later}
use Rattle.step_core.proofs.Parts.WorldBests.{BestWord-step, IsBestWord-grows, SeesBest-goes_on, SeenBests-step}
use Rattle.step_core.proofs.Parts.ViewLists.{at-set}
use Rattle.step_core.proofs.Parts.WorldCopies.{BestCopy-step, Copies-untold}
use Rattle.step_core.proofs.Parts.NotedSteps.{KeepsNotes, KeepsNotes-kept, LeavesNotes-none, LeavesNotes-one, shown-best}
use Rattle.step_core.proofs.Parts.Shifts.{IsShift, Shift, shift_at}
use Rattle.step_core.proofs.Parts.WorldHands.{Hands-step}
use Rattle.step_core.proofs.Parts.WorldLinks.{KeepsLinks, LinkedTree-kept}
use Rattle.step_core.proofs.Steps.WorldSteps.{IsWorld-kept, KeepsMarks, grows_kept, numbers_kept, live, tree}
use Rattle.step_core.proofs.Parts.WorldPairs.{IsFirstOf-grows, Pairs-step, IsFirstOf-stage}
use Rattle.step_core.proofs.Parts.WorldParts.{is_recorded-kept, SeesOn, SeesOn-same}
use Rattle.step_core.proofs.Parts.WorldTrees.{Trees-kept}

-- ---- hands

-- All tests of stages that the law knows tell the same of a node that is counted and of one that is posted.
abbrev pub TellsSame : (Stage → Bool) → Type 0
TellsSame test = test Posted ≡ test Counted

-- A hand with the same mark and words, that has come as far by all such tests. A best in it that is new has the one property, and if it has
-- posted its node now, it had the other.
pub record IsSameHand (new : ℕ → Type 0) (now : Hand → Type 0) (was next : Hand) : Type 0 where
  pub stage : Stage
  pub best : Option ℕ
  pub is : next ≡ record was { stage = stage; best = best }
  pub far : (test : Stage → Bool) → TellsSame test → test stage ≡ test was.stage
  pub kept : has_point was.stage ≡ true → best ≡ was.best
  pub taken : (word : ℕ) → best ≡ Some word → new word ⊎ (was.best ≡ Some word)
  pub posted : stage ≡ Posted → now was ⊎ (was.stage ≡ Posted)

pub record KeepsHand (new : ℕ → Type 0) (now : Hand → Type 0) (was next : Option Hand) : Type 0 where
  pub old : (hand : Hand) → next ≡ Some hand → (old : Hand) × (was ≡ Some old) × IsSameHand new now old hand
  pub holds : (k : ℕ) → holds k next ≡ holds k was
  pub at : (test : Stage → Bool) → TellsSame test → (k : ℕ) → holds_at test k next ≡ holds_at test k was
  pub none : was ≡ None → next ≡ None

module _ {new : ℕ → Type 0} {now : Hand → Type 0} where
  IsSameHand-refl : (hand : Hand) → IsSameHand new now hand hand
  IsSameHand-refl hand = record {
    stage = hand.stage;
    best = hand.best;
    is = refl;
    far = λ test same. refl;
    kept = λ on. refl;
    taken = λ word has. inr has;
    posted = λ on. inr on;
  }

  KeepsHand-some : (was next : Hand) → IsSameHand new now was next → KeepsHand new now (Some was) (Some next)
  KeepsHand-some was next same = record {
    old = λ hand e. (was, refl, subst (IsSameHand new now was) (same_Some next hand e) same);
    holds = λ k. ap (λ (h : Hand). h.mark == k) same.is;
    at = λ test tells k. ap (λ (h : Hand). (h.mark == k) && test h.stage) same.is ∙ ap (λ b. (was.mark == k) && b) (same.far test tells);
    none = λ e. cc;
  }

  KeepsHand-none : KeepsHand new now None None
  KeepsHand-none = record { old = λ hand e. cc; holds = λ k. refl; at = λ test tells k. refl; none = λ e. refl }

-- a load of the best word: a hand for whose mark nothing is written takes it
abbrev Nobody : Hand → Type 0
Nobody hand = ⊥

taken-same : (stage : Stage) (hand : Hand) (word : ℕ) → hand.stage ≡ stage → IsSameHand (λ w. w ≡ word) Nobody hand (best_taken stage hand word)
taken-same Claimed hand word far = record {
  stage = hand.stage;
  best = Some word;
  is = refl;
  far = λ test same. refl;
  kept = λ on. let no = sym (ap has_point far) ∙ on in cc;
  taken = λ w has. inl (sym (same_Some word w has));
  posted = λ on. inr on;
}
taken-same stage hand word far = IsSameHand-refl hand

KeepsHand-best : (hand : Option Hand) (word : ℕ) → KeepsHand (λ w. w ≡ word) Nobody hand (hand_with_best hand word)
KeepsHand-best None word = KeepsHand-none
KeepsHand-best (Some hand) word = KeepsHand-some hand (best_taken hand.stage hand word) (taken-same hand.stage hand word refl)

-- a post: a hand that has counted the node has posted it
abbrev HasCounted : ℕ → Hand → Type 0
HasCounted n hand = (hand.stage ≡ Counted) × (suc hand.mark ≡ n)

noted-same : (stage : Stage) (hand : Hand) (n : ℕ) → hand.stage ≡ stage → IsSameHand (λ w. ⊥) (HasCounted n) hand (post_noted stage hand n)
noted-same Counted hand n far = by_test (suc hand.mark == n) refl
  where
    by_test : (b : Bool) → (suc hand.mark == n) ≡ b → IsSameHand (λ w. ⊥) (HasCounted n) hand (cond b (record hand { stage = Posted }) hand)
    by_test false e = IsSameHand-refl hand
    by_test true e = record {
      stage = Posted;
      best = hand.best;
      is = refl;
      far = λ test same. same ∙ sym (ap test far);
      kept = λ on. refl;
      taken = λ w has. inr has;
      posted = λ on. inl (far, eqb-true (suc hand.mark) n e);
    }
noted-same stage hand n far = IsSameHand-refl hand

KeepsHand-post : (hand : Option Hand) (n : ℕ) → KeepsHand (λ w. ⊥) (HasCounted n) hand (hand_with_post hand n)
KeepsHand-post None n = KeepsHand-none
KeepsHand-post (Some hand) n = KeepsHand-some hand (post_noted hand.stage hand n) (noted-same hand.stage hand n refl)

-- ---- a step on the best word

-- What is left there is a pair, and at most what the view knew. So it is of a best that the hand takes, and of the pair of a node that it posts,
-- which is a goal node.
record SeesLeast (run : SharedRun) (words : Words) (view : View) (best : ℕ) (new : ℕ → Type 0) (now : Hand → Type 0) : Type 0 where
  less : best ≤ view.best
  pair : IsBestWord run words best
  placed : IsAtMostPlaced view best
  taken : (word : ℕ) → new word → IsBestWord run words word × (best ≤ word) × IsAtMostPlaced view word
  posted : (hand : Hand) → view.hand ≡ Some hand → now hand
      → (best ≤ best_word hand.cost (suc hand.mark)) × IsTrue (is_goal_point view.run.goals (Some hand.point))

module _ (run : SharedRun) (words after : Words) (views : List View) (id : ℕ) (view : View) (world : IsWorld run words views)
    (at : get_elem? views id ≡ some view) (own : view.run ≡ run) (best : ℕ) (falls : best ≤ words Best) (writes : WritesWord Best best words after)
    (next : Option Hand) (notes : List Note) {new : ℕ → Type 0} {now : Hand → Type 0} (same_hand : KeepsHand new now view.hand next)
    (least : SeesLeast run words view best new now) where
  abbrev then : View
  then = record (with_best view best next) { notes = notes }

  abbrev s : Shift
  s = shift_at run words views id view then after

  shift : IsShift s
  shift = record {
    moment = record { world = world; at = at; own = own };
    of_run = IsViewOf-best run view (live run words views id view world at own) best next notes;
    one_more = refl;
    go = AreBehind-write Best best words after writes tt;
    best = omega (arith, writes.here, falls);
  }

  -- it holds what it held
  SeesTree-best : SeesTree view → SeesTree then
  SeesTree-best tree = record {
    rooted = tree.rooted;
    placed = tree.placed;
    placed_first = tree.placed_first;
    holds = λ hand held.
        let was = same_hand.old hand held in
        let same = was.2 in
        let node = SeesHand-later view then refl (AreBehind-refl (sees view)) was.0 (tree.holds was.0 was.1) in
        subst (SeesHand then) (sym same.is) record {
          steered_from = λ on. node.steered_from (sym (same.far has_point refl) ∙ on);
          other = λ on. node.other (sym (same.far has_point refl) ∙ on);
          unskipped = λ on.
              let far = sym (same.far has_point refl) ∙ on in
              subst (λ b. IsUnskipped view (record was.0 { best = b })) (sym (same.kept far)) (node.unskipped far);
          shown = λ on. node.shown (sym (same.far has_link refl) ∙ on);
          first_shown = λ on. node.first_shown (sym (same.far has_link refl) ∙ on);
          posted = λ on. elim (same.posted on) [ inl goal ↦ (least.posted was.0 was.1 goal).1 | inr had ↦ node.posted had ];
        };
  }

  keeps : KeepsMarks s
  keeps = record {
    records = λ k. writes.others (RecordOf k) (λ e. cc);
    counters = λ g. writes.others (Counter g) (λ e. cc);
    crew = refl;
    most = refl;
    holds = same_hand.holds;
    idle = λ none. same_hand.none (world.shares.idle id view at none);
    seen_records = λ k. refl;
  }

  on : SeesOn s
  on = SeesOn-same shift refl refl (HaveWholePairs-write writes (λ n e. cc) world.seen.pairs)

  keeps_links : KeepsLinks (run_sizes run) words after
  keeps_links = record { children = λ n side. writes.others (ChildOf n side) (λ e. cc); points = λ n linked. writes.others (PointOf n) (λ e. cc) }

  links : LinkedTree run after (set views id then)
  links =
      LinkedTree-kept shift keeps_links keeps.records (writes.others Count (λ e. cc)) (same_hand.at has_link refl) (same_hand.at has_count refl)

  grows : GrowsInto (state_in run words) (state_in run after)
  grows = grows_kept shift keeps on links

  SeesBest-best : SeesBest run after then
  SeesBest-best =
      let saw = SeesBest-goes_on run words after grows shift.best view (world.bests id view at own) in
      record {
        pair = IsBestWord-grows run words after grows best least.pair;
        falls = omega (arith, writes.here);
        placed = least.placed;
        taken_pair = λ hand word held has.
            let was = same_hand.old hand held in
            elim (was.2.taken word (sym (ap (λ (h : Hand). h.best) was.2.is) ∙ has)) [
              | inl fresh ↦ IsBestWord-grows run words after grows word (least.taken word fresh).0
              | inr had ↦ saw.taken_pair was.0 word was.1 had
            ];
        taken = λ hand word held has.
            let was = same_hand.old hand held in
            elim (was.2.taken word (sym (ap (λ (h : Hand). h.best) was.2.is) ∙ has)) [
              | inl fresh ↦ ((least.taken word fresh).1, (least.taken word fresh).2)
              | inr had ↦ (let low = saw.taken was.0 word was.1 had in (le_trans least.less low.0, low.1))
            ];
        posted = λ hand held far.
            let was = same_hand.old hand held in
            subst (λ (h : Hand). best ≤ best_word h.cost (suc h.mark)) (sym was.2.is) (elim (was.2.posted (sym (ap (λ (h : Hand). h.stage) was.2.is) ∙ far)) [
              | inl counted ↦ (least.posted was.0 was.1 counted).0
              | inr had ↦ le_trans least.less (saw.posted was.0 was.1 had)
            ]);
      }

  -- It keeps the law, if some view with a share knows the best word.
  IsWorld-best : (IsShift s → KeepsNotes s) → (IsShift s → BestCopy run after (set views id then)) → IsWorld run after (set views id then)
  IsWorld-best kept best_copy =
      let recorded = is_recorded-kept words after keeps.records in
      let firsts : (n : ℕ) → after (FirstOf n) ≡ words (FirstOf n) = λ n. writes.others (FirstOf n) (λ e. cc) in
      let trees : (n : ℕ) → after (TreeOf n) ≡ words (TreeOf n) = λ n. writes.others (TreeOf n) (λ e. cc) in
      IsWorld-kept shift keeps on links
      (Trees-kept shift (numbers_kept shift keeps) links keeps_links (λ n linked. trees n) (λ n linked. firsts n))
      (Hands-step shift (λ n. writes.others (PointOf n) (λ e. cc)) recorded (λ hand held far.
      let was = same_hand.old hand held in
      let there = world.hands.written id view at was.0 was.1 (back has_point refl was.2 far) in
      subst (λ (h : Hand). words (PointOf (suc h.mark)) ≡ point_word h.point) (sym was.2.is) there) (same_hand.at has_point refl))
      (Pairs-step shift grows firsts (λ n linked. trees n) recorded (λ hand held far.
      let was = same_hand.old hand held in
      let first = world.pairs.first id view at was.0 was.1 (back has_first refl was.2 far) in
      subst (IsFirstOf run after) (sym was.2.is) (IsFirstOf-stage run after was.0 was.2.stage was.2.best
      (IsFirstOf-grows run words after was.0 grows (firsts (suc was.0.mark)) first))) (λ hand held far not_yet.
      let was = same_hand.old hand held in
      let there = world.pairs.tree id view at was.0 was.1 (back has_tree refl was.2 far) (back has_link refl was.2 not_yet) in
      subst (λ (h : Hand). after (TreeOf (suc h.mark)) ≡ pair_in_hand h) (sym was.2.is) (trees (suc was.0.mark) ∙ there))
      (same_hand.at has_first refl) (same_hand.at has_tree refl))
      (SeesTree-best (tree run words views id view world at own))
      (Copies-untold shift on (λ part. part) Best best writes keeps_links (λ told. told)) (best_copy shift) (kept shift)
      (BestWord-step shift grows (subst (IsBestWord run after) (sym writes.here) (IsBestWord-grows run words after grows best least.pair))
      (λ n node goal. inl (sym (has_node-kept words after keeps.records n) ∙ node))) (SeenBests-step shift grows SeesBest-best)
    where
      -- what a test tells of the hand now it told before
      back : (test : Stage → Bool) → TellsSame test → {was hand : Hand} {b : Bool} → IsSameHand new now was hand → test hand.stage ≡ b → test was.stage ≡ b
      back test tells same far = sym (same.far test tells) ∙ ap (λ (h : Hand). test h.stage) (sym same.is) ∙ far

-- ---- what is seen against what is so

-- what a post leaves, by itself, is a pair
module _ (words : Words) (views : List View) (id : ℕ) (view : View) (world : IsWorld view.run words views) (at : get_elem? views id ≡ some view) where
  sees_tree : SeesTree view
  sees_tree = world.sights id view at refl

  goal-so : (n : ℕ) → SeesGoal view n → IsGoalNode view.run.goals (linked_points (run_sizes view.run) words) n
  goal-so = goal-now words view (world.seen.behind id view at) sees_tree world.links.ways

  pub least-so : IsAtMostPlaced view (words Best)
  least-so = least-now words view (world.seen.behind id view at) sees_tree world.links.ways world.trees.start_first world.best

  module _ (n : ℕ) (may : MayPost view n) where
    low : n < 2 ^ 18
    low =
        let here = linked-within (run_sizes view.run) words n
        (IsPresent-goal view.run.goals (point_at (linked_points (run_sizes view.run) words) n) (goal-so n may.goal)) in
        omega (arith, here, world.run_is.marks)

    pair_seen : IsSeenPair view n
    pair_seen =
        IsSeenPair-lawful view words (world.seen.behind id view at) sees_tree world.links.ways world.run_is world.trees (world.seen_pairs id view at refl)
        (first_cost-linked view.run words views world.numbers world.links world.trees.start_first) (linked-present (run_sizes view.run) words)
        (few_nodes view.run words world.run_is) n may.written

    IsBestWord-pair : IsBestWord view.run words (best_word (cost_in (sees view (TreeOf n))) n)
    IsBestWord-pair some_pair =
        let cost : ℕ = cost_in (sees view (TreeOf n)) in
        let node : best_node_in (best_word cost n) ≡ n = mod-mul-add cost (2 ^ 18) n low in
        let paid : best_cost_in (best_word cost n) ≡ cost = div-mul-add cost (2 ^ 18) n low in
        let falls = cost_in-falls (sees view (TreeOf n)) (words (TreeOf n)) may.written (world.seen.behind id view at (TreeOf n)) in (
          subst (IsGoalNode view.run.goals (linked_points (run_sizes view.run) words)) (sym node) (goal-so n may.goal),
          subst (λ m. cost_in (words (TreeOf m)) ≤ best_cost_in (best_word cost n)) (sym node) (omega (arith, paid, falls)),
          omega (arith, paid, pair_seen.low),
        )

    -- it is at most the pair of the mark in hand, if that is it
    below-hand : (hand : Hand) → view.hand ≡ Some hand → has_link hand.stage ≡ true → has_first hand.stage ≡ true → suc hand.mark ≡ n
        → best_word (cost_in (sees view (TreeOf n))) n ≤ best_word hand.cost (suc hand.mark)
    below-hand hand held linked first is =
        let behind = world.seen.behind id view at in
        let own_first = world.pairs.first id view at hand held first in
        let shown = subst (λ m. 2 ^ 63 ≤ sees view (FirstOf m)) is ((sees_tree.holds hand held).first_shown linked) in
        let now : sees view (FirstOf n) ≡ pair_in_hand hand =
        same_once (behind (FirstOf n)) (omega (arith, shown)) ∙ ap (λ m. words (FirstOf m)) (sym is) ∙ own_first.word in
        let paid = ap cost_in now ∙ cost_in-tree_word hand.parent hand.cost own_first.fits.0 own_first.fits.1 in
        omega (arith, pair_seen.first shown, paid, is)

-- ---- a load

module _ (run : SharedRun) (words : Words) (views : List View) (id : ℕ) (view : View) (world : IsWorld run words views)
    (at : get_elem? views id ≡ some view) (own : view.run ≡ run) where
  least-seen : IsAtMostPlaced view (words Best)
  least-seen = least-so words views id view (subst (λ r. IsWorld r words views) (sym own) world) at

  pub IsWorld-best_loaded : IsWorld run words (set views id (best_loaded view (words Best)))
  IsWorld-best_loaded =
      let next : Option Hand = hand_with_best view.hand (words Best) in
      let looks = WritesWord-look_best run view (live run words views id view world at own) (words Best) next view.notes in
      IsWorld-best run words words views id view world at own (words Best) (le_refl (words Best)) (record { here = refl; others = λ name apart. refl })
      next view.notes (KeepsHand-best view.hand (words Best)) record {
        less = (world.bests id view at own).falls;
        pair = world.best.pair;
        placed = least-seen;
        taken = λ word is.
            subst (λ w. IsBestWord run words w × (words Best ≤ w) × IsAtMostPlaced view w) (sym is) (world.best.pair, le_refl (words Best), least-seen);
        posted = λ hand held no. absurd no;
      }
      (λ is. KeepsNotes-kept is (LeavesNotes-none is refl (λ name told. inl refl) (λ n seen. refl)
      (shown-best is (view.steps + 1) looks (λ name. refl) refl)) (λ n side. refl) (λ n side some_child. refl))
      (λ is. BestCopy-step is (λ part. part) refl (λ saw. refl))

-- the view is a later one then
pub IsLater-best :
    (run : SharedRun) (view : View) → IsViewOf run view → (best : ℕ) (next : Option Hand) (notes : List Note) → best ≤ view.best
    → IsLater view (record (with_best view best next) { notes = notes })
IsLater-best run view of_run best next notes falls =
    let looks = WritesWord-look_best run view of_run best next notes in
    record {
      run = refl;
      seen = AreBehind-refl (sees view);
      best = falls;
      steps = omega arith;
      looked = λ name.
          elim (same_name name Best) [
            | inl e ↦ inr (omega (arith, ap (last_look (record (with_best view best next) { notes = notes })) e, looks.here))
            | inr apart ↦ inl (looks.others name apart)
          ];
      zero_found = λ name told. inl refl;
    }

-- ---- a post

module _ (run : SharedRun) (words after : Words) (views : List View) (id : ℕ) (view : View) (world : IsWorld run words views)
    (at : get_elem? views id ≡ some view) (own : view.run ≡ run) (n : ℕ) (may : MayPost view n)
    (writes : WritesWord Best (best_with view n (words Best)) words after) where
  abbrev lesser : ℕ
  lesser = best_with view n (words Best)

  abbrev later : View
  later = posted view n (words Best) (steps_then views id view)

  here : IsWorld view.run words views
  here = subst (λ r. IsWorld r words views) (sym own) world

  pair-lesser : IsBestWord run words lesser
  pair-lesser =
      min-either (IsBestWord run words) (words Best) (best_word (cost_in (sees view (TreeOf n))) n) world.best.pair
      (subst (λ r. IsBestWord r words (best_word (cost_in (sees view (TreeOf n))) n)) own (IsBestWord-pair words views id view here at n may))

  least : SeesLeast run words view lesser (λ w. ⊥) (HasCounted n)
  least =
      let was = world.bests id view at own in
      let less : lesser ≤ view.best = omega (arith, was.falls) in
      record {
        less = less;
        pair = pair-lesser;
        placed = λ m node goal. le_trans less (was.placed m node goal);
        taken = λ word no. absurd no;
        posted = λ hand held counted. (
          omega (arith, below-hand words views id view here at n may hand held (ap has_link counted.0) (ap has_first counted.0) counted.1),
          -- the node is the one that is posted
          subst (λ o. IsTrue (is_goal_point view.run.goals o)) (ap (point_at (tree_seen view).points) (sym counted.1)
              ∙ ((tree run words views id view world at own).holds hand held).shown (ap has_link counted.0)) may.goal,
        );
      }

  pub IsWorld-posted : IsWorld run after (set views id later)
  IsWorld-posted =
      let looks = WritesWord-look_best run view (live run words views id view world at own) lesser (hand_with_post view.hand n) later.notes in
      IsWorld-best run words after views id view world at own lesser (omega arith) writes (hand_with_post view.hand n) later.notes
      (KeepsHand-post view.hand n) least
      (λ is. KeepsNotes-kept is (LeavesNotes-one is Best tt lesser writes refl (shown-best is (view.steps + 1) looks (λ name. refl) (sym writes.here)))
      (λ m side. writes.others (ChildOf m side) (λ e. cc)) (λ m side some_child. refl))
      (λ is. record { id = id; view = later; at = at-set views id view later at; run_is = own; part = may.part; same = sym writes.here })
